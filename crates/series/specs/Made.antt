-- The book that is made of a series, whether it passes the check or not. Assumes nothing.
--     made_rules row m    the rules of the series; none where the check refuses
--     rules_of s          the rules of a `Series`
use Rattle.std.specs.Prelude.{ℕ, List}
use Rattle.refusals.specs.Checks.{where_passes}
use Rattle.norms.specs.Programs.{Rule}
use Rattle.series.specs.declared.movement.Movement.{Movement}
use Rattle.series.specs.declared.series.Series.{Series}
use Rattle.series.specs.Moved.{series_rules}
use Rattle.series.specs.Checks.{series_check}

abbrev pub made_rules : List ℕ → Movement → List (Rule ℕ)
made_rules row m = where_passes (series_check row m) (series_rules row m)

abbrev pub rules_of : Series → List (Rule ℕ)
rules_of s = series_rules s.moving_row.row.bytes.now s.moving_row.movement
