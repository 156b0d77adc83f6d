-- Asking for one entry of a list. Assumes nothing.
--     listed xs k    entry k of the list, counted from 0, or how many entries it has
use Rattle.std.specs.Prelude.{ℕ, List, length, Result}
use Rattle.std.specs.List.{slice_get}
use Rattle.std.specs.Option.{ok_or}

abbrev pub listed : {X : Type 0} → List X → ℕ → Result X ℕ
listed xs k = ok_or (slice_get xs k) (length xs)
