-- Where a rule of a joint book stands. Assumes nothing.
--     at_place a b p    the rule of the first book a or the second book b that is at the place p, if there is one
use Rattle.std.specs.Prelude.{ℕ, List, Some, None, Option}
use Rattle.std.specs.List.{slice_get}
use Rattle.norms.specs.Programs.{Rule}
use Rattle.joint.specs.declared.joint.Place.{Place}
use Rattle.joint.specs.declared.joint.Place.TheVariants.{First, Second}

abbrev pub at_place : List (Rule ℕ) → List (Rule ℕ) → Option Place → Option (Rule ℕ)
at_place a b None = None
at_place a b (Some (First n)) = slice_get a n
at_place a b (Some (Second n)) = slice_get b n
