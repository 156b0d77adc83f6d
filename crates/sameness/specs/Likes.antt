-- Rules that have their like in another list. Assumes nothing.
--     Covered a b    each of the rules a has its like in the rules b
use Rattle.std.specs.Prelude.{ℕ, List}
use Rattle.std.specs.List.{ContainsAt}
use Rattle.norms.specs.Programs.{Rule}
use Rattle.norms.specs.Equal.{Covers}

abbrev pub Covered : List (Rule ℕ) → List (Rule ℕ) → Type 0
Covered a b = (r : Rule ℕ) → ContainsAt a r → Covers b r
