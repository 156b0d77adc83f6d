-- The rules that are left where some are set aside by their numbers. Assumes nothing.
--     rest_from ns i rules    of rules that are numbered from i on, those whose number is not among ns, in their order
--     rest ns rules           the same of rules that are numbered from 0 on
--     rising_from i ns        each number is above the one before, and the first is at least i
--     NothingAside rules      law: where nothing is set aside, all rules are left
--     at_number rules o       the rule of this number, if there is one
use Rattle.std.specs.Prelude.{◌≡◌, ℕ, ◌+◌, Bool, true, cond, ◌&&◌, List, [], ◌∷◌, Some, None, Option, nat_le}
use Rattle.std.specs.List.{slice_get}
use Rattle.marks.specs.Sets.{among}
use Rattle.norms.specs.Programs.{Rule}

abbrev pub rest_from : List ℕ → ℕ → List (Rule ℕ) → List (Rule ℕ)
rest_from ns i [] = []
rest_from ns i (r ∷ rules) = cond (among ns i) (rest_from ns (i + 1) rules) (r ∷ rest_from ns (i + 1) rules)

abbrev pub rest : List ℕ → List (Rule ℕ) → List (Rule ℕ)
rest ns rules = rest_from ns 0 rules

abbrev pub rising_from : ℕ → List ℕ → Bool
rising_from i [] = true
rising_from i (n ∷ ns) = nat_le i n && rising_from (n + 1) ns

abbrev pub NothingAside : List (Rule ℕ) → Type 0
NothingAside rules = rest [] rules ≡ rules

abbrev pub at_number : List (Rule ℕ) → Option ℕ → Option (Rule ℕ)
at_number rules None = None
at_number rules (Some n) = slice_get rules n
