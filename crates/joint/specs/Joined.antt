-- Two books as one. Assumes nothing.
--     joint_check a b    refuses books that have more than 1,024 rules in all (12)
--     joint_rules a b    the rules of the first book followed by those of the second; where the check refuses them,
--                        those of the first alone
--     meant c a b        the same by the answer of the check c: both, or the first alone
--     EitherOrder a b    law: where the check passes, joining in either order gives equal rules
use Rattle.std.specs.Prelude.{◌≡◌, ℕ, ◌+◌, List, ◌++◌, length, Some, None, Option, nat_lt}
use Rattle.refusals.specs.declared.Told.{Told}
use Rattle.refusals.specs.Telling.{refusal}
use Rattle.refusals.specs.Checks.{refuse_if, where_passes}
use Rattle.norms.specs.Programs.{Rule}
use Rattle.norms.specs.Equal.{Equal}

abbrev pub joint_check : List (Rule ℕ) → List (Rule ℕ) → Option Told
joint_check a b = refuse_if (nat_lt 1024 (length a + length b)) (refusal 12 0)

abbrev pub joint_rules : List (Rule ℕ) → List (Rule ℕ) → List (Rule ℕ)
joint_rules a b = a ++ where_passes (joint_check a b) b

abbrev pub meant : Option Told → List (Rule ℕ) → List (Rule ℕ) → List (Rule ℕ)
meant None a b = a ++ b
meant (Some t) a b = a

abbrev pub EitherOrder : List (Rule ℕ) → List (Rule ℕ) → Type 0
EitherOrder a b = joint_check a b ≡ None → Equal (joint_rules a b) (joint_rules b a)
