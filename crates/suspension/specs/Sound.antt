-- The rules that are left keep the bounds of a book: the proof that the interface of a book asks for. It stands here
-- since an impl can take it from no other place, and need not be read. Assumes nothing.
use Rattle.std.specs.Prelude.{ℕ, ◌+◌, ◌≤◌, List, [], ◌∷◌, length}
use Rattle.std.proofs.Common.{arith}
use Rattle.std.specs.List.{AllByRecursion}
use Rattle.std.proofs.lemmas.Bool.{cond_both}
use Rattle.marks.specs.Sets.{among}
use Rattle.norms.specs.Programs.{Rule}
use Rattle.norms.specs.Rules.{SoundRule, SoundBook}
use Rattle.suspension.specs.Rest.{rest_from, rest}

-- what is left is no more than there was
pub rest_few : (ns : List ℕ) (i : ℕ) (rules : List (Rule ℕ)) → length (rest_from ns i rules) ≤ length rules
rest_few ns i [] = omega arith
rest_few ns i (r ∷ rules) =
    cond_both (among ns i) (rest_from ns (i + 1) rules) (r ∷ rest_from ns (i + 1) rules) (λ left. length left ≤ length (r ∷ rules))
    (λ _. omega (arith, rest_few ns (i + 1) rules))
    (λ _. omega (arith, rest_few ns (i + 1) rules))

-- what holds of each rule holds of each that is left
pub rest_all : (P : Rule ℕ → Type 0) (ns : List ℕ) (i : ℕ) (rules : List (Rule ℕ)) → AllByRecursion P rules → AllByRecursion P (rest_from ns i rules)
rest_all P ns i [] each = tt
rest_all P ns i (r ∷ rules) each =
    cond_both (among ns i) (rest_from ns (i + 1) rules) (r ∷ rest_from ns (i + 1) rules) (AllByRecursion P)
    (λ _. rest_all P ns (i + 1) rules each.1)
    (λ _. (each.0, rest_all P ns (i + 1) rules each.1))

pub sound_rest : (ns : List ℕ) (rules : List (Rule ℕ)) → SoundBook rules → SoundBook (rest ns rules)
sound_rest ns rules sound = record { few = omega (arith, rest_few ns 0 rules, sound.few); each = rest_all SoundRule ns 0 rules sound.each }
