-- The numbers below n as a list. Assumes nothing.
use Rattle.std.proofs.Common.{◌≡◌, ℕ, zero, suc, ◌<◌, [], ◌∷◌, length, get_or, refl, ◌∙◌, ⊎_elim, arith}
use Rattle.std.proofs.lemmas.List.{length_push, get_or_push, get_or_append_left}
use Rattle.std.proofs.lemmas.Bool.{cases_lt}
use Rattle.marks.specs.Members.{counted}

pub length_counted : (n : ℕ) → length (counted n) ≡ n
unfolding counted
length_counted zero = refl
length_counted (suc n) = omega (arith, length_push (counted n) n, length_counted n)

pub get_or_counted : (n i : ℕ) → i < n → get_or (counted n) i 0 ≡ i
unfolding counted
get_or_counted zero i lt = absurd (omega arith)
get_or_counted (suc n) i lt =
    ⊎_elim
    (λ below. get_or_append_left (counted n) (n ∷ []) 0 i (omega (arith, length_counted n)) ∙ get_or_counted n i below)
    (λ last. get_or_push (counted n) n 0 i (omega (arith, length_counted n)) ∙ omega arith)
    (cases_lt i n)
