-- How many numbers below a bound a set has. Assumes nothing.
--     many n S   how many numbers below n are in S
use Rattle.std.proofs.Common.{◌≡◌, ℕ, zero, suc, ◌+◌, ◌<◌, ◌≤◌, Bool, true, false, sym, refl, subst, ⊎_elim, arith}
use Rattle.std.proofs.lemmas.Bool.{cases_eq}
use Rattle.marks.specs.Sets.{Set, ◌∈◌, ◌⊆◌}

-- one where the test is passed
pub one : Bool → ℕ
one true = 1
one false = 0

unfoldable pub many : ℕ → Set ℕ → ℕ
many zero S = 0
many (suc n) S = many n S + one (S n)

one_le : (b : Bool) → one b ≤ 1
unfolding one
one_le true = omega arith
one_le false = omega arith

one_mono : (a b : Bool) → (a ≡ true → b ≡ true) → one a ≤ one b
unfolding one
one_mono true b h = subst (λ x. 1 ≤ one x) (sym (h refl)) (omega arith)
one_mono false b h = omega arith

one_grows : (a b : Bool) → a ≡ false → b ≡ true → one a < one b
unfolding one
one_grows a b lacks held = subst (λ x. one x < one b) (sym lacks) (subst (λ x. 0 < one x) (sym held) (omega arith))

pub many_le : (n : ℕ) (S : Set ℕ) → many n S ≤ n
unfolding many
many_le zero S = omega arith
many_le (suc n) S = omega (arith, many_le n S, one_le (S n))

module _ (S R : Set ℕ) (part : S ⊆ R) where
  pub many_mono : (n : ℕ) → many n S ≤ many n R
  unfolding many
  many_mono zero = omega arith
  many_mono (suc n) = omega (arith, many_mono n, one_mono (S n) (R n) (part n))

  pub many_grows : (n m : ℕ) → m < n → m ∈ R → S m ≡ false → many n S < many n R
  unfolding many
  many_grows zero m below held new = absurd (omega arith)
  many_grows (suc n) m below held new =
      ⊎_elim
      (λ same. omega (arith, many_mono n, one_grows (S n) (R n) (subst (λ x. S x ≡ false) same new) (subst (λ x. x ∈ R) same held)))
      (λ apart. omega (arith, many_grows n m (omega arith) held new, one_mono (S n) (R n) (part n)))
      (cases_eq m n)
