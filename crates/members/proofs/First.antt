-- The first number that passes a test, and the first bit of a number. Assumes nothing.
use Rattle.std.proofs.Common.{◌≡◌, ℕ, zero, suc, ◌+◌, ◌-◌, ◌/◌, ◌%◌, ◌<◌, Bool, true, false, cond, sym, refl, ap, ◌∙◌, subst, ap₂, ⊎_elim, arith}
use lib.Count.{count_trailing_zeros, under}
use Rattle.std.proofs.lemmas.Bool.{cases_lt}
use Rattle.marks.specs.Members.{number_of}
use Rattle.members.proofs.Numbers.{part_le, number_by_lowest}

-- no number below n passes f
abbrev pub NoneBelow : (ℕ → Bool) → ℕ → Type 0
NoneBelow f n = (k : ℕ) → k < n → f k ≡ false

-- none of the first a, and none of the n that follow
pub none_on : (f : ℕ → Bool) (a n : ℕ) → NoneBelow f a → NoneBelow (λ k. f (a + k)) n → NoneBelow f (a + n)
none_on f a n low high k lt =
    ⊎_elim (low k)
    (λ past. let at : k ≡ a + (k - a) = omega arith in ap f at ∙ high (k - a) (omega arith))
    (cases_lt k a)

-- t is the first of n numbers that passes f, or n where none does
pub record First (f : ℕ → Bool) (n t : ℕ) : Type 0 where
  pub here : t < n → f t ≡ true
  pub before : NoneBelow f t

-- the first of the numbers from 0 on, by the first of those from 1 on
first_from_next : (f : ℕ → Bool) (n t : ℕ) (b : Bool) → f 0 ≡ b → First (λ k. f (suc k)) n t → First f (suc n) (under (cond b 1 0) t)
first_from_next f n t true e next = record { here = λ lt. e; before = λ k lt. absurd (omega arith) }
first_from_next f n t false e next = record { here = λ lt. next.here (omega arith); before = before }
  where
    before : NoneBelow f (suc t)
    before zero lt = e
    before (suc k) lt = next.before k (omega arith)

-- the zeros at the low end of a number lead to its first bit
pub first_bit : (f : ℕ → Bool) (n : ℕ) → First f n (count_trailing_zeros n (number_of f n))
unfolding count_trailing_zeros
first_bit f zero = record { here = λ lt. absurd (omega arith); before = λ k lt. absurd (omega arith) }
first_bit f (suc n) =
    let low : number_of f (suc n) % 2 ≡ cond (f 0) 1 0 = omega (arith, number_by_lowest f n, part_le (f 0) 1) in
    let high : number_of f (suc n) / 2 ≡ number_of (λ k. f (suc k)) n = omega (arith, number_by_lowest f n, part_le (f 0) 1) in
    let next = first_from_next f n _ (f 0) refl (first_bit (λ k. f (suc k)) n) in
    subst (First f (suc n)) (sym (ap₂ (λ r q. under r (count_trailing_zeros n q)) low high)) next
