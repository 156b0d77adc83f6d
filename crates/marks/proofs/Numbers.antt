-- Numbers by their bits: a number below a power of two is the sum of its bits. Assumes nothing.
use Rattle.std.proofs.Common.{◌≡◌, ℕ, zero, suc, ◌+◌, ◌*◌, ◌/◌, ◌%◌, ◌^◌, ◌<◌, Bool, cond, eqb, sym, refl, ap, ◌∙◌, ap₂, mod-eq_of_lt, arith}
use native.Mathlib.Nat.{mod-one}
use Rattle.std.proofs.lemmas.Nat.{mod-pow-add, mod_below}
use Rattle.marks.specs.Members.{number_of}
use Rattle.marks.specs.Words.{bit}

pub number_same : (f g : ℕ → Bool) (n : ℕ) → ((k : ℕ) → k < n → f k ≡ g k) → number_of f n ≡ number_of g n
unfolding number_of
number_same f g zero same = refl
number_same f g (suc n) same =
    ap₂ (λ m b. m + cond b (2 ^ n) 0) (number_same f g n (λ k lt. same k (omega arith))) (same n (omega arith))

-- what a bit adds to its number
worth : (x p : ℕ) → x < 2 → cond (eqb x 1) p 0 ≡ x * p
worth zero p h = omega arith
worth (suc zero) p h = omega arith
worth (suc (suc x)) p h = absurd (omega arith)

sum_of_bits : (w n : ℕ) → number_of (bit w) n ≡ w % 2 ^ n
unfolding number_of bit
sum_of_bits w zero = sym (mod-one w)
sum_of_bits w (suc n) =
    let on : 1 + n ≡ suc n = omega arith in
    ap₂ (λ a b. a + b) (sum_of_bits w n) (worth (w / 2 ^ n % 2) (2 ^ n) (mod_below (w / 2 ^ n) 2 (omega arith)))
    ∙ omega (arith, mod-pow-add w 1 n)
    ∙ ap (λ k. w % 2 ^ k) on

pub number_of_bits : (w n : ℕ) → w < 2 ^ n → number_of (bit w) n ≡ w
number_of_bits w n fits = sum_of_bits w n ∙ mod-eq_of_lt fits
