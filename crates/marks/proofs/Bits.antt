-- Bit k of a disjunction, of a conjunction, of a complement and of a power of two. Assumes nothing.
use Rattle.std.proofs.Common.{◌≡◌, ℕ, zero, suc, ◌+◌, ◌-◌, ◌/◌, ◌%◌, ◌^◌, ◌<◌, min, max, false, not, ◌&&◌, ◌||◌, eqb, sym, refl, ap, ◌∙◌, ⊎_elim, pow-suc, div-one, arith}
use lib.Bits.{bit_and, bit_or, and_step, or_step}
use Rattle.std.proofs.lemmas.Nat.{or_shr, and_shr, and_mask, mod_below, shl-shr, shr-shr, pow-add, pow_pos, pow_below, div_below}
use Rattle.std.proofs.lemmas.Bool.{cases_order, eq-eqb, ne_eqb}
use Rattle.marks.specs.Words.{bit}

-- what the test of a bit computes
pub bit_read : (w k : ℕ) → eqb (bit_and (w / 2 ^ k) 1) 1 ≡ bit w k
unfolding bit
bit_read w k = ap (λ x. eqb x 1) (and_mask (w / 2 ^ k) 1)

or_low : (a b : ℕ) → bit_or a b % 2 ≡ max (a % 2) (b % 2)
or_low a b = omega (arith, or_step a b)

-- the larger of two bits is set where either is
max_bit : (x y : ℕ) → x < 2 → y < 2 → eqb (max x y) 1 ≡ (eqb x 1 || eqb y 1)
max_bit zero zero h k = refl
max_bit zero (suc zero) h k = refl
max_bit zero (suc (suc y)) h k = absurd (omega arith)
max_bit (suc zero) zero h k = refl
max_bit (suc zero) (suc zero) h k = refl
max_bit (suc zero) (suc (suc y)) h k = absurd (omega arith)
max_bit (suc (suc x)) y h k = absurd (omega arith)

pub bit_bit_or : (a b k : ℕ) → bit (bit_or a b) k ≡ (bit a k || bit b k)
unfolding bit
bit_bit_or a b k =
    ap (λ x. eqb (x % 2) 1) (or_shr a b k)
    ∙ ap (λ x. eqb x 1) (or_low (a / 2 ^ k) (b / 2 ^ k))
    ∙ max_bit (a / 2 ^ k % 2) (b / 2 ^ k % 2) (mod_below (a / 2 ^ k) 2 (omega arith)) (mod_below (b / 2 ^ k) 2 (omega arith))

and_low : (a b : ℕ) → bit_and a b % 2 ≡ min (a % 2) (b % 2)
and_low a b = omega (arith, and_step a b)

-- the smaller of two bits is set where both are
min_bit : (x y : ℕ) → x < 2 → y < 2 → eqb (min x y) 1 ≡ (eqb x 1 && eqb y 1)
min_bit zero zero h k = refl
min_bit zero (suc zero) h k = refl
min_bit zero (suc (suc y)) h k = absurd (omega arith)
min_bit (suc zero) zero h k = refl
min_bit (suc zero) (suc zero) h k = refl
min_bit (suc zero) (suc (suc y)) h k = absurd (omega arith)
min_bit (suc (suc x)) y h k = absurd (omega arith)

pub bit_bit_and : (a b k : ℕ) → bit (bit_and a b) k ≡ (bit a k && bit b k)
unfolding bit
bit_bit_and a b k =
    ap (λ x. eqb (x % 2) 1) (and_shr a b k)
    ∙ ap (λ x. eqb x 1) (and_low (a / 2 ^ k) (b / 2 ^ k))
    ∙ min_bit (a / 2 ^ k % 2) (b / 2 ^ k % 2) (mod_below (a / 2 ^ k) 2 (omega arith)) (mod_below (b / 2 ^ k) 2 (omega arith))

bit_above : (a k : ℕ) → bit a (suc k) ≡ bit (a / 2) k
unfolding bit
bit_above a k = let on : suc k ≡ 1 + k = omega arith in ap (λ n. eqb (a / 2 ^ n % 2) 1) on ∙ ap (λ x. eqb (x % 2) 1) (sym (shr-shr a 1 k))

lowest_bit : (a : ℕ) → bit a 0 ≡ eqb (a % 2) 1
unfolding bit
lowest_bit a = ap (λ x. eqb (x % 2) 1) (div-one a)

other_bit : (x y : ℕ) → x + y ≡ 1 → eqb x 1 ≡ not (eqb y 1)
other_bit zero y e = let one : 1 ≡ y = omega arith in ap (λ n. not (eqb n 1)) one
other_bit (suc zero) y e = let none : 0 ≡ y = omega arith in ap (λ n. not (eqb n 1)) none
other_bit (suc (suc x)) y e = absurd (omega arith)

-- the complement of a number of w bits
pub bit_not : (w a k : ℕ) → a < 2 ^ w → k < w → bit (2 ^ w - 1 - a) k ≡ not (bit a k)
bit_not zero a k fits lt = absurd (omega arith)
bit_not (suc w) a zero fits lt =
    lowest_bit (2 ^ suc w - 1 - a)
    ∙ other_bit ((2 ^ suc w - 1 - a) % 2) (a % 2) (omega (arith, pow-suc 2 w))
    ∙ ap not (sym (lowest_bit a))
bit_not (suc w) a (suc k) fits lt =
    bit_above (2 ^ suc w - 1 - a) k
    ∙ ap (λ x. bit x k) half
    ∙ bit_not w (a / 2) k (omega (arith, pow-suc 2 w)) (omega arith)
    ∙ ap not (sym (bit_above a k))
  where
    half : (2 ^ suc w - 1 - a) / 2 ≡ 2 ^ w - 1 - a / 2
    half = omega (arith, pow-suc 2 w)

power_even : (d : ℕ) → 2 ^ suc d % 2 ≡ 0
power_even d = omega (arith, pow-suc 2 d)

-- a power of two over a lower one
power_over : (k d : ℕ) → 2 ^ (k + d) / 2 ^ k ≡ 2 ^ d
power_over k d = ap (λ x. x / 2 ^ k) (ap (λ x. 2 ^ x) (omega arith) ∙ pow-add 2 d k) ∙ shl-shr (2 ^ d) k

pub bit_one : (j k : ℕ) → bit (2 ^ j) k ≡ eqb k j
unfolding bit
bit_one j k =
    ⊎_elim
    (λ e. ap (λ x. eqb (2 ^ j / 2 ^ x % 2) 1) e ∙ ap (λ x. eqb (2 ^ x / 2 ^ j % 2) 1) (omega arith) ∙ ap (λ x. eqb (x % 2) 1) (power_over j 0) ∙ sym (eq-eqb k j e))
    (⊎_elim
    (λ below. ap (λ x. eqb (2 ^ x / 2 ^ k % 2) 1) (omega arith) ∙ ap (λ x. eqb (x % 2) 1) (power_over k (suc (j - k - 1))) ∙ ap (λ x. eqb x 1) (power_even (j - k - 1)) ∙ sym (ne_eqb k j (λ e. omega arith)))
    (λ above. ap (λ x. eqb (x % 2) 1) (gone (div_below (2 ^ j) (2 ^ k) 1 (pow_pos k) (omega (arith, pow_below j k above)))) ∙ sym (ne_eqb k j (λ e. omega arith))))
    (cases_order k j)
  where
    gone : 2 ^ j / 2 ^ k < 1 → 2 ^ j / 2 ^ k ≡ 0
    gone h = omega arith

-- a word of no marks
pub bit_zero : (k : ℕ) → bit 0 k ≡ false
unfolding bit
bit_zero k = ap (λ x. eqb (x % 2) 1) none
  where
    none : 0 / 2 ^ k ≡ 0
    none = let h = div_below 0 (2 ^ k) 1 (pow_pos k) (omega (arith, pow_pos k)) in omega arith
