-- A number by the bits that make it. Assumes nothing.
use Rattle.std.proofs.Common.{◌≡◌, ℕ, zero, suc, ◌+◌, ◌*◌, ◌^◌, ◌<◌, ◌≤◌, Bool, true, false, cond, ap, ◌∙◌, pow-suc, arith}
use lib.Count.{ones, ones_cat, ones-ones}
use Rattle.marks.specs.Members.{number_of}

pub part_le : (b : Bool) (p : ℕ) → cond b p 0 ≤ p
part_le true p = omega arith
part_le false p = omega arith

pub number_below : (f : ℕ → Bool) (n : ℕ) → number_of f n < 2 ^ n
unfolding number_of
number_below f zero = omega arith
number_below f (suc n) = omega (arith, number_below f n, part_le (f n) (2 ^ n), pow-suc 2 n)

-- a number by its lowest bit and the others
pub number_by_lowest : (f : ℕ → Bool) (n : ℕ) → number_of f (suc n) ≡ cond (f 0) 1 0 + number_of (λ k. f (suc k)) n * 2
unfolding number_of
number_by_lowest f zero = omega arith
number_by_lowest f (suc n) = omega (arith, number_by_lowest f n, doubled (f (suc n)))
  where
    doubled : (b : Bool) → cond b (2 ^ suc n) 0 ≡ cond b (2 ^ n) 0 * 2
    doubled true = pow-suc 2 n
    doubled false = omega arith

-- the ones of a number are counted bit by bit
pub ones_none : (f : ℕ → Bool) → ones (number_of f 0) ≡ 0
unfolding number_of
ones_none f = ones-ones 0

pub ones_next : (f : ℕ → Bool) (n : ℕ) → ones (number_of f (suc n)) ≡ ones (number_of f n) + cond (f n) 1 0
unfolding number_of
ones_next f n = next (f n)
  where
    next : (b : Bool) → ones (number_of f n + cond b (2 ^ n) 0) ≡ ones (number_of f n) + cond b 1 0
    next true =
        let above : number_of f n + 2 ^ n ≡ 1 * 2 ^ n + number_of f n = omega arith in
        ap ones above ∙ ones_cat n 1 (number_of f n) (number_below f n) ∙ omega (arith, ones-ones 1)
    next false = let same : number_of f n + 0 ≡ number_of f n = omega arith in ap ones same ∙ omega arith
