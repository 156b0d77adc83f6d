-- How many marks a set has below a number. Assumes nothing.
use Rattle.std.proofs.Common.{◌≡◌, ℕ, zero, suc, ◌+◌, ◌*◌, ◌≤◌, Bool, true, false, cond, [], ◌∷◌, length, map, filter, sym, refl, ap, ap₂, ◌∙◌, arith}
use lib.Count.{ones}
use Rattle.std.proofs.lemmas.List.Elements.{filter-append}
use Rattle.std.proofs.lemmas.List.{length-append, map-append}
use Rattle.std.proofs.lemmas.List.Sums.{sum_by-append}
use Rattle.std.specs.List.{sum_by}
use Rattle.marks.specs.Members.{counted, marks_in, number_of, words_of}
use Rattle.marks.specs.Sets.{Set}
use Rattle.members.proofs.Numbers.{part_le, ones_none, ones_next}

-- how many marks of M are below n
abbrev pub below : Set ℕ → ℕ → ℕ
below M n = length (filter M (counted n))

pub below_none : (M : Set ℕ) → below M 0 ≡ 0
unfolding counted
below_none M = refl

below_next : (M : Set ℕ) (n : ℕ) → below M (suc n) ≡ below M n + cond (M n) 1 0
unfolding counted
below_next M n =
    ap length (filter-append M (counted n) (n ∷ []))
    ∙ length-append (filter M (counted n)) (filter M (n ∷ []))
    ∙ ap (λ k. below M n + k) (one (M n))
  where
    one : (b : Bool) → length (cond b (n ∷ []) []) ≡ cond b 1 0
    one true = refl
    one false = refl

pub below_le : (M : Set ℕ) (n : ℕ) → below M n ≤ n
below_le M zero = omega (arith, below_none M)
below_le M (suc n) = omega (arith, below_next M n, below_le M n, part_le (M n) 1)

-- the next n marks are the ones of the number that they make
below_more : (M : Set ℕ) (a n : ℕ) → below M (a + n) ≡ below M a + ones (number_of (λ k. M (a + k)) n)
below_more M a zero =
    let same : a + 0 ≡ a = omega arith in
    ap (below M) same ∙ omega (arith, ones_none (λ k. M (a + k)))
below_more M a (suc n) =
    let on : a + suc n ≡ suc (a + n) = omega arith in
    ap (below M) on ∙ omega (arith, below_next M (a + n), below_more M a n, ones_next (λ k. M (a + k)) n)

-- the word at place i
abbrev word : Set ℕ → ℕ → ℕ
word M i = number_of (λ k. M (64 * i + k)) 64

-- the ones of the first n words
ones_below : (M : Set ℕ) (n : ℕ) → sum_by ones (map (word M) (counted n)) ≡ below M (64 * n)
unfolding counted
ones_below M zero = sym (below_none M)
ones_below M (suc n) =
    let on : 64 * n + 64 ≡ 64 * suc n = omega arith in
    let one : sum_by ones (word M n ∷ []) ≡ ones (word M n) = omega arith in
    ap (sum_by ones) (map-append (word M) (counted n) (n ∷ []))
    ∙ sum_by-append ones (map (word M) (counted n)) (word M n ∷ [])
    ∙ ap₂ (λ b w. b + w) (ones_below M n) one
    ∙ sym (below_more M (64 * n) 64)
    ∙ ap (below M) on

pub ones_of_words : (M : Set ℕ) → sum_by ones (words_of M) ≡ length (marks_in M)
unfolding words_of marks_in
ones_of_words M = ones_below M 16

pub few_marks : (M : Set ℕ) → length (marks_in M) ≤ 1024
unfolding marks_in
few_marks M = below_le M 1024
