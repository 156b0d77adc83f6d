-- The lowest mark of a set, by its words. Assumes nothing.
use Rattle.std.proofs.Common.{◌≡◌, ℕ, zero, suc, ◌+◌, ◌*◌, ◌<◌, ◌≤◌, true, cond, List, [], ◌∷◌, ◌++◌, length, get_or, Some, None, filter, Option, sym, refl, ap, ◌∙◌, subst, ap₂, ⊎_elim, append_assoc, arith, MatchOption}
use borrow.Author.Numbers.{trailing_lt}
use lib.Count.{count_trailing_zeros, trailing_of_zero}
use Rattle.std.specs.List.{slice_get, AllWithin, HoldsAt}
use Rattle.std.specs.Option.{option_map}
use Rattle.std.proofs.lemmas.List.Elements.{filter-append}
use Rattle.std.proofs.lemmas.Bool.{cases_lt}
use Rattle.marks.specs.Members.{counted, marks_in, lowest, number_of, words_of}
use Rattle.marks.specs.Sets.{Set}
use Rattle.marks.specs.declared.mark.Mark.{Mark}
use Rattle.marks.proofs.Making.{Made, made_mark}
use Rattle.marks.proofs.Words.{get_or_words_of, length_words_of}
use Rattle.members.proofs.First.{NoneBelow, none_on, First, first_bit}
use Rattle.members.proofs.Numbers.{number_below}

none_kept : (M : Set ℕ) (n : ℕ) → NoneBelow M n → filter M (counted n) ≡ []
unfolding counted
none_kept M zero none = refl
none_kept M (suc n) none =
    filter-append M (counted n) (n ∷ [])
    ∙ ap₂ (λ xs b. xs ++ cond b (n ∷ []) []) (none_kept M n (λ k lt. none k (omega arith))) (none n (omega arith))

-- the numbers below m, then m, then the rest
counted_through : (m n : ℕ) → m < n → (rest : List ℕ) × (counted n ≡ counted m ++ m ∷ rest)
unfolding counted
counted_through m zero lt = absurd (omega arith)
counted_through m (suc n) lt =
    ⊎_elim
    (λ below.
    let (rest, e) = counted_through m n below in
    (rest ++ n ∷ [], ap (λ xs. xs ++ n ∷ []) e ∙ append_assoc (counted m) (m ∷ rest) (n ∷ [])))
    (λ last. let same : n ≡ m = omega arith in ([], ap (λ k. counted k ++ k ∷ []) same))
    (cases_lt m n)

lowest_none : (M : Set ℕ) → NoneBelow M 1024 → lowest M ≡ None
unfolding marks_in
lowest_none M none = ap (λ xs. slice_get xs 0) (none_kept M 1024 none)

lowest_first : (M : Set ℕ) (m : ℕ) → m < 1024 → NoneBelow M m → M m ≡ true → lowest M ≡ Some m
unfolding marks_in
lowest_first M m lt none here =
    let through = counted_through m 1024 lt in
    ap (λ xs. slice_get (filter M xs) 0) through.1
    ∙ ap (λ xs. slice_get xs 0) (filter-append M (counted m) (m ∷ through.0))
    ∙ ap₂ (λ xs b. slice_get (xs ++ cond b (m ∷ filter M through.0) (filter M through.0)) 0) (none_kept M m none) here

-- the lowest mark of the word w, if w stands at place i
abbrev pub lowest_of : ℕ → ℕ → ℕ
lowest_of i w = 64 * i + count_trailing_zeros 64 w

-- word i of a set that has no mark in the words below
module _ (M : Set ℕ) (ws : List ℕ) (i : ℕ) (are : ws ≡ words_of M) (lt : i < 16) (none : NoneBelow M (64 * i)) where
  word : get_or ws i 0 ≡ number_of (λ k. M (64 * i + k)) 64
  word = ap (λ vs. get_or vs i 0) are ∙ get_or_words_of M i lt

  first : First (λ k. M (64 * i + k)) 64 (count_trailing_zeros 64 (get_or ws i 0))
  first = subst (λ w. First (λ k. M (64 * i + k)) 64 (count_trailing_zeros 64 w)) (sym word) (first_bit (λ k. M (64 * i + k)) 64)

  none_in_word : get_or ws i 0 ≡ 0 → NoneBelow M (64 * (i + 1))
  none_in_word e k low =
      let all : count_trailing_zeros 64 (get_or ws i 0) ≡ 64 = ap (count_trailing_zeros 64) e ∙ trailing_of_zero 64 in
      none_on M (64 * i) 64 none (λ j h. first.before j (omega arith)) k (omega arith)

  lowest_in_word : 0 < get_or ws i 0 → (lowest_of i (get_or ws i 0) < 1024) × (lowest M ≡ Some (lowest_of i (get_or ws i 0)))
  lowest_in_word some =
      let t = count_trailing_zeros 64 (get_or ws i 0) in
      let within : t < 64 = trailing_lt 64 (get_or ws i 0) some (omega (arith, number_below (λ k. M (64 * i + k)) 64, word)) in
      let low : 64 * i + t < 1024 = omega arith in
      (low, lowest_first M (64 * i + t) low (none_on M (64 * i) t none first.before) (first.here within))

  lowest_made : (r : Option Mark) → 0 < get_or ws i 0 → Made r (lowest_of i (get_or ws i 0)) → option_map (λ (m : Mark). m.number) r ≡ lowest M
  lowest_made r some made = let found = lowest_in_word some in made_mark r _ made (omega (arith, found.0)) ∙ sym found.1

-- the first n words are all 0
none_in_words : (M : Set ℕ) (ws : List ℕ) → ws ≡ words_of M → (n : ℕ) → n ≤ 16 → AllWithin (λ w. w ≡ 0) ws 0 n → NoneBelow M (64 * n)
none_in_words M ws are zero le zeros k low = absurd (omega arith)
none_in_words M ws are (suc n) le zeros k low =
    none_in_word M ws n are (omega arith) (none_in_words M ws are n (omega arith) (λ j d from to. zeros j d from (omega arith))) (zeros n 0 (omega arith) (omega arith)) k (omega arith)

-- where the search for a word that is not 0 ends
abbrev pub FirstWord : List ℕ → Option ℕ → Type 0
FirstWord ws r = MatchOption r (AllWithin (λ w. w ≡ 0) ws 0 (length ws)) (λ i. (i < length ws) × HoldsAt (λ w. 0 < w) ws i × AllWithin (λ w. w ≡ 0) ws 0 i)

module _ (M : Set ℕ) (ws : List ℕ) (are : ws ≡ words_of M) (r : Option ℕ) (found : FirstWord ws r) where
  long : length ws ≡ 16
  long = ap length are ∙ length_words_of M

  pub no_word : r ≡ None → lowest M ≡ None
  no_word is = lowest_none M (λ k low. none_in_words M ws are 16 (omega arith) (λ j d from to. (subst (FirstWord ws) is found) j d from (omega (arith, long))) k (omega arith))

  pub at_word : (i : ℕ) → r ≡ Some i → (m : Option Mark) → Made m (lowest_of i (get_or ws i 0)) → option_map (λ (x : Mark). x.number) m ≡ lowest M
  at_word i is m made =
      let at = subst (FirstWord ws) is found in
      let low : i < 16 = omega (arith, at.0, long) in
      lowest_made M ws i are low (none_in_words M ws are i (omega arith) at.2) m (at.1 0) made
