-- Checks that each tell the same. Assumes nothing.
use Rattle.std.proofs.Common.{◌≡◌, ℕ, zero, suc, ◌<◌, ◌⊎◌, Bool, true, false, Ok, Err, Some, None, Option, Result, List, length, get_or, MatchBool, sym, refl, ap, ap₂, subst, ◌∙◌, inl, inr, ⊎_elim, arith}
use Rattle.std.specs.List.{AllWithin, HoldsAt}
use Rattle.refusals.specs.declared.Told.{Told}
use Rattle.refusals.specs.Checks.{refuse_if, first_below, passes, ◌⨟◌}
use Rattle.refusals.proofs.Passed.{all_passed, each_passed, test_failed}
use Rattle.refusals.proofs.Refused.{passed_if}
use Rattle.std.proofs.lemmas.Bool.{true≢false}

module _ (test : ℕ → Bool) (told : Told) where
  abbrev check : ℕ → Option Told
  check k = refuse_if (test k) told

  -- all together they tell nothing else
  one_told : (n : ℕ) → (first_below n check ≡ None) ⊎ (first_below n check ≡ Some told)
  unfolding first_below
  one_told zero = inl refl
  one_told (suc n) = ⊎_elim (λ none. ⊎_elim (λ no. inl (ap (λ c. c ⨟ check n) none ∙ no)) (λ yes. inr (ap (λ c. c ⨟ check n) none ∙ yes)) (one n)) (λ some. inr (ap (λ c. c ⨟ check n) some)) (one_told n)
    where
      one : (k : ℕ) → (check k ≡ None) ⊎ (check k ≡ Some told)
      one k = cases (test k)
        where
          cases : (b : Bool) → (refuse_if b told ≡ None) ⊎ (refuse_if b told ≡ Some told)
          cases true = inr refl
          cases false = inl refl

  some_told : (n k : ℕ) → k < n → test k ≡ true → first_below n check ≡ Some told
  some_told n k h fails =
      ⊎_elim (λ none. absurd (true≢false (sym fails ∙ test_failed _ _ (each_passed check n none k h)))) (λ some. some) (one_told n)

same_checks : (c d : ℕ → Option Told) (n : ℕ) → ((k : ℕ) → k < n → c k ≡ d k) → first_below n c ≡ first_below n d
unfolding first_below
same_checks c d zero same = refl
same_checks c d (suc n) same = ap₂ (λ x y. x ⨟ y) (same_checks c d n (λ k h. same k (omega arith))) (same n (omega arith))

-- a search for any element that is refused, which answered r, where each of the n checks refuses one element
module _ {X : Type 0} (test : X → Bool) (told : Told) (xs : List X) (d : X) (c : ℕ → Option Told) (n : ℕ) (size : length xs ≡ n) (same : (k : ℕ) → k < n → c k ≡ refuse_if (test (get_or xs k d)) told) (r : Bool) where
  pub any_found : MatchBool r ((k : ℕ) × (k < length xs) × HoldsAt (λ x. test x ≡ true) xs k) (AllWithin (λ x. test x ≡ false) xs 0 (length xs)) → r ≡ true → ◌≡◌ {A = Result (Unit {0}) Told} (Err told) (passes tt (first_below n c))
  any_found found is =
      let at = subst (λ b. MatchBool b ((k : ℕ) × (k < length xs) × HoldsAt (λ x. test x ≡ true) xs k) (AllWithin (λ x. test x ≡ false) xs 0 (length xs))) is found in
      ap (passes tt) (sym (same_checks c (λ k. refuse_if (test (get_or xs k d)) told) n same ∙ some_told (λ k. test (get_or xs k d)) told n at.0 (omega arith) (at.2 d)))

  pub any_none : MatchBool r ((k : ℕ) × (k < length xs) × HoldsAt (λ x. test x ≡ true) xs k) (AllWithin (λ x. test x ≡ false) xs 0 (length xs)) → r ≡ false → ◌≡◌ {A = Result (Unit {0}) Told} (Ok tt) (passes tt (first_below n c))
  any_none found is =
      let none = subst (λ b. MatchBool b ((k : ℕ) × (k < length xs) × HoldsAt (λ x. test x ≡ true) xs k) (AllWithin (λ x. test x ≡ false) xs 0 (length xs))) is found in
      ap (passes tt) (sym (all_passed c n (λ k h. same k h ∙ passed_if _ _ (none k d (omega arith) (omega arith)))))
