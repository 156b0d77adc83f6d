-- A search for the first number that is refused, as a check of each number below n. Assumes nothing.
use Rattle.std.proofs.Common.{◌≡◌, ℕ, ◌<◌, ◌≤◌, ◌+◌, Bool, true, false, Ok, Err, Some, None, Option, Result, MatchOption, List, length, get_or, drop, sym, ◌∙◌, ap, arith}
use Rattle.std.specs.List.{AllWithin, HoldsAt}
use Rattle.std.proofs.lemmas.List.{length-drop, get_or-drop}
use Rattle.refusals.specs.declared.Told.{Told}
use Rattle.refusals.specs.Checks.{refuse_if, first_below, passes}
use Rattle.refusals.proofs.Passed.{all_passed}
use Rattle.refusals.proofs.Refused.{refused_at, refused_if, passed_if}

module _ (test : ℕ → Bool) (told : ℕ → Told) (n : ℕ) where
  check : ℕ → Option Told
  check k = refuse_if (test k) (told k)

  pub found_answers : (r : Option ℕ) → MatchOption r ((k : ℕ) → 0 ≤ k → k < n → test k ≡ false) (λ i. (0 ≤ i) × (i < n) × (test i ≡ true) × ((k : ℕ) → 0 ≤ k → k < i → test k ≡ false)) → MatchOption r (◌≡◌ {A = Result (Unit {0}) Told} (Ok tt) (passes tt (first_below n (λ k. refuse_if (test k) (told k))))) (λ i. ◌≡◌ {A = Result (Unit {0}) Told} (Err (told i)) (passes tt (first_below n (λ k. refuse_if (test k) (told k)))))
  unfolding check
  found_answers None none = sym (ap (passes tt) (all_passed check n (λ k h. passed_if _ _ (none k (omega arith) h))))
  found_answers (Some i) found = refused_at tt check i n (told i) (all_passed check i (λ k h. passed_if _ _ (found.3 k (omega arith) h))) (refused_if _ _ found.2) found.1

-- the same of a search through what is left of a list from an index on
module _ (test : ℕ → Bool) (told : ℕ → Told) (xs : List ℕ) (from n : ℕ) (size : from + n ≡ length xs) where
  pub found_from : (r : Option ℕ) → MatchOption r (AllWithin (λ x. test x ≡ false) (drop from xs) 0 (length (drop from xs))) (λ i. (i < length (drop from xs)) × HoldsAt (λ x. test x ≡ true) (drop from xs) i × AllWithin (λ x. test x ≡ false) (drop from xs) 0 i) → MatchOption r (◌≡◌ {A = Result (Unit {0}) Told} (Ok tt) (passes tt (first_below n (λ k. refuse_if (test (get_or xs (from + k) 0)) (told k))))) (λ i. ◌≡◌ {A = Result (Unit {0}) Told} (Err (told i)) (passes tt (first_below n (λ k. refuse_if (test (get_or xs (from + k) 0)) (told k)))))
  found_from None none =
      found_answers (λ k. test (get_or xs (from + k) 0)) told n None
      (λ k z h. ap test (sym (get_or-drop from xs k 0)) ∙ none k 0 z (omega (arith, length-drop from xs)))
  found_from (Some i) found =
      found_answers (λ k. test (get_or xs (from + k) 0)) told n (Some i)
      (omega arith, omega (arith, length-drop from xs), ap test (sym (get_or-drop from xs i 0)) ∙ found.1 0, (λ k z h. ap test (sym (get_or-drop from xs k 0)) ∙ found.2 k 0 z h))
