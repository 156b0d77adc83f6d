-- The lowest mark of a set, and the lowest dated mark that one trace has and another lacks. Assumes nothing.
--     Covered sets others n    at the steps before n, the first have no mark that the others lack
use Rattle.std.proofs.Common.{◌≡◌, ℕ, zero, suc, ◌+◌, ◌<◌, ◌≤◌, Bool, true, false, not, ◌&&◌, ◌≢◌, ◌⊎◌, List, [], ◌∷◌, length, Some, None, unwrap_or, sym, refl, ap, ◌∙◌, inl, inr, ⊎_elim, arith}
use Rattle.std.specs.List.{slice_get, AllByRecursion}
use Rattle.std.proofs.iter.runs.Lists.{none-some, same_Some}
use Rattle.std.proofs.ByRecursion.{kept_by_passes}
use Rattle.std.proofs.lemmas.Option.{slice_get_past}
use Rattle.std.proofs.lemmas.Bool.{both_ways, and_parts, and_left, cases_Bool, cases_eq, cases_lt, cases_order}
use Rattle.marks.specs.Sets.{Set, ◌∈◌, nothing, beyond}
use Rattle.marks.specs.Members.{counted, marks_in, lowest}
use Rattle.norms.specs.Traces.{of_step, at}
use Rattle.norms.specs.Laws.{Low, Before}
use Rattle.norms.specs.Scenarios.{Lowest}
use Rattle.norms.proofs.Places.{In, Rising, all_nth, in_kept, rising_nth, rising_kept}
use Rattle.norms.proofs.Listing.{counted_in, counted_rising}

-- where nothing stands first, nothing stands
none_in : {A : Type 0} (xs : List A) (x : A) → slice_get xs 0 ≡ None → In xs x → ⊥
none_in [] x e (k, at) = none-some x at
none_in (y ∷ xs) x e i = none-some y (sym e)

-- the marks of a set, rising
module _ (M : Set ℕ) where
  marks_held : AllByRecursion (λ m. m ∈ M) (marks_in M)
  unfolding marks_in
  marks_held = kept_by_passes M (counted 1024)

  marks_rising : Rising ◌<◌ (marks_in M)
  unfolding marks_in
  marks_rising = rising_kept ◌<◌ M (counted 1024) (counted_rising 1024)

  marks_each : (m : ℕ) → m < 1024 → m ∈ M → In (marks_in M) m
  unfolding marks_in
  marks_each m low held = in_kept M (counted 1024) m held (counted_in 1024 m low)

  -- the lowest mark is one of the set, and each other mark of the set is above it
  pub lowest_held : (m : ℕ) → lowest M ≡ Some m → m ∈ M
  lowest_held m e = all_nth (λ x. x ∈ M) (marks_in M) marks_held 0 m e

  pub lowest_first : (m : ℕ) → lowest M ≡ Some m → (k : ℕ) → k < 1024 → k ∈ M → (k ≡ m) ⊎ (m < k)
  lowest_first m e k low held = from (marks_each k low held)
    where
      from : In (marks_in M) k → (k ≡ m) ⊎ (m < k)
      from (zero, at) = inl (same_Some k m (sym at ∙ e))
      from (suc j, at) = inr (rising_nth ◌<◌ (marks_in M) marks_rising 0 (suc j) m k (omega arith) e at)

  -- a set has no lowest mark exactly when it has no mark
  pub lowest_none : lowest M ≡ None → (k : ℕ) → k < 1024 → M k ≡ false
  lowest_none e k low =
      ⊎_elim (λ held. absurd (none_in (marks_in M) k e (marks_each k low held))) (λ lacks. lacks) (cases_Bool (M k))

-- of sets that are the same, neither has a mark that the other lacks
module _ {A : Type 0} (S R : Set A) where
  pub none_beyond : S ≡ R → (a : A) → beyond S R a ≡ false
  none_beyond same a = ap (λ (X : Set A). X a && not (R a)) same ∙ none (R a)
    where
      none : (b : Bool) → (b && not b) ≡ false
      none true = refl
      none false = refl

  pub other_sets : (a : A) → a ∈ beyond S R → S ≢ R
  other_sets a held same = both_ways (beyond S R a) (none_beyond same a) held

-- sets without numbers above 1,023
module _ (M N : Set ℕ) (low : Low M) where
  pub beyond_low : (m : ℕ) → m ∈ beyond M N → m < 1024
  beyond_low m held =
      ⊎_elim (λ below. below) (λ past. absurd (both_ways (M m) (low m past) (and_parts (M m) (not (N m)) held).0)) (cases_lt m 1024)

  pub beyond_none : lowest (beyond M N) ≡ None → (m : ℕ) → beyond M N m ≡ false
  beyond_none e m =
      ⊎_elim (lowest_none (beyond M N) e m) (λ past. and_left (M m) (not (N m)) (low m past)) (cases_lt m 1024)

-- the traces of two rows of sets
module _ (sets others : List (Set ℕ)) where
  abbrev pub Covered : ℕ → Type 0
  Covered n = (s m : ℕ) → s < n → beyond (of_step sets s) (of_step others s) m ≡ false

  pub covered_more : (n : ℕ) → Covered n → Low (of_step sets n) → lowest (beyond (of_step sets n) (of_step others n)) ≡ None → Covered (n + 1)
  covered_more n covered low e s m h =
      ⊎_elim
      (λ here. ap (λ k. beyond (of_step sets k) (of_step others k) m) here ∙ beyond_none (of_step sets n) (of_step others n) low e m)
      (λ apart. covered s m (omega arith))
      (cases_eq s n)

  -- after the last step
  pub covered_all : (n : ℕ) → length sets < n → Covered n → Lowest (beyond (at sets) (at others)) None
  covered_all n last covered d = ⊎_elim (covered d.0 d.1) (past d.0 d.1) (cases_lt d.0 n)
    where
      past : (s m : ℕ) → n ≤ s → beyond (of_step sets s) (of_step others s) m ≡ false
      past zero m h = refl
      past (suc k) m h = ap (λ o. unwrap_or o nothing m && not (of_step others (suc k) m)) (slice_get_past sets k (omega arith))

  -- the first step with a mark that the other lacks
  module _ (n m : ℕ) (covered : Covered n) (low : Low (of_step sets n)) (is : lowest (beyond (of_step sets n) (of_step others n)) ≡ Some m) where
    at_step : (d : ℕ × ℕ) → d ∈ beyond (at sets) (at others) → d.0 ≡ n → d.1 ∈ beyond (of_step sets n) (of_step others n)
    at_step d held here = sym (ap (λ s. beyond (of_step sets s) (of_step others s) d.1) here) ∙ held

    not_below : (d : ℕ × ℕ) → d ∈ beyond (at sets) (at others) → (d.0 ≡ n) ⊎ ((d.0 < n) ⊎ (n < d.0)) → (d ≡ (n, m)) ⊎ Before (n, m) d
    not_below d held (inl here) =
        let mark = at_step d held here in
        ⊎_elim
        (λ same. inl (ap (λ s. (s, d.1)) here ∙ ap (λ k. (n, k)) same))
        (λ above. inr (inr (sym here, above)))
        (lowest_first (beyond (of_step sets n) (of_step others n)) m is d.1 (beyond_low (of_step sets n) (of_step others n) low d.1 mark) mark)
    not_below d held (inr (inl earlier)) = absurd (both_ways (beyond (at sets) (at others) d) (covered d.0 d.1 earlier) held)
    not_below d held (inr (inr later)) = inr (inl later)

    pub lowest_dated : Lowest (beyond (at sets) (at others)) (Some (n, m))
    lowest_dated = (lowest_held (beyond (of_step sets n) (of_step others n)) m is, λ d held. not_below d held (cases_order d.0 n))
