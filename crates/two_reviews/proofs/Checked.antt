-- The lists of a proposal pass their checks exactly where the proposal is free of the refusals before the judgement.
-- Assumes nothing.
use Rattle.std.proofs.Common.{◌≡◌, ℕ, zero, suc, ◌+◌, ◌-◌, ◌<◌, Bool, true, false, not, leb, ◌↔◌, List, length, get_or, None, Option, refl, ap, arith}
use Rattle.std.specs.List.{AllByRecursion}
use Rattle.std.proofs.ByRecursion.{All-get_or, All-from_get_or}
use Rattle.std.proofs.lemmas.Bool.{not-false, not_from_true, ltb-false, leb-false, le-ltb, lt-leb}
use Rattle.refusals.specs.declared.Told.{Told}
use Rattle.refusals.specs.Telling.{refusal}
use Rattle.refusals.specs.Checks.{refuse_if, ◌⨟◌}
use Rattle.refusals.specs.Rising.{unrising}
use Rattle.refusals.proofs.Passed.{before_passed, after_passed, both_passed, test_failed, each_passed, all_passed}
use Rattle.refusals.proofs.Refused.{passed_if}
use Rattle.refusals.proofs.Rising.{is_first, is_rising, above}
use Rattle.norms.specs.Steps.{Step}
use Rattle.lists.specs.Lists.{high, list_mark, list_check, says, bars_unsayable, bars_none, said_check, proposed_check}
use Rattle.review.specs.Proposals.{lists_check}
use Rattle.two_reviews.specs.Law.{Rising, Free}

-- the test fails at each place of the list
abbrev Nowhere : (List ℕ → ℕ → Bool) → List ℕ → Type 0
Nowhere test xs = (i : ℕ) → i < length xs → test xs i ≡ false

-- what each test means where it fails at each place
module _ (xs : List ℕ) where
  none_high : AllByRecursion (λ m. m < 1024) xs → Nowhere high xs
  none_high low i within =
      let here : get_or xs i 0 < 1024 = All-get_or (λ m. m < 1024) xs i 0 within low in
      le-ltb 1023 (get_or xs i 0) (omega arith)

  all_low : Nowhere high xs → AllByRecursion (λ m. m < 1024) xs
  all_low none = All-from_get_or (λ m. m < 1024) xs 0 (λ i within. omega (arith, ltb-false 1023 (get_or xs i 0) (none i within)))

  none_unrising : Rising xs → Nowhere unrising xs
  none_unrising rising zero within = is_first xs 0 (omega arith)
  none_unrising rising (suc i) within =
      is_rising xs (suc i) (get_or xs i 0) (omega arith) (λ _. ap (λ k. get_or xs k 0) (omega arith)) (rising i within)

  all_rising : Nowhere unrising xs → Rising xs
  all_rising none i within = above xs i (none (suc i) within)

-- the check of a list whose refusals begin with n, with what it bars beside
module _ (n : ℕ) (bars : ℕ → ℕ → Option Told) (xs : List ℕ) where
  abbrev Unbarred : ℕ → Type 0
  Unbarred i = bars (get_or xs i 0) i ≡ None

  mark_passed : (i : ℕ) → list_mark n bars xs i ≡ None → (high xs i ≡ false) × (unrising xs i ≡ false) × Unbarred i
  mark_passed i pass =
      let first = refuse_if (high xs i) (refusal n i) in
      let second = refuse_if (unrising xs i) (refusal (n + 1) i) in
      let third = bars (get_or xs i 0) i in
      let front = before_passed (first ⨟ second) third pass in (
        test_failed (high xs i) (refusal n i) (before_passed first second front),
        test_failed (unrising xs i) (refusal (n + 1) i) (after_passed first second front),
        after_passed (first ⨟ second) third pass,
      )

  mark_passes : (i : ℕ) → high xs i ≡ false → unrising xs i ≡ false → Unbarred i → list_mark n bars xs i ≡ None
  mark_passes i low rising unbarred =
      let first = refuse_if (high xs i) (refusal n i) in
      let second = refuse_if (unrising xs i) (refusal (n + 1) i) in
      both_passed (first ⨟ second) (bars (get_or xs i 0) i)
      (both_passed first second (passed_if (high xs i) (refusal n i) low) (passed_if (unrising xs i) (refusal (n + 1) i) rising)) unbarred

  list_passed : list_check n bars xs ≡ None → AllByRecursion (λ m. m < 1024) xs × Rising xs × ((i : ℕ) → i < length xs → Unbarred i)
  list_passed pass =
      let each : (i : ℕ) → i < length xs → (high xs i ≡ false) × (unrising xs i ≡ false) × Unbarred i =
      λ i within. mark_passed i (each_passed (list_mark n bars xs) (length xs) pass i within) in (
        all_low xs (λ i within. (each i within).0),
        all_rising xs (λ i within. (each i within).1),
        (λ i within. (each i within).2),
      )

  list_passes : AllByRecursion (λ m. m < 1024) xs → Rising xs → ((i : ℕ) → i < length xs → Unbarred i) → list_check n bars xs ≡ None
  list_passes low rising unbarred =
      all_passed (list_mark n bars xs) (length xs)
      (λ i within. mark_passes i (none_high xs low i within) (none_unrising xs rising i within) (unbarred i within))

-- what a step may say is not barred
module _ (xs : List ℕ) where
  none_unsayable : AllByRecursion (λ m. says m ≡ true) xs → (i : ℕ) → i < length xs → bars_unsayable (get_or xs i 0) i ≡ None
  none_unsayable each i within =
      let m = get_or xs i 0 in
      passed_if (not (says m)) (refusal 24 i) (not_from_true (says m) (All-get_or (λ k. says k ≡ true) xs i 0 within each))

  all_sayable : ((i : ℕ) → i < length xs → bars_unsayable (get_or xs i 0) i ≡ None) → AllByRecursion (λ m. says m ≡ true) xs
  all_sayable none =
      All-from_get_or (λ m. says m ≡ true) xs 0
      (λ i within. not-false (says (get_or xs i 0)) (test_failed (not (says (get_or xs i 0))) (refusal 24 i) (none i within)))

module _ (steps : List Step) (said proposed : List ℕ) where
  passed_free : lists_check steps said proposed ≡ None → Free steps said proposed
  passed_free pass =
      let full = refuse_if (leb 64 (length steps)) (refusal 21 64) in
      let front = before_passed (full ⨟ said_check said) (proposed_check proposed) pass in
      let s = list_passed 22 bars_unsayable said (after_passed full (said_check said) front) in
      let p = list_passed 25 bars_none proposed (after_passed (full ⨟ said_check said) (proposed_check proposed) pass) in
      record {
        room = leb-false 64 (length steps) (test_failed (leb 64 (length steps)) (refusal 21 64) (before_passed full (said_check said) front));
        said_low = s.0;
        said_rising = s.1;
        sayable = all_sayable said s.2;
        proposed_low = p.0;
        proposed_rising = p.1;
      }

  free_passes : Free steps said proposed → lists_check steps said proposed ≡ None
  free_passes free =
      let full = refuse_if (leb 64 (length steps)) (refusal 21 64) in
      both_passed (full ⨟ said_check said) (proposed_check proposed)
      (both_passed full (said_check said)
      (passed_if (leb 64 (length steps)) (refusal 21 64) (lt-leb 64 (length steps) free.room))
      (list_passes 22 bars_unsayable said free.said_low free.said_rising (none_unsayable said free.sayable)))
      (list_passes 25 bars_none proposed free.proposed_low free.proposed_rising (λ i within. refl))

  pub free_exactly : (lists_check steps said proposed ≡ None) ↔ Free steps said proposed
  free_exactly = (passed_free, free_passes)
