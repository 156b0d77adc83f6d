-- Numbers that pass the check rise. Assumes nothing.
use Rattle.std.proofs.Common.{◌≡◌, ℕ, suc, ◌+◌, ◌-◌, ◌<◌, ◌≤◌, Bool, true, not, ltb, leb, List, [], ◌∷◌, length, get_or, Some, None, Option, MatchOption, sym, refl, ap, ◌∙◌, subst, ⊎_elim, arith}
use Rattle.std.proofs.lemmas.Bool.{cases_lt, and_left, and_right, and_from, lt-leb, lt-ltb, le-ltb, le-leb, ltb-false, or_parts}
use Rattle.refusals.specs.declared.Told.{Told}
use Rattle.refusals.specs.Checks.{where_passes}
use Rattle.refusals.specs.Rising.{unrising}
use Rattle.refusals.proofs.Passed.{before_passed, after_passed, each_passed, test_failed}
use Rattle.refusals.proofs.Rising.{above}
use Rattle.suspension.specs.Checks.{number_check, suspension_check}
use Rattle.suspension.specs.Rest.{rising_from}

-- the number before the one at i, if there is one
abbrev pub Before : List ℕ → ℕ → Option ℕ → Type 0
Before xs i before = MatchOption before (i ≡ 0) (λ low. (0 < i) × (low ≡ get_or xs (i - 1) 0))

-- the number at i is above it, where r is true
abbrev pub Above : List ℕ → ℕ → Option ℕ → Bool → Type 0
Above xs i before r = MatchOption before (r ≡ true) (λ low. r ≡ ltb low (get_or xs i 0))

pub is_rising : (xs : List ℕ) (i : ℕ) (before : Option ℕ) (r : Bool) → Before xs i before → Above xs i before r → unrising xs i ≡ not r
is_rising xs i None r first up = and_left (ltb 0 i) (leb (get_or xs i 0) (get_or xs (i - 1) 0)) (le-ltb 0 i (omega arith)) ∙ sym (ap not up)
is_rising xs i (Some low) r later up =
    ⊎_elim
    (λ less. and_right (ltb 0 i) (leb (get_or xs i 0) (get_or xs (i - 1) 0)) (lt-leb (get_or xs i 0) (get_or xs (i - 1) 0) (omega (arith, later.1))) ∙ sym (ap not (up ∙ lt-ltb low (get_or xs i 0) less)))
    (λ more. and_from (ltb 0 i) (leb (get_or xs i 0) (get_or xs (i - 1) 0)) (lt-ltb 0 i later.0) (le-leb (get_or xs i 0) (get_or xs (i - 1) 0) (omega (arith, later.1))) ∙ sym (ap not (up ∙ le-ltb low (get_or xs i 0) more)))
    (cases_lt low (get_or xs i 0))

-- each number is above the one before
abbrev Rises : List ℕ → Type 0
Rises xs = (i : ℕ) → suc i < length xs → get_or xs i 0 < get_or xs (suc i) 0

rises_from : (b : ℕ) (xs : List ℕ) → (0 < length xs → b ≤ get_or xs 0 0) → Rises xs → rising_from b xs ≡ true
rises_from b [] first rises = refl
rises_from b (x ∷ xs) first rises =
    and_from (leb b x) (rising_from (x + 1) xs) (le-leb b x (first (omega arith)))
    (rises_from (x + 1) xs (λ some. omega (arith, rises 0 (omega arith))) (λ i inside. rises (suc i) (omega arith)))

module _ (count : ℕ) (xs : List ℕ) (passed : suspension_check count xs ≡ None) where
  pub passed_few : length xs ≤ 16
  passed_few = ltb-false 16 (length xs) (test_failed _ _ (before_passed _ _ passed))

  rises : Rises xs
  rises i inside = above xs i (or_parts _ _ (test_failed _ _ (each_passed (number_check count xs) (length xs) (after_passed _ _ passed) (suc i) inside))).0

  pub passed_rising : rising_from 0 xs ≡ true
  passed_rising = rises_from 0 xs (λ some. omega arith) rises

-- what a `Suspension` holds
few_by : (count : ℕ) (xs : List ℕ) (c : Option Told) → suspension_check count xs ≡ c → length (where_passes c xs) ≤ 16
few_by count xs None passed = passed_few count xs passed
few_by count xs (Some t) refused = omega arith

rising_by : (count : ℕ) (xs : List ℕ) (c : Option Told) → suspension_check count xs ≡ c → rising_from 0 (where_passes c xs) ≡ true
rising_by count xs None passed = passed_rising count xs passed
rising_by count xs (Some t) refused = refl

module _ (count : ℕ) (xs made : List ℕ) (is : made ≡ where_passes (suspension_check count xs) xs) where
  pub made_few : length made ≤ 16
  made_few = subst (λ ns. length ns ≤ 16) (sym is) (few_by count xs (suspension_check count xs) refl)

  pub made_rising : rising_from 0 made ≡ true
  made_rising = subst (λ ns. rising_from 0 ns ≡ true) (sym is) (rising_by count xs (suspension_check count xs) refl)
