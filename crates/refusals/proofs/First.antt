-- The first of the checks below n. Assumes nothing.
use Rattle.std.proofs.Common.{◌≡◌, ℕ, ◌+◌, ◌<◌, Some, None, Option, refl, ap, ◌∙◌, add-one}
use native.Mathlib.Decide.{le_ind}
use Rattle.refusals.specs.declared.Told.{Told}
use Rattle.refusals.specs.Checks.{◌⨟◌, first_below}

module _ (c : ℕ → Option Told) where
  pub first_none : first_below 0 c ≡ None
  unfolding first_below
  first_none = refl

  -- one check more
  pub first_more : (n : ℕ) → first_below (n + 1) c ≡ (first_below n c ⨟ c n)
  unfolding first_below
  first_more n = ap (λ k. first_below k c) (add-one n)

  pub first_passed : (n : ℕ) → first_below n c ≡ None → c n ≡ None → first_below (n + 1) c ≡ None
  first_passed n e f = first_more n ∙ ap (λ x. x ⨟ c n) e ∙ f

  -- what fails first below some i fails first below every larger n
  pub first_found : (i n : ℕ) (t : Told) → first_below i c ≡ None → c i ≡ Some t → i < n → first_below n c ≡ Some t
  unfolding first_below
  first_found i n t e f h = le_ind (λ (m : ℕ). first_below m c ≡ Some t) (ap (λ x. x ⨟ c i) e ∙ f) (λ m k g. ap (λ x. x ⨟ c m) g) n h
