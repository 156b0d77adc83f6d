-- What is known where checks pass. Assumes nothing.
use Rattle.std.proofs.Common.{◌≡◌, ℕ, zero, suc, ◌<◌, Bool, true, false, ◌⊎◌, is_some, Some, None, Option, refl, ap, ◌∙◌, inl, inr, ⊎_elim, arith}
use Rattle.refusals.specs.declared.Told.{Told}
use Rattle.refusals.specs.Checks.{refuse_if, first_below, ◌⨟◌}
use Rattle.std.proofs.lemmas.Bool.{cases_order, true≢false}

-- of two checks, the first and the second pass
pub before_passed : (c d : Option Told) → (c ⨟ d) ≡ None → c ≡ None
before_passed None d e = refl
before_passed (Some t) d e = e

pub after_passed : (c d : Option Told) → (c ⨟ d) ≡ None → d ≡ None
after_passed None d e = e
after_passed (Some t) d e = absurd (let z : ◌≡◌ {A = ℕ} 0 1 = cc in omega arith)

pub both_passed : (c d : Option Told) → c ≡ None → d ≡ None → (c ⨟ d) ≡ None
both_passed c d e f = ap (λ x. x ⨟ d) e ∙ f

pub test_failed : (b : Bool) (t : Told) → refuse_if b t ≡ None → b ≡ false
test_failed true t e = absurd (let z : ◌≡◌ {A = ℕ} 0 1 = cc in omega arith)
test_failed false t e = refl

-- each of the checks below n passes
pub each_passed : (c : ℕ → Option Told) (n : ℕ) → first_below n c ≡ None → (k : ℕ) → k < n → c k ≡ None
unfolding first_below
each_passed c zero e k h = absurd (omega arith)
each_passed c (suc n) e k h =
    ⊎_elim
    (λ (same : k ≡ n). ap c same ∙ after_passed (first_below n c) (c n) e)
    (λ (below : k < n). each_passed c n (before_passed (first_below n c) (c n) e) k below)
    (last_or_below k n h)
  where
    last_or_below : (k n : ℕ) → k < suc n → (k ≡ n) ⊎ (k < n)
    last_or_below k n h = ⊎_elim (λ e. inl e) (⊎_elim (λ b. inr b) (λ a. absurd (omega arith))) (cases_order k n)

-- checks that pass each pass together
pub all_passed : (c : ℕ → Option Told) (n : ℕ) → ((k : ℕ) → k < n → c k ≡ None) → first_below n c ≡ None
unfolding first_below
all_passed c zero each = refl
all_passed c (suc n) each = both_passed (first_below n c) (c n) (all_passed c n (λ k h. each k (omega arith))) (each n (omega arith))

-- the same as a test
pub none_from : (c : Option Told) → is_some c ≡ false → c ≡ None
none_from None e = refl
none_from (Some t) e = absurd (true≢false e)

pub is_none : (c : Option Told) → c ≡ None → is_some c ≡ false
is_none c e = ap is_some e
