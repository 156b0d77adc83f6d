-- A case file, one step more. Assumes nothing.
use Rattle.std.proofs.Common.{◌≡◌, ℕ, ◌+◌, ◌-◌, ◌<◌, List, Some, None, Ok, Err, Option, Result, sym, refl, ap, ◌∙◌, add-one, arith}
use Rattle.refusals.specs.declared.Told.{Told}
use Rattle.refusals.specs.Checks.{◌⨟◌, passes}
use Rattle.refusals.proofs.Refused.{passed, refused_by}
use Rattle.reading.specs.Reads.{ends_at}
use Rattle.casefile.specs.Cases.{after_step, step_check, case_step, end_from}

module _ (bs : List ℕ) where
  -- no step more
  pub end_none : (k i : ℕ) → end_from bs 0 k i ≡ ends_at bs i
  unfolding end_from
  end_none k i = refl

  -- step k, the first of m steps that are still to come, and the n after it
  module _ (m n k i : ℕ) (more : m ≡ n + 1) where
    next_end : end_from bs m k i ≡ (step_check (case_step k) bs i ⨟ end_from bs n (k + 1) (after_step bs i))
    unfolding end_from
    next_end = ap (λ x. end_from bs x k i) (more ∙ add-one n)

    pub end_more : step_check (case_step k) bs i ≡ None → end_from bs m k i ≡ end_from bs n (k + 1) (after_step bs i)
    end_more e = next_end ∙ rw e

    pub end_refused : {t : Told} → step_check (case_step k) bs i ≡ Some t → end_from bs m k i ≡ Some t
    end_refused e = next_end ∙ rw e

-- a reader of the same bytes stands at step k of n, which it reads
module _ (bs rs : List ℕ) (same : rs ≡ bs) (n k i : ℕ) (below : k < n) (end : Option Told) (ends : end_from bs (n - k) k i ≡ end) where
  pub goes_on : (j : ℕ) (x : Unit {0}) → ◌≡◌ {A = Result (Unit {0}) Told} (Ok x) (passes tt (step_check (case_step k) rs i)) → j ≡ after_step rs i → end_from bs (n - (k + 1)) (k + 1) j ≡ end
  goes_on j x answer next =
      let none = ap (λ xs. step_check (case_step k) xs i) (sym same) ∙ (passed x tt (step_check (case_step k) rs i) answer).0 in
      ap (end_from bs (n - (k + 1)) (k + 1)) (next ∙ ap (λ xs. after_step xs i) same)
      ∙ sym (end_more bs (n - k) (n - (k + 1)) k i (omega arith) none)
      ∙ ends

  pub stops : (t : Told) → ◌≡◌ {A = Result (Unit {0}) Told} (Err t) (passes tt (step_check (case_step k) rs i)) → ◌≡◌ {A = Result (Unit {0}) Told} (Err t) (passes tt end)
  stops t answer =
      let refused = ap (λ xs. step_check (case_step k) xs i) (sym same) ∙ refused_by tt (step_check (case_step k) rs i) t answer in
      ap (passes tt) (sym (end_refused bs (n - k) (n - (k + 1)) k i (omega arith) refused) ∙ ends)
