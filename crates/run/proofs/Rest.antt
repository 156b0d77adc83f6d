-- The steps of a case that are still to be heard. Assumes nothing.
use Rattle.std.proofs.Common.{◌≡◌, ℕ, suc, ◌+◌, ◌-◌, ◌<◌, ◌≤◌, List, ◌∷◌, get_or, Some, None, Ok, Err, Option, sym, refl, ap, ◌∙◌, subst, subst₂, ⊎_elim, arith}
use Rattle.refusals.specs.declared.Told.{Told}
use Rattle.refusals.specs.Checks.{◌⨟◌, passes, where_passes}
use Rattle.refusals.proofs.Refused.{passed, refused_by}
use Rattle.reading.specs.Reads.{ends_at}
use Rattle.casefile.specs.Cases.{steps_from, end_from, step_check, case_step, count_check, case_steps, case_end, said_at, proposed_at, after_step}
use Rattle.norms.specs.Programs.{Rule}
use Rattle.norms.specs.Steps.{Step}
use Rattle.review.specs.declared.review.Accepted.{Accepted}
use Rattle.review.specs.Proposals.{Judged, stand_after}
use Rattle.run.specs.Runs.{Hears, HearsStep}

module _ (rules : List (Rule ℕ)) (bs : List ℕ) where
  -- n steps are still to be heard: step k is the first of them, and stands at i
  unfoldable pub Rest : List Step → ℕ → ℕ → ℕ → Option Told → List Step → Type 0
  Rest steps n k i out final = Hears rules steps (steps_from bs n k i) (end_from bs n k i) out final

  -- no step is left
  pub rest_none : (steps : List Step) (n k i : ℕ) (out : Option Told) → n ≡ 0 → out ≡ ends_at bs i → Rest steps n k i out steps
  unfolding Rest Hears steps_from end_from
  rest_none steps n k i out e o = subst (λ m. Hears rules steps (steps_from bs m k i) (end_from bs m k i) out steps) (sym e) (o, refl)

  -- the next step cannot be read whole
  pub rest_cut : (steps : List Step) (n k i : ℕ) (t : Told) → step_check (case_step k) bs i ≡ Some t → Rest steps (suc n) k i (Some t) steps
  unfolding Rest Hears steps_from end_from
  rest_cut steps n k i t e =
      subst (λ c. Hears rules steps (where_passes c ((said_at bs i, proposed_at bs i) ∷ steps_from bs n (k + 1) (after_step bs i))) (c ⨟ end_from bs n (k + 1) (after_step bs i)) (Some t) steps)
      (sym e) (refl, refl)

  -- the next step is read
  module _ (steps : List Step) (n k i : ℕ) (e : step_check (case_step k) bs i ≡ None) where
    read : (out : Option Told) (final : List Step)
        → Hears rules steps ((said_at bs i, proposed_at bs i) ∷ steps_from bs n (k + 1) (after_step bs i)) (end_from bs n (k + 1) (after_step bs i)) out final
        → Rest steps (suc n) k i out final
    unfolding Rest steps_from end_from
    read out final h =
        subst (λ c. Hears rules steps (where_passes c ((said_at bs i, proposed_at bs i) ∷ steps_from bs n (k + 1) (after_step bs i))) (c ⨟ end_from bs n (k + 1) (after_step bs i)) out final)
        (sym e) h

    -- and passes
    pub rest_more : (a : Accepted) (after : List Step) (out : Option Told) (final : List Step) → Judged rules steps (said_at bs i) (proposed_at bs i) (Ok a)
        → after ≡ stand_after steps (said_at bs i) (proposed_at bs i) (Ok a)
        → Rest after n (k + 1) (after_step bs i) out final → Rest steps (suc n) k i out final
    unfolding Rest Hears
    rest_more a after out final j s rest =
        read out final (Ok a, j, subst (λ x. Hears rules x (steps_from bs n (k + 1) (after_step bs i)) (end_from bs n (k + 1) (after_step bs i)) out final) s rest)

    -- or is refused
    pub rest_refused : (t : Told) → Judged rules steps (said_at bs i) (proposed_at bs i) (Err t) → Rest steps (suc n) k i (Some t) steps
    unfolding Hears
    rest_refused t j = read (Some t) steps (Err t, j, (refl, refl))

  -- the next step passes, or the run ends with it
  pub step_on : (steps next : List Step) (n k i j : ℕ) (out : Option Told) (final : List Step) → k < n → HearsStep rules bs k i steps None next → j ≡ after_step bs i
      → Rest next (n - (k + 1)) (k + 1) j out final → Rest steps (n - k) k i out final
  step_on steps next n k i j out final h s at rest =
      subst (λ m. Rest steps m k i out final) left
      (rest_more steps (n - (k + 1)) k i s.0 s.1 next out final s.2 s.3 (subst (λ x. Rest next (n - (k + 1)) (k + 1) x out final) at rest))
    where
      left : suc (n - (k + 1)) ≡ n - k
      left = omega arith

  pub step_stops : (steps next : List Step) (n k i : ℕ) (t : Told) → k < n → HearsStep rules bs k i steps (Some t) next → Rest steps (n - k) k i (Some t) next
  step_stops steps next n k i t h s =
      subst (λ m. Rest steps m k i (Some t) next) left
      (subst (λ x. Rest steps (suc (n - (k + 1))) k i (Some t) x) (sym s.1)
      (⊎_elim (rest_cut steps (n - (k + 1)) k i t) (λ r. rest_refused steps (n - (k + 1)) k i r.0 t r.1) s.0))
    where
      left : suc (n - (k + 1)) ≡ n - k
      left = omega arith

-- the reader r of the case file bs answered of its count, which stands at its front
module _ (rules : List (Rule ℕ)) (bs rs : List ℕ) (at : ℕ) (steps : List Step) (same : rs ≡ bs) (front : at ≡ 0) where
  pub count_stops : (out : Option Told) (t : Told) → Err t ≡ passes (get_or rs at 0) (count_check rs at) → out ≡ Some t
      → Hears rules steps (case_steps bs) (case_end bs) out steps
  unfolding Hears
  count_stops out t e o =
      let c : count_check bs 0 ≡ Some t = sym (ap (λ x. count_check x at) same ∙ ap (count_check bs) front) ∙ refused_by (get_or rs at 0) (count_check rs at) t e in
      subst (λ k. Hears rules steps (where_passes k (steps_from bs (get_or bs 0 0) 0 1)) (k ⨟ end_from bs (get_or bs 0 0) 0 1) out steps) (sym c) (o, refl)

  pub count_goes_on : (n j : ℕ) → Ok n ≡ passes (get_or rs at 0) (count_check rs at) → j ≡ at + 1
      → (out : Option Told) (final : List Step) → Rest rules bs steps (n - 0) 0 j out final → Hears rules steps (case_steps bs) (case_end bs) out final
  unfolding Rest
  count_goes_on n j e f out final h =
      let p = passed n (get_or rs at 0) (count_check rs at) e in
      let c : count_check bs 0 ≡ None = sym (ap (λ x. count_check x at) same ∙ ap (count_check bs) front) ∙ p.0 in
      let count : n - 0 ≡ get_or bs 0 0 = (let z : n - 0 ≡ n = omega arith in z) ∙ p.1 ∙ ap (λ x. get_or x at 0) same ∙ ap (λ x. get_or bs x 0) front in
      let first : j ≡ 1 = omega arith in
      subst (λ k. Hears rules steps (where_passes k (steps_from bs (get_or bs 0 0) 0 1)) (k ⨟ end_from bs (get_or bs 0 0) 0 1) out final) (sym c)
      (subst₂ (λ k i. Hears rules steps (steps_from bs k 0 i) (end_from bs k 0 i) out final) count first h)

-- the reader stands at i of the same bytes
module _ (rules : List (Rule ℕ)) (bs rs : List ℕ) (same : rs ≡ bs) where
  pub goes_on : (steps next : List Step) (n k i j : ℕ) (out : Option Told) (final : List Step) → k < n → HearsStep rules rs k i steps None next → j ≡ after_step rs i
      → Rest rules bs next (n - (k + 1)) (k + 1) j out final → Rest rules bs steps (n - k) k i out final
  goes_on steps next n k i j out final h s at rest =
      step_on rules bs steps next n k i j out final h (subst (λ x. HearsStep rules x k i steps None next) same s) (at ∙ ap (λ x. after_step x i) same) rest

  pub stops : (steps next : List Step) (n k i : ℕ) (out : Option Told) (t : Told) → k < n → HearsStep rules rs k i steps (Some t) next → out ≡ Some t → Rest rules bs steps (n - k) k i out next
  stops steps next n k i out t h s o =
      subst (λ x. Rest rules bs steps (n - k) k i x next) (sym o) (step_stops rules bs steps next n k i t h (subst (λ x. HearsStep rules x k i steps (Some t) next) same s))

  pub ends : (steps : List Step) (n k i : ℕ) (out : Option Told) → n ≤ k → out ≡ ends_at rs i → Rest rules bs steps (n - k) k i out steps
  ends steps n k i out h o = rest_none rules bs steps (n - k) k i out (omega arith) (o ∙ ap (λ x. ends_at x i) same)
