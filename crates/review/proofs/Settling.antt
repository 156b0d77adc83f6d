-- The definition of an answer settles it. Assumes nothing.
use Rattle.std.proofs.Common.{◌≡◌, ℕ, true, false, ◌⊎◌, List, is_ok, Some, None, Ok, Err, Option, Result, sym, refl, ap, ◌∙◌, subst, inl, inr, arith}
use Rattle.std.proofs.lemmas.Bool.{both_ways}
use Rattle.refusals.specs.declared.Told.{Told}
use Rattle.marks.specs.Sets.{Set, among}
use Rattle.norms.specs.Programs.{Rule}
use Rattle.norms.specs.Rules.{Norms}
use Rattle.norms.specs.Steps.{Step, StableStep, given}
use Rattle.norms.proofs.Models.{one_smallest, one_depth}
use Rattle.review.specs.declared.review.Accepted.{Accepted}
use Rattle.review.specs.Proposals.{lists_check, Brought, LeftOut, Unfounded, StepJudged, JudgedAfter}
use Rattle.review.specs.Settled.{Alike, Settled, Exactly}

same_accepted : (a b : Accepted) → a.step ≡ b.step → a.depth ≡ b.depth → a.findings ≡ b.findings → a ≡ b
same_accepted a b p q r = λ i. record { step = p i; depth = q i; findings = r i }

module _ (rules : List (Rule ℕ)) (steps : List Step) (said proposed : List ℕ) where
  -- two smallest sets of the proposal have the same members
  one : (L K : Set ℕ) (m : ℕ) → Brought rules steps said proposed L → Brought rules steps said proposed K → L m ≡ K m
  one L K m p q = ap (λ S. S m) (one_smallest (Norms rules) (among proposed) (given steps (among said)) L K p q)

  -- a stable step has no mark left out and none unfounded
  no_left_out : StableStep rules steps (among said) (among proposed) → (t : Told) → LeftOut rules steps said proposed t → ⊥
  no_left_out stable t l = both_ways (among proposed l.m) l.not_proposed (sym (one l.L (among proposed) l.m l.brought stable) ∙ l.in_L)

  no_unfounded : StableStep rules steps (among said) (among proposed) → (t : Told) → Unfounded rules steps said proposed t → ⊥
  no_unfounded stable t u = both_ways (among proposed u.m) (sym (one u.L (among proposed) u.m u.brought stable) ∙ u.not_in_L) u.proposed_m

  not_both : (t u : Told) → LeftOut rules steps said proposed t → Unfounded rules steps said proposed u → ⊥
  not_both t u l f =
      both_ways (among proposed l.m) l.not_proposed (f.all l.m (sym (one l.L f.L l.m l.brought f.brought) ∙ l.in_L))

  refusals : (t u : Told) → LeftOut rules steps said proposed t ⊎ Unfounded rules steps said proposed t
      → LeftOut rules steps said proposed u ⊎ Unfounded rules steps said proposed u → Alike (Err t) (Err u)
  refusals t u (inl p) (inl q) = inr (ap (λ x. x.number) p.tells ∙ sym (ap (λ x. x.number) q.tells), inl (ap (λ x. x.number) p.tells))
  refusals t u (inl p) (inr q) = absurd (not_both t u p q)
  refusals t u (inr p) (inl q) = absurd (not_both u t q p)
  refusals t u (inr p) (inr q) = inr (ap (λ x. x.number) p.tells ∙ sym (ap (λ x. x.number) q.tells), inr (ap (λ x. x.number) p.tells))

  never : StableStep rules steps (among said) (among proposed) → (t : Told) → LeftOut rules steps said proposed t ⊎ Unfounded rules steps said proposed t → ⊥
  never stable t (inl l) = no_left_out stable t l
  never stable t (inr u) = no_unfounded stable t u

  steps_alike : (a b : Result Accepted Told) → StepJudged rules steps said proposed a → StepJudged rules steps said proposed b → Alike a b
  steps_alike (Ok a) (Ok b) p q =
      same_accepted a b (p.step ∙ sym q.step)
      (one_depth (Norms rules) (among proposed) (given steps (among said)) (among proposed) (among proposed) a.depth b.depth p.depth q.depth).0
      (p.findings ∙ sym q.findings)
  steps_alike (Ok a) (Err u) p q = never p.stable u q
  steps_alike (Err t) (Ok b) p q = never q.stable t p
  steps_alike (Err t) (Err u) p q = refusals t u p q

  same_refusal : (t : Told) (a b : Result Accepted Told) → a ≡ Err t → b ≡ Err t → Alike a b
  same_refusal t a b p q = subst (λ x. Alike x b) (sym p) (subst (λ x. Alike (Err t) x) (sym q) (inl refl))

  after : (c : Option Told) (a b : Result Accepted Told) → JudgedAfter rules steps said proposed c a → JudgedAfter rules steps said proposed c b → Alike a b
  after None a b p q = steps_alike a b p q
  after (Some t) a b p q = same_refusal t a b p q

  refused_lists : (t : Told) (a : Result Accepted Told) → a ≡ Err t → is_ok a ≡ true → ⊥
  refused_lists t a e ok = both_ways (is_ok a) (ap is_ok e) ok

  exactly_after : (c : Option Told) → lists_check steps said proposed ≡ c → (a : Result Accepted Told) → JudgedAfter rules steps said proposed c a → Exactly rules steps said proposed a
  exactly_after None e (Ok a) j = ((λ _. (e, j.stable)), (λ _. refl))
  exactly_after None e (Err t) j = ((λ ok. absurd (both_ways false refl ok)), (λ s. absurd (never s.1 t j)))
  exactly_after (Some t) e a j = (
    (λ ok. absurd (refused_lists t a j ok)),
    (λ s. absurd (let z : None ≡ Some t = sym s.0 ∙ e in let y : ◌≡◌ {A = ℕ} 0 1 = cc in omega arith)),
  )

  pub settled : Settled rules steps said proposed
  settled =
      record {
        alike = after (lists_check steps said proposed);
        exactly = exactly_after (lists_check steps said proposed) refl;
      }
