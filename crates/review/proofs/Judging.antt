-- From what the parts of the judgement answer to its whole. Assumes nothing.
use Rattle.std.proofs.Common.{◌≡◌, ℕ, ◌+◌, ◌<◌, List, length, None, Result, sym, ap, ◌∙◌, subst}
use Rattle.std.proofs.lemmas.Bool.{lt-leb}
use Rattle.refusals.specs.declared.Told.{Told}
use Rattle.refusals.specs.Telling.{refusal}
use Rattle.refusals.specs.Checks.{◌⨟◌, refuse_if}
use Rattle.marks.specs.Sets.{Set, ◌⊆◌, among}
use Rattle.norms.specs.Programs.{Rule}
use Rattle.norms.specs.Steps.{Step, given}
use Rattle.norms.specs.Findings.{findings_in}
use Rattle.norms.proofs.Models.{same_set}
use Rattle.closure.specs.Closes.{Closes}
use Rattle.lists.specs.Lists.{said_check, proposed_check}
use Rattle.review.specs.Proposals.{lists_check, Passes, Judged, JudgedAfter}

pub lists_pass : (steps : List Step) (said proposed : List ℕ) → length steps < 64 → said_check said ≡ None → proposed_check proposed ≡ None → lists_check steps said proposed ≡ None
lists_pass steps said proposed h e f =
    ap (λ b. refuse_if b (refusal 21 64) ⨟ said_check said ⨟ proposed_check proposed) (lt-leb 64 (length steps) h)
    ∙ ap (λ c. c ⨟ proposed_check proposed) e ∙ f

module _ (rules : List (Rule ℕ)) (steps : List Step) (said proposed : List ℕ) where
  pub step_passes : (S M G L : Set ℕ) (n d f : ℕ) → S ≡ among said → M ≡ among proposed → G ≡ given steps S
      → Closes rules M G L d → L ⊆ M → M ⊆ L → n ≡ length steps + 1 → f ≡ length (findings_in M)
      → Passes rules steps said proposed (record { step = n; depth = d; findings = f })
  step_passes S M G L n d f eS eM eG closes down up number count =
      let own : Closes rules M G M d = subst (λ X. Closes rules M G X d) (same_set L M down up) closes in
      let named : Closes rules (among proposed) G (among proposed) d = subst (λ X. Closes rules X G X d) eM own in
      let all : Closes rules (among proposed) (given steps (among said)) (among proposed) d =
      subst (λ X. Closes rules (among proposed) X (among proposed) d) (eG ∙ ap (given steps) eS) named in
      record { stable = all.smallest; step = number; depth = all.depth; findings = count ∙ ap (λ X. length (findings_in X)) eM }

  pub judged_passes : (answer : Result _ Told) → lists_check steps said proposed ≡ None → JudgedAfter rules steps said proposed None answer → Judged rules steps said proposed answer
  judged_passes answer e j = subst (λ c. JudgedAfter rules steps said proposed c answer) (sym e) j
