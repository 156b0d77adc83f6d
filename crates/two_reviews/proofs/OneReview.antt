-- One review: its trace is stable, and what may be the next step is told by the trace alone. Assumes nothing.
use Rattle.std.proofs.Common.{◌≡◌, ℕ, true, ◌↔◌, List, [], ◌∷◌, ◌++◌, is_ok, Result, sym, subst}
use Rattle.std.specs.List.{AllByRecursion}
use Rattle.std.proofs.ByRecursion.{All-push}
use Rattle.std.proofs.lemmas.List.{map_push}
use Rattle.refusals.specs.declared.Told.{Told}
use Rattle.marks.specs.Sets.{among}
use Rattle.norms.specs.Programs.{Rule}
use Rattle.norms.specs.Steps.{Step}
use Rattle.norms.specs.Scenarios.{marks_of, StableTrace}
use Rattle.norms.specs.Laws.{Low}
use Rattle.norms.proofs.Scenarios.{EachStep, next_stable, steps_more, stable_trace}
use Rattle.review.specs.declared.review.Accepted.{Accepted}
use Rattle.review.specs.Proposals.{Judged, step_by}
use Rattle.review.proofs.Settling.{settled}
use Rattle.transcripts.specs.Asks.{Exchange}
use Rattle.transcripts.specs.Hearing.{steps_by, stands, Heard}
use Rattle.two_reviews.specs.Law.{Free, Reviewed}
use Rattle.two_reviews.proofs.Checked.{free_exactly}
use Rattle.two_reviews.proofs.Standing.{Sound, low_among, low_steps}

module _ (rules : List (Rule ℕ)) (steps : List Step) (each : EachStep rules steps) (low : AllByRecursion Low (marks_of steps))
    (said proposed : List ℕ) (free : Free steps said proposed) where
  low_more : AllByRecursion Low (marks_of (steps ++ step_by said proposed ∷ []))
  low_more =
      subst (AllByRecursion Low) (sym (map_push (λ (s : Step). s.marks) steps (step_by said proposed)))
      (All-push Low (marks_of steps) (among proposed) low (low_among proposed free.proposed_low))

  -- a free proposal passes exactly where the trace is stable with its step standing
  next : (answer : Result Accepted Told) → Judged rules steps said proposed answer
      → (is_ok answer ≡ true) ↔ StableTrace rules (steps ++ step_by said proposed ∷ [])
  next answer judged =
      let step = step_by said proposed in
      let exactly = (settled rules steps said proposed).exactly answer judged in
      let together = stable_trace rules (steps ++ step ∷ []) low_more in (
        (λ ok. together.0 (steps_more rules steps step each (exactly.0 ok).1)),
        (λ stable. exactly.1 ((free_exactly steps said proposed).1 free, next_stable rules steps step (together.1 stable))),
      )

pub reviewed : (rules : List (Rule ℕ)) (xs : List Exchange) → Heard rules [] xs → Sound rules (stands [] xs) → Reviewed rules xs
reviewed rules xs heard sound =
    let steps = steps_by (stands [] xs) in
    let low = low_steps (stands [] xs) sound.entered in
    record {
      settled = heard;
      stable = (stable_trace rules steps low).0 sound.each;
      next = λ said proposed answer free judged. next rules steps sound.each low said proposed free answer judged;
    }
