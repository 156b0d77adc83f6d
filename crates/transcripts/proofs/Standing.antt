-- Which steps stand after a call, as lists and as steps; and one exchange more. Assumes nothing.
use Rattle.std.proofs.Common.{◌≡◌, ℕ, ltb, List, [], ◌∷◌, ◌++◌, length, take, Ok, Err, Some, IsSomeAnd, Result, sym, refl, ap, ◌∙◌, ap₂}
use Rattle.std.proofs.lemmas.List.{map_push, take-map}
use Rattle.refusals.specs.declared.Told.{Told}
use Rattle.refusals.specs.Telling.{refusal}
use Rattle.refusals.specs.Checks.{refuse_if}
use Rattle.refusals.proofs.Refused.{passed}
use Rattle.norms.specs.Programs.{Rule}
use Rattle.norms.specs.Steps.{Step}
use Rattle.review.specs.declared.review.Accepted.{Accepted}
use Rattle.review.specs.Proposals.{step_by, stand_after}
use Rattle.review.specs.Recalls.{going_back, kept_after}
use Rattle.transcripts.specs.Asks.{propose, go_back, judged, went_back, Exchange}
use Rattle.transcripts.specs.Hearing.{Lists, steps_by, then, stands, Settles, Heard}

-- a proposal, and the steps after its answer
pub after_proposal : (ls : List Lists) (steps after : List Step) (said proposed : List ℕ) (r : Result Accepted Told) → after ≡ stand_after steps said proposed r
    → steps ≡ steps_by ls → after ≡ steps_by (then ls (propose said proposed) (Some (judged r)))
after_proposal ls steps after said proposed (Ok a) e same = e ∙ ap (λ s. s ++ step_by said proposed ∷ []) same ∙ sym (map_push (λ (p : Lists). step_by p.0 p.1) ls (said, proposed))
after_proposal ls steps after said proposed (Err t) e same = e ∙ same

-- going back, and the steps after its answer
pub after_return : (ls : List Lists) (steps after : List Step) (n : ℕ) (r : Result ℕ Told) → r ≡ going_back steps n → after ≡ kept_after steps r
    → steps ≡ steps_by ls → after ≡ steps_by (then ls (go_back n) (Some (went_back r)))
after_return ls steps after n (Ok k) answer e same =
    let there = passed k n (refuse_if (ltb (length steps) n) (refusal 31 (length steps))) answer in
    e ∙ ap₂ take there.1 same ∙ take-map (λ (p : Lists). step_by p.0 p.1) n ls
after_return ls steps after n (Err t) answer e same = e ∙ same

-- one exchange more
pub stands_more : (ls : List Lists) (xs : List Exchange) (x : Exchange) → stands ls (xs ++ x ∷ []) ≡ then (stands ls xs) x.ask x.reply
unfolding stands
stands_more ls [] x = refl
stands_more ls (y ∷ xs) x = stands_more (then ls y.ask y.reply) xs x

pub heard_more : (rules : List (Rule ℕ)) (ls : List Lists) (xs : List Exchange) (x : Exchange) → Heard rules ls xs
    → IsSomeAnd x.reply (λ reply. Settles rules (steps_by (stands ls xs)) x.words x.ask reply x.after) → Heard rules ls (xs ++ x ∷ [])
unfolding Heard stands
heard_more rules ls [] x before here = (here, tt)
heard_more rules ls (y ∷ xs) x before here = (before.0, heard_more rules (then ls y.ask y.reply) xs x before.1 here)
