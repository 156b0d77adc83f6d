use Rattle.std.proofs.Common.{Some, sym, ap, ◌∙◌, ap₂}
use Rattle.refusals.specs.Telling.{answered}
use Rattle.review.specs.Faults.{propose_told, back_told}
use Rattle.steps.specs.Standing.{standing}
use Rattle.transcripts.specs.Asks.{propose, judged, went_back}
use Rattle.transcripts.specs.Hearing.{steps_by, then}
use Rattle.transcripts.specs.Views.{ask_of}
use Rattle.transcripts.proofs.Standing.{after_proposal, after_return}
use Rattle.transcripts.proofs.hearing.answer.Goals as goal

pub returns-in-Propose-clause-stands : goal.returns-in-Propose-clause-stands
returns-in-Propose-clause-stands g c = λ ls same.
    after_proposal ls (standing c.args.review.now.steps) (standing c.propose.new.self.steps)
    c.deref.result.now c.deref-in-Propose.result.now (answered propose_told c.propose.result) c.propose.ensures.stands same
    ∙ ap (λ ask. steps_by (then ls ask (Some (judged (answered propose_told c.propose.result)))))
    (ap₂ propose c.deref.ensures.value c.deref-in-Propose.ensures.value ∙ sym (ap ask_of c.in-Propose.is))

pub returns-in-GoBack-clause-stands : goal.returns-in-GoBack-clause-stands
returns-in-GoBack-clause-stands g c = λ ls same.
    after_return ls (standing c.args.review.now.steps) (standing c.go_back.new.self.steps)
    c.in-GoBack.n (answered back_told c.go_back.result) c.go_back.ensures.answer c.go_back.ensures.stands same
    ∙ ap (λ ask. steps_by (then ls ask (Some (went_back (answered back_told c.go_back.result))))) (sym (ap ask_of c.in-GoBack.is))
