use Rattle.std.proofs.Common.{◌≡◌}
use Rattle.steps.specs.Standing.{standing}
use Rattle.transcripts.proofs.Fronts.{Front}
use Rattle.transcripts.proofs.hearing.hear.Given as goal

abbrev pub invariant-loop-exchange : goal.invariant-loop-exchange
invariant-loop-exchange g l =
    (l.review.book ≡ l.initial.review.book)
    × Front (g.B.Book.rules l.initial.review.book) (standing l.initial.review.steps) l.initial.exchanges l.exchanges l.exchange-index (standing l.review.steps)
