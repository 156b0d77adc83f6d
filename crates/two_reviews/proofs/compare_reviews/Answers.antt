use Rattle.std.proofs.Common.{[], subst}
use Rattle.steps.specs.Standing.{standing}
use Rattle.transcripts.specs.Hearing.{Heard}
use Rattle.transcripts.specs.Views.{transcript}
use Rattle.two_reviews.proofs.Whole.{law_of_steps}
use Rattle.two_reviews.proofs.compare_reviews.Goals as goal

pub returns-clause-law : goal.returns-clause-law
returns-clause-law g c =
    let one = c.hear.new.review in
    let other = c.hear-2.new.review in
    let xs = transcript c.args.of_first.now c.hear.new.exchanges in
    let ys = transcript c.args.of_second.now c.hear-2.new.exchanges in
    law_of_steps (g.A.Book.rules c.args.first.now) (g.B.Book.rules c.args.second.now) xs ys c.compare.result
    (standing one.steps) (standing other.steps)
    (subst (λ b. Heard (g.A.Book.rules b.now) [] xs) c.new-one.ensures.book (c.hear.ensures.heard [] c.new-one.ensures.steps))
    (subst (λ b. Heard (g.B.Book.rules b.now) [] ys) c.new-other.ensures.book (c.hear-2.ensures.heard [] c.new-other.ensures.steps))
    (c.hear.ensures.stands [] c.new-one.ensures.steps) (c.hear-2.ensures.stands [] c.new-other.ensures.steps)
    c.compare.ensures
