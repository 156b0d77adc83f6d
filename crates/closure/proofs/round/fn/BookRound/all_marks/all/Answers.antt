use Rattle.std.proofs.Common.{rules}
use Rattle.closure.proofs.Applying.{passes_from_asked}
use Rattle.closure.proofs.round.fn.BookRound.all_marks.all.Goals as goal

pub returns : goal.returns
returns g c = passes_from_asked (λ m b. g.T.Fn.post c.captures.test (m, tt) b) _ _ _ c.body.ensures (search rules)
