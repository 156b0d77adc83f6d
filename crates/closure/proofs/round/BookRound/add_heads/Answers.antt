use Rattle.std.proofs.Common.{◌≡◌, length, arith}
use Rattle.closure.proofs.Adding.{adds_all_places}
use Rattle.closure.proofs.round.BookRound.add_heads.Goals as goal

pub returns : goal.returns
returns g c =
    let rules = g.B.Book.rules c.args.self.now.book.now in
    let all : c.loop-n.n ≡ length rules = omega arith in
    adds_all_places _ _ rules _ _ _ all c.loop-n.invariant
