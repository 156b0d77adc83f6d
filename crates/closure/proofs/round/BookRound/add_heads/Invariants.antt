use Rattle.marks.specs.Words.{members}
use Rattle.closure.specs.Rounds.{Place, Below, Adds}
use Rattle.closure.proofs.round.BookRound.add_heads.Given as goal

abbrev pub invariant-loop-n : goal.invariant-loop-n
invariant-loop-n g l =
    Adds (Below l.n (Place (g.B.Book.rules l.self.book.now))) (members l.self.proposed.now) (members l.self.from.now) (members l.initial.next) (members l.next)
