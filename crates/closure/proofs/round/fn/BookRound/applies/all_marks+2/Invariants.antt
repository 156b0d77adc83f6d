use Rattle.std.proofs.Common.{◌≡◌}
use Rattle.marks.specs.Words.{members}
use Rattle.closure.specs.Rounds.{outside}
use Rattle.closure.proofs.round.fn.BookRound.applies.all_marks+2.Given as goal

abbrev pub ensures : goal.ensures
ensures g l r = r ≡ outside (members l.self-proposed.entry.now) l.mark.number
