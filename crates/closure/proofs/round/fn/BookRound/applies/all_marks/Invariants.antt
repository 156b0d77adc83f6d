use Rattle.std.proofs.Common.{◌≡◌}
use Rattle.marks.specs.Words.{members}
use Rattle.closure.proofs.round.fn.BookRound.applies.all_marks.Given as goal

abbrev pub ensures : goal.ensures
ensures g l r = r ≡ members l.self-from.entry.now l.mark.number
