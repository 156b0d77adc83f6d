use Rattle.marks.specs.Words.{members}
use Rattle.lists.proofs.Gather.{Gathered}
use Rattle.lists.proofs.lists.check_list.Given as goal

abbrev pub invariant-loop-at : goal.invariant-loop-at
invariant-loop-at g l = let f = g.F.MarksFault in Gathered f.first f.bars l.list l.at (members l.marks) l.before
