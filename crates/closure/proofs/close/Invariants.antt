use Rattle.std.proofs.Common.{◌-◌, ◌≤◌}
use Rattle.marks.specs.Words.{members}
use Rattle.norms.specs.Programs.{Rounds}
use Rattle.norms.specs.Rules.{Norms}
use Rattle.closure.proofs.Counting.{many}
use Rattle.closure.proofs.close.Given as goal

abbrev pub invariant-loop-next : goal.invariant-loop-next
invariant-loop-next g l =
    Rounds (Norms (g.B.Book.rules l.book)) (members l.proposed) (members l.given) l.depth (members l.marks)
    × (l.depth ≤ many 1024 (members l.marks))

abbrev pub decreases-loop-next : goal.decreases-loop-next
decreases-loop-next g l = 1024 - many 1024 (members l.marks)
