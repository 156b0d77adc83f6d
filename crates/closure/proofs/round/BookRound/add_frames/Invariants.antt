use Rattle.std.proofs.Common.{length}
use Rattle.marks.specs.Words.{members}
use Rattle.closure.specs.Rounds.{FrameOf, Below, Adds}
use Rattle.closure.proofs.round.BookRound.add_frames.Given as goal

abbrev pub invariant-loop-i : goal.invariant-loop-i
invariant-loop-i g l =
    Adds (Below (length l.yielded) FrameOf) (members l.self.proposed.now) (members l.self.from.now) (members l.initial.next) (members l.next)
