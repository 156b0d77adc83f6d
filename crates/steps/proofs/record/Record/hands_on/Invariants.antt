use Rattle.std.proofs.Common.{◌≡◌, ℕ, ◌*◌, ◌&&◌, ltb, length}
use Rattle.marks.specs.Words.{members}
use Rattle.norms.specs.Steps.{handed_on}
use Rattle.steps.proofs.record.Record.hands_on.Given as goal

abbrev pub invariant-loop-instance : goal.invariant-loop-instance
invariant-loop-instance l = (m : ℕ) → members l.handed m ≡ (ltb m (8 * length l.yielded) && handed_on (members l.self.marks) m)
