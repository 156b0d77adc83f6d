use Rattle.std.proofs.Common.{◌≡◌, ◌+◌, None}
use Rattle.refusals.specs.Checks.{first_below}
use Rattle.series.specs.Checks.{position_check}
use Rattle.series.proofs.moved.MovingRow.check_movement.Given as goal

abbrev pub invariant-loop-k : goal.invariant-loop-k
invariant-loop-k l = first_below (l.k + 1) (position_check l.self.row.bytes.now l.self.movement) ≡ None
