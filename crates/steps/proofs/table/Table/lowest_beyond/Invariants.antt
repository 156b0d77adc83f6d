use Rattle.std.proofs.Common.{◌+◌}
use Rattle.norms.specs.Scenarios.{marks_of}
use Rattle.norms.proofs.Lowest.{Covered}
use Rattle.steps.specs.Standing.{standing}
use Rattle.steps.proofs.table.Table.lowest_beyond.Given as goal

abbrev pub invariant-loop-at : goal.invariant-loop-at
invariant-loop-at l = Covered (marks_of (standing l.self)) (marks_of (standing l.other)) (l.at + 1)
