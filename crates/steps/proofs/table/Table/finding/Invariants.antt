use Rattle.std.proofs.Common.{◌≡◌, ◌*◌, ◌≤◌, length, take}
use Rattle.norms.specs.Findings.{dated_from}
use Rattle.steps.specs.Standing.{standing}
use Rattle.steps.proofs.table.Table.finding.Given as goal

abbrev pub invariant-loop-at : goal.invariant-loop-at
invariant-loop-at l = (l.seen ≤ l.k) × (l.seen ≤ 1024 * l.at) × (l.seen ≡ length (dated_from 1 (take l.at (standing l.self))))
