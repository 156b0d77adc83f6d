use Rattle.std.proofs.Common.{◌≡◌, ◌≤◌, length}
use Rattle.steps.proofs.record.Record.finding.Given as goal

abbrev pub invariant-loop-mark : goal.invariant-loop-mark
invariant-loop-mark l =
    (goal.iterator-loop-mark).can_next l.mark-iterator ×
    (goal.iterator-loop-mark).is_finite l.mark-iterator ×
    (l.seen ≡ length l.yielded) ×
    (l.seen ≤ l.k)
