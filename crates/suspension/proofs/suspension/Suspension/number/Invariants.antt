use Rattle.std.proofs.Common.{◌≡◌, ◌+◌, ◌≤◌, drop}
use Rattle.suspension.proofs.Skipping.{skip}
use Rattle.suspension.proofs.suspension.Suspension.number.Given as goal

abbrev pub invariant-loop-aside : goal.invariant-loop-aside
invariant-loop-aside g l =
    (skip (drop l.aside-index l.self.numbers.now) l.at ≡ skip l.self.numbers.now l.n)
    × (l.at ≤ l.n + l.aside-index)
