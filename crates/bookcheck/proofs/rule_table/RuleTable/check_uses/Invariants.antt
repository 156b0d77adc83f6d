use Rattle.std.proofs.Common.{◌≡◌, None}
use Rattle.refusals.specs.Checks.{first_below}
use Rattle.bookcheck.specs.Checks.{uses_check}
use Rattle.bookcheck.proofs.rule_table.RuleTable.check_uses.Given as goal

abbrev pub invariant-loop-n : goal.invariant-loop-n
invariant-loop-n l = first_below l.n (uses_check l.names l.self.bytes.now) ≡ None
