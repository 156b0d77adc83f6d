use Rattle.std.proofs.Common.{◌≡◌, None}
use Rattle.refusals.specs.Checks.{first_below}
use Rattle.bookcheck.specs.Checks.{body_check}
use Rattle.bookcheck.proofs.rule_table.uses.RuleUse.check_body.Given as goal

abbrev pub invariant-loop-k : goal.invariant-loop-k
invariant-loop-k l = first_below l.k (body_check l.self.names l.self.rules.bytes.now l.self.n) ≡ None
