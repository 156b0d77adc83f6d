use Rattle.std.proofs.Common.{refl}
use Rattle.std.proofs.lemmas.Result.{err_from_is_err_and}
use Rattle.refusals.proofs.First.{first_none}
use Rattle.refusals.proofs.Refused.{call_passed, call_refused}
use Rattle.bookcheck.specs.Checks.{uses_check}
use Rattle.bookcheck.proofs.rule_table.RuleTable.check_uses.Goals as goal

pub loop-n-init : goal.loop-n-init
loop-n-init c = first_none (uses_check c.args.names c.args.self.now.bytes.now)

pub returns-in_err-check : goal.returns-in_err-check
returns-in_err-check c =
    let p = err_from_is_err_and c.from_residual.result c.from_residual.ensures.1 in
    rw (p.1, p.2)
    (call_refused tt (uses_check c.args.names c.args.self.now.bytes.now) c.loop-n.n _ c.loop-n.invariant refl tt _ c.in_err-check.ensures c.args.self.now.count c.loop-n-test.true)

pub loop-n-preserved : goal.loop-n-preserved
loop-n-preserved c = call_passed tt (uses_check c.args.names c.args.self.now.bytes.now) c.loop-n.n _ c.loop-n.invariant refl _ c.in_ok-check.ensures
