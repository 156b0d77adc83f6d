use Rattle.std.proofs.Common.{◌≡◌, arith, rules}
use Rattle.std.proofs.lemmas.Result.{err_from_is_err_and}
use Rattle.refusals.specs.Telling.{answered}
use Rattle.refusals.specs.Checks.{passes}
use Rattle.casefile.specs.Faults.{case_told}
use Rattle.casefile.specs.Cases.{case_end}
use Rattle.casefile.proofs.More.{end_none, stops}
use Rattle.casefile.proofs.Law.{call_law, steps_read}
use Rattle.casefile.proofs.case_check.check_case.Goals as goal

pub returns-in_err-read_step : goal.returns-in_err-read_step
returns-in_err-read_step c =
    let bs = c.args.bytes.now in
    let reader = c.loop-step.reader in
    let inv = c.loop-step.invariant in
    let told = case_told c.in_err-read_step.field-0.0 in
    let r = c.from_residual-in_err-read_step.result in
    let p = err_from_is_err_and r c.from_residual-in_err-read_step.ensures.1 in
    let answer : answered case_told r ≡ passes tt (case_end bs) =
    rw (p.1, p.2)
    (stops bs reader.bytes.now inv.0 c.in_ok-count.count c.loop-step.step reader.at c.loop-step-test.true (case_end bs) inv.1 told
    c.in_err-read_step.ensures.answer) in
    record { answer = answer; law = call_law r bs (λ i. let f = c.type_inv.bytes i in omega arith) answer; meant = steps_read bs }

pub returns : goal.returns
returns c =
    let bs = c.args.bytes.now in
    let none = end_none bs c.loop-step.step c.loop-step.reader.at in
    let answer : answered case_told c.read_end.result ≡ passes tt (case_end bs) = search rules in
    record { answer = answer; law = call_law c.read_end.result bs (λ i. let f = c.type_inv.bytes i in omega arith) answer; meant = steps_read bs }
