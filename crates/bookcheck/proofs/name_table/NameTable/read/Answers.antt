use Rattle.std.proofs.Common.{◌+◌, sym, refl, ap₂, ◌∙◌}
use Rattle.std.proofs.lemmas.Result.{err_from_is_err_and}
use Rattle.refusals.proofs.First.{first_none}
use Rattle.refusals.proofs.Refused.{call_passed, call_refused}
use Rattle.bookcheck.specs.Layout.{name_at}
use Rattle.bookcheck.specs.Checks.{name_check}
use Rattle.bookcheck.proofs.Walk.{name_at_none}
use Rattle.bookcheck.proofs.name_table.NameTable.read.Goals as goal

pub loop-n-init : goal.loop-n-init
loop-n-init c = (refl, sym (name_at_none c.args.reader.now.bytes.now c.args.reader.now.at), first_none (name_check c.args.reader.now.bytes.now c.args.reader.now.at))

pub returns-in_err-check_next-clause-answer : goal.returns-in_err-check_next-clause-answer
returns-in_err-check_next-clause-answer c =
    let p = err_from_is_err_and c.from_residual.result c.from_residual.ensures.1 in
    rw (p.1, p.2)
    (call_refused (tt {0}) (name_check c.args.reader.now.bytes.now c.args.reader.now.at) c.loop-n.n _ c.loop-n.invariant.2
    (ap₂ (λ bs from. name_check bs from c.loop-n.n) c.bytes-bytes.ensures c.at-from.ensures.value)
    (tt {0}) _ c.in_err-check_next.ensures.answer c.args.count c.loop-n-test.true)

pub loop-n-preserved : goal.loop-n-preserved
loop-n-preserved c = (
  c.in_ok-check_next.ensures.moved.bytes ∙ c.loop-n.invariant.0,
  c.in_ok-check_next.ensures.moved.at ∙ ap₂ (λ bs from. name_at bs from (c.loop-n.n + 1)) c.bytes-bytes.ensures c.at-from.ensures.value,
  call_passed (tt {0}) (name_check c.args.reader.now.bytes.now c.args.reader.now.at) c.loop-n.n _ c.loop-n.invariant.2
      (ap₂ (λ bs from. name_check bs from c.loop-n.n) c.bytes-bytes.ensures c.at-from.ensures.value)
      (tt {0}) c.in_ok-check_next.ensures.answer,
)
