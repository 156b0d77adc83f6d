use Rattle.std.proofs.Common.{sym, ap, ◌∙◌, arith}
use Rattle.std.proofs.lemmas.Result.{err_from_is_err_and}
use Rattle.refusals.specs.Checks.{passes}
use Rattle.series.specs.Checks.{movement_check}
use Rattle.series.proofs.Moving.{row_refused, row_passed}
use Rattle.series.proofs.check.check_series.Goals as goal

pub returns-in_err-check_row : goal.returns-in_err-check_row
returns-in_err-check_row c =
    let p = err_from_is_err_and c.from_residual.result c.from_residual.ensures.1 in
    rw (p.1, p.2)
    (row_refused c.args.row.now c.args.movement _ _ _ c.of.ensures c.new.ensures.bytes c.new.ensures.at (omega arith)
    tt _ c.in_err-check_row.ensures.answer)

pub returns : goal.returns
returns c =
    let row = c.args.row.now in
    let m = c.args.movement in
    c.check_movement.ensures
    ∙ sym (ap (passes tt)
    (row_passed row m _ _ _ c.of.ensures c.new.ensures.bytes c.new.ensures.at (omega arith) c.in_ok-check_row.ensures.answer
    ∙ ap (λ r. movement_check r m) (sym c.new-2.ensures)))
