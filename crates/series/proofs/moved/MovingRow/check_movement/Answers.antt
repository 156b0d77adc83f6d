use Rattle.std.proofs.Common.{◌≡◌, ◌+◌, sym, refl, ap, ◌∙◌, add-one, arith}
use Rattle.std.proofs.lemmas.Result.{err_from_is_err_and}
use Rattle.refusals.specs.Checks.{first_below, passes}
use Rattle.refusals.proofs.First.{first_none}
use Rattle.refusals.proofs.Refused.{call_passed, call_refused}
use Rattle.series.specs.Checks.{position_check}
use Rattle.series.proofs.Moving.{positions_left}
use Rattle.series.proofs.moved.MovingRow.check_movement.Goals as goal

pub returns-in_err-check_position : goal.returns-in_err-check_position
returns-in_err-check_position c =
    let row = c.args.self.now.row.bytes.now in
    let m = c.args.self.now.movement in
    let p = err_from_is_err_and c.from_residual.result c.from_residual.ensures.1 in
    rw (p.1, p.2)
    (call_refused tt (position_check row m) 0 _ (first_none (position_check row m)) refl tt _ c.in_err-check_position.ensures 16 (omega arith)
    ∙ sym (ap (passes tt) (positions_left row m (omega arith) (omega arith))))

pub loop-k-init : goal.loop-k-init
loop-k-init c =
    let check = position_check c.args.self.now.row.bytes.now c.args.self.now.movement in
    call_passed tt check 0 _ (first_none check) refl _ c.in_ok-check_position.ensures

pub returns-in_err-check_position-2 : goal.returns-in_err-check_position-2
returns-in_err-check_position-2 c =
    let row = c.args.self.now.row.bytes.now in
    let m = c.args.self.now.movement in
    let check = position_check row m in
    let p = err_from_is_err_and c.from_residual-in_err-check_position-2.result c.from_residual-in_err-check_position-2.ensures.1 in
    rw (p.1, p.2)
    (call_refused tt check (c.loop-k.k + 1) _ c.loop-k.invariant (sym (ap check (add-one c.loop-k.k))) tt _ c.in_err-check_position-2.ensures 16 (omega arith)
    ∙ sym (ap (passes tt) (positions_left row m (omega arith) (omega arith))))

pub loop-k-preserved : goal.loop-k-preserved
loop-k-preserved c =
    let check = position_check c.args.self.now.row.bytes.now c.args.self.now.movement in
    call_passed tt check (c.loop-k.k + 1) _ c.loop-k.invariant (sym (ap check (add-one c.loop-k.k))) _ c.in_ok-check_position-2.ensures

pub returns : goal.returns
returns c =
    let row = c.args.self.now.row.bytes.now in
    let m = c.args.self.now.movement in
    let all : 16 ≡ c.loop-k.k + 1 = omega arith in
    sym (ap (passes tt) (positions_left row m (omega arith) (omega arith) ∙ ap (λ n. first_below n (position_check row m)) all ∙ c.loop-k.invariant))
