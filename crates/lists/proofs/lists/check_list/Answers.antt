use Rattle.std.proofs.Common.{◌≡◌, Err, ap, ◌∙◌, arith, rules}
use Rattle.std.specs.Result.{result_map_both}
use Rattle.marks.specs.Words.{members}
use Rattle.lists.proofs.Gather.{IsNotAbove, gather_none, gather_more, stop_high, stop_unrising, stop_barred, gather_all}
use Rattle.lists.proofs.lists.check_list.Goals as goal

pub loop-at-init : goal.loop-at-init
loop-at-init g c = let f = g.F.MarksFault in gather_none f.first f.bars c.args.list.now _ c.empty-marks.ensures

pub returns-in_default : goal.returns-in_default
returns-in_default g c =
    let f = g.F.MarksFault in
    ap Err c.high.ensures ∙ stop_high f.first f.bars c.args.list.now c.loop-at.at _ _ c.loop-at-test.true c.loop-at.invariant c.in_default.ensures

pub returns-then-is_some_and : goal.returns-then-is_some_and
returns-then-is_some_and g c =
    let f = g.F.MarksFault in
    let test : IsNotAbove c.loop-at.before c.in-Some.mark c.is_some_and.result = search rules in
    ap Err c.not_rising.ensures
    ∙ stop_unrising f.first f.bars c.args.list.now c.loop-at.at _ _ c.loop-at-test.true c.loop-at.invariant c.in-Some.mark c.in-Some.ensures _ test c.if-is_some_and.true

pub returns-in_err-admit : goal.returns-in_err-admit
returns-in_err-admit g c =
    let f = g.F.MarksFault in
    let test : IsNotAbove c.loop-at.before c.in-Some.mark c.is_some_and.result = search rules in
    let told : c.from_residual.result ≡ Err c.in_err-admit.field-0.0 = search rules in
    ap (result_map_both (λ s. members s) g.F.Fault.told) told
    ∙ stop_barred f.first f.bars c.args.list.now c.loop-at.at _ _ c.loop-at-test.true c.loop-at.invariant c.in-Some.mark c.in-Some.ensures _ test c.if-is_some_and.false _ c.in_err-admit.ensures

pub loop-at-preserved : goal.loop-at-preserved
loop-at-preserved g c =
    let f = g.F.MarksFault in
    let test : IsNotAbove c.loop-at.before c.in-Some.mark c.is_some_and.result = search rules in
    gather_more f.first f.bars c.args.list.now c.loop-at.at _ _ c.loop-at-test.true c.loop-at.invariant c.in-Some.mark c.in-Some.ensures _ test c.if-is_some_and.false
    c.in_ok-admit.ensures _ c.insert.ensures

pub returns : goal.returns
returns g c = let f = g.F.MarksFault in gather_all f.first f.bars c.args.list.now c.loop-at.at _ _ (omega arith) c.loop-at.invariant
