use Rattle.std.proofs.Common.{get_or, length, ap, ◌∙◌, arith}
use Rattle.steps.proofs.Search.{found_at, counted_on, none_left}
use Rattle.steps.proofs.table.Table.finding.Goals as goal

pub returns-in-Ok : goal.returns-in-Ok
returns-in-Ok c =
    let r = c.record-item.result in
    let i = c.loop-at.at in
    let items = c.records-record-items.ensures in
    record {
      value =
          found_at c.args.self.now i r (omega (arith, c.loop-at-test.true, ap length items)) (c.record-item.is ∙ ap (λ rs. get_or rs i r) items)
          c.loop-at.seen c.args.k c.loop-at.invariant.2 c.loop-at.invariant.0 c.in-Ok.mark c.in-Ok.ensures.value;
      low = c.in-Ok.ensures.low;
    }

pub loop-at-preserved : goal.loop-at-preserved
loop-at-preserved c =
    let r = c.record-item.result in
    let i = c.loop-at.at in
    let items = c.records-record-items.ensures in
    let on =
    counted_on c.args.self.now i r (omega (arith, c.loop-at-test.true, ap length items)) (c.record-item.is ∙ ap (λ rs. get_or rs i r) items)
    c.loop-at.seen c.args.k c.loop-at.invariant.2 c.loop-at.invariant.0 c.in-Err.here c.in-Err.ensures.value in
    let few = c.in-Err.ensures.low in
    (on.0, omega arith, on.1)

pub returns : goal.returns
returns c =
    record {
      value = none_left c.args.self.now c.loop-at.at c.loop-at.seen c.args.k (omega (arith, ap length c.records-record-items.ensures)) c.loop-at.invariant.2 c.loop-at.invariant.0;
      low = tt;
    }
