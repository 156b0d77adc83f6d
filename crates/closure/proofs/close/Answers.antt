use Rattle.std.proofs.Common.{◌<◌, ◌≤◌, arith}
use Rattle.marks.specs.Words.{members}
use Rattle.norms.specs.Programs.{none}
use Rattle.norms.proofs.Lawful.{lawful}
use Rattle.closure.proofs.Counting.{many, many_le}
use Rattle.closure.proofs.Closing.{count_rises, rounds_more, closes}
use Rattle.closure.proofs.close.Given.{Over}
use Rattle.closure.proofs.close.Goals as goal

pub loop-next-init : goal.loop-next-init
loop-next-init g c = (none, omega arith)

pub returns-then-is_none : goal.returns-then-is_none
returns-then-is_none g c =
    record {
      closes = closes _ _ _ _ _ _ _ c.run-next.ensures c.beyond.ensures c.if-is_none.ensures c.loop-next.invariant.0;
      few = omega (arith, c.loop-next.invariant.1, many_le 1024 (members c.loop-next.marks));
      lawful = lawful (g.B.Book.rules c.args.book.now);
    }

pub overflow_add-depth : goal.overflow_add-depth
overflow_add-depth g c =
    let few : c.loop-next.depth ≤ 1024 = omega (arith, c.loop-next.invariant.1, many_le 1024 (members c.loop-next.marks)) in
    omega arith

rises : (g : Over) (c : goal.Else-is_none g) → many 1024 (members c.loop-next.marks) < many 1024 (members c.run-next.result)
rises g c = count_rises _ _ _ _ _ c.run-next.ensures c.beyond.ensures c.if-is_none.ensures

pub loop-next-smaller : goal.loop-next-smaller
loop-next-smaller g c = omega (arith, rises g c, many_le 1024 (members c.run-next.result))

pub loop-next-preserved : goal.loop-next-preserved
loop-next-preserved g c = (
  rounds_more _ _ _ _ _ _ c.run-next.ensures c.beyond.ensures c.if-is_none.ensures c.loop-next.invariant.0,
  omega (arith, c.loop-next.invariant.1, rises g c),
)
