use Rattle.std.proofs.Common.{◌<◌, length, ap, arith}
use Rattle.suspension.proofs.Skipping.{below, below_one, below_same, below_end, rest_length}
use Rattle.suspension.proofs.suspension.methods.SuspensionBook.len.Goals as goal
use Rattle.suspension.proofs.suspension.methods.SuspensionBook.len.Goals.{then-from-all, else-from-all}

pub loop-aside-init : goal.loop-aside-init
loop-aside-init g c =
    let s = c.args.self.now in
    let whole = rest_length (g.B.Book.rules s.book) s.numbers.now s.rising in
    omega (arith, ap (below s.numbers.now) c.len-all.ensures, c.len-all.ensures)

pub overflow_sub-left : goal.overflow_sub-left
overflow_sub-left g c =
    let ns = c.args.self.now.numbers.now in
    omega (arith, below_one ns c.loop-aside.aside-index c.loop-aside-test.true c.len-all.result (omega arith))

pub loop-aside-preserved : goal.loop-aside-preserved
loop-aside-preserved g c =
    let ns = c.args.self.now.numbers.now in
    let i = c.loop-aside.aside-index in
    let inside : i < length ns = c.loop-aside-test.true in
    elim c.if-from-all.branch [
      | then-from-all w ↦ omega (arith, w.left-is, c.loop-aside.invariant, below_one ns i inside c.len-all.result (omega (arith, c.from.ensures, w.if-from-all.true)))
      | else-from-all w ↦ omega (arith, w.left-is, c.loop-aside.invariant, below_same ns i inside c.len-all.result (omega (arith, c.from.ensures, w.if-from-all.false)))
    ]

pub returns : goal.returns
returns g c =
    let ns = c.args.self.now.numbers.now in
    omega (arith, c.loop-aside.invariant, below_end ns c.loop-aside.aside-index c.len-all.result c.loop-aside-test.false)
