use Rattle.std.proofs.Common.{◌≡◌, ◌+◌, ◌<◌, length, drop, sym, ap, ◌∙◌, arith}
use Rattle.std.specs.List.{slice_get}
use Rattle.std.proofs.lemmas.Option.{slice_get_past}
use Rattle.suspension.specs.Rest.{rest}
use Rattle.suspension.specs.Sound.{rest_few}
use Rattle.suspension.proofs.Skipping.{skip, skip_above, skip_same, skip_end, rest_nth}
use Rattle.suspension.proofs.suspension.Suspension.number.Goals as goal
use Rattle.suspension.proofs.suspension.Suspension.number.Goals.{then-from-at, else-from-at}

pub returns-then-n-len : goal.returns-then-n-len
returns-then-n-len g c =
    let s = c.args.self.now in
    sym (slice_get_past (rest s.numbers.now (g.B.Book.rules s.book)) c.args.n (omega (arith, rest_few s.numbers.now 0 (g.B.Book.rules s.book))))

pub loop-aside-preserved : goal.loop-aside-preserved
loop-aside-preserved g c =
    let ns = c.args.self.now.numbers.now in
    let i = c.loop-aside.aside-index in
    let inside : i < length ns = c.loop-aside-test.true in
    elim c.if-from-at.branch [
      | then-from-at w ↦ (
        ap (skip (drop (i + 1) ns)) w.at-is ∙ sym (skip_above ns i inside c.loop-aside.at (omega (arith, c.from.ensures, w.if-from-at.true))) ∙ c.loop-aside.invariant.0,
        omega (arith, w.at-is, c.loop-aside.invariant.1),
      )
      | else-from-at w ↦ (
        ap (skip (drop (i + 1) ns)) w.at-is ∙ sym (skip_same ns i inside c.loop-aside.at (omega (arith, c.from.ensures, w.if-from-at.false))) ∙ c.loop-aside.invariant.0,
        omega (arith, w.at-is, c.loop-aside.invariant.1),
      )
    ]

pub returns : goal.returns
returns g c =
    let s = c.args.self.now in
    let rules = g.B.Book.rules s.book in
    let at : c.loop-aside.at ≡ skip s.numbers.now c.args.n = sym (skip_end s.numbers.now c.loop-aside.aside-index c.loop-aside.at c.loop-aside-test.false) ∙ c.loop-aside.invariant.0 in
    ap (slice_get rules) at ∙ sym (rest_nth rules s.numbers.now s.rising c.args.n)
