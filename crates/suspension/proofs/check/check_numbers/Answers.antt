use Rattle.std.proofs.Common.{leb, length, get_or, not, refl, rules, ap, ◌∙◌, arith}
use Rattle.std.proofs.lemmas.Bool.{or_left, or_right, or_from, le-leb, lt-leb}
use Rattle.refusals.specs.Rising.{unrising}
use Rattle.refusals.proofs.First.{first_none, first_passed}
use Rattle.refusals.proofs.Refused.{refused_at, refused_if, passed_if}
use Rattle.suspension.specs.Checks.{number_check}
use Rattle.suspension.proofs.Rising.{Above, is_rising}
use Rattle.suspension.proofs.check.check_numbers.Goals as goal
use Rattle.suspension.proofs.check.check_numbers.Goals.{then-not-rises-via-then-not-rises, then-not-rises-via-else-not-rises+then-from-count}

pub loop-at-init : goal.loop-at-init
loop-at-init c = (first_none (number_check c.args.count c.args.numbers.now), refl)

pub returns-then-not-rises : goal.returns-then-not-rises
returns-then-not-rises c =
    let xs = c.args.numbers.now in
    let i = c.loop-at.at in
    let above : Above xs i c.loop-at.before c.is_none_or-rises.result = search rules in
    let up = is_rising xs i c.loop-at.before c.is_none_or-rises.result c.loop-at.invariant.1 above in
    refused_at tt (number_check c.args.count xs) i (length xs) _ c.loop-at.invariant.0
    (refused_if _ _
    (elim c.then-not-rises.branch [
      | then-not-rises-via-then-not-rises w ↦ or_left (unrising xs i) (leb c.args.count (get_or xs i 0)) (up ∙ ap not w.if-not-rises.true)
      | then-not-rises-via-else-not-rises+then-from-count w ↦ or_right (unrising xs i) (leb c.args.count (get_or xs i 0)) (le-leb c.args.count (get_or xs i 0) (omega (arith, w.from.ensures, w.if-from-count.true)))
    ]))
    c.loop-at-test.true

pub loop-at-preserved : goal.loop-at-preserved
loop-at-preserved c =
    let xs = c.args.numbers.now in
    let i = c.loop-at.at in
    let above : Above xs i c.loop-at.before c.is_none_or-rises.result = search rules in
    let up = is_rising xs i c.loop-at.before c.is_none_or-rises.result c.loop-at.invariant.1 above in (
      first_passed (number_check c.args.count xs) i c.loop-at.invariant.0
          (passed_if _ _ (or_from (unrising xs i) (leb c.args.count (get_or xs i 0)) (up ∙ ap not c.if-not-rises.false) (lt-leb c.args.count (get_or xs i 0) (omega arith)))),
      (omega arith, ap (λ k. get_or xs k 0) (omega arith)),
    )
