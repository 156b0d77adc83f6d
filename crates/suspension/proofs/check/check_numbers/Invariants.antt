use Rattle.std.proofs.Common.{◌≡◌, None}
use Rattle.refusals.specs.Checks.{first_below}
use Rattle.suspension.specs.Checks.{number_check}
use Rattle.suspension.proofs.Rising.{Before}
use Rattle.suspension.proofs.check.check_numbers.Given as goal

abbrev pub invariant-loop-at : goal.invariant-loop-at
invariant-loop-at l =
    (first_below l.at (number_check l.count l.numbers) ≡ None)
    × Before l.numbers l.at l.before
