use Rattle.std.proofs.Common.{◌≡◌, length, rules}
use Rattle.refusals.specs.Checks.{where_passes}
use Rattle.suspension.specs.Checks.{suspension_check}
use Rattle.suspension.proofs.Rising.{made_few, made_rising}
use Rattle.suspension.proofs.suspension.Suspension.new.Goals as goal

pub invariant_of-result : goal.invariant_of-result
invariant_of-result g c =
    let ns = c.args.numbers.now in
    let count = length (g.B.Book.rules c.args.book) in
    let made : c.map_or-numbers.result.now ≡ where_passes (suspension_check count ns) ns = search rules in
    record { few = made_few count ns c.map_or-numbers.result.now made; rising = made_rising count ns c.map_or-numbers.result.now made }
