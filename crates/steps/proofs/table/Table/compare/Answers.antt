use Rattle.std.proofs.Common.{sym, refl}
use Rattle.norms.specs.Scenarios.{trace}
use Rattle.norms.proofs.Lowest.{other_sets}
use Rattle.steps.specs.Standing.{standing}
use Rattle.steps.proofs.table.Table.compare.Goals as goal

pub returns-in_default : goal.returns-in_default
returns-in_default c =
    let S = trace (standing c.args.self.now) in
    let R = trace (standing c.args.other.now) in
    (c.if-not-same_scenario.ensures.0 refl, (λ same. other_sets R S _ c.in_default.ensures'.0 (sym same)), c.lowest_beyond.ensures, c.lowest_beyond-2.ensures)

pub returns-in_default-2 : goal.returns-in_default-2
returns-in_default-2 c =
    let S = trace (standing c.args.self.now) in
    let R = trace (standing c.args.other.now) in
    (c.if-not-same_scenario.ensures.0 refl, other_sets S R _ c.in_default.ensures.0, c.lowest_beyond.ensures, c.lowest_beyond-2.ensures)
