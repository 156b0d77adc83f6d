use Rattle.std.proofs.Common.{◌≡◌, MatchOption, rules}
use Rattle.marks.specs.Sets.{nothing}
use Rattle.marks.specs.Words.{members}
use Rattle.norms.specs.Steps.{handed_on}
use Rattle.steps.proofs.Places.{inherited_standing}
use Rattle.steps.specs.Standing.{records_of}
use Rattle.steps.proofs.table.Table.inherited.Goals as goal

pub returns : goal.returns
returns c =
    let handed : MatchOption c.last.result (members c.map_or_else.result ≡ nothing) (λ r. members c.map_or_else.result ≡ handed_on (members r.now.marks)) = search rules in
    inherited_standing (records_of c.args.self.now) c.last.result (members c.map_or_else.result) (search rules) handed
