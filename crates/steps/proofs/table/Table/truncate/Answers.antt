use Rattle.std.proofs.Common.{map, sym, ap, ◌∙◌, arith}
use Rattle.std.proofs.lemmas.List.{take-map, take-take}
use Rattle.steps.specs.Standing.{step_of, records_of}
use Rattle.steps.proofs.table.Table.truncate.Goals as goal

pub returns-then-n-self : goal.returns-then-n-self
returns-then-n-self c =
    let t = c.args.self.now in
    sym (take-map step_of c.args.n (records_of t) ∙ ap (map step_of) (take-take c.args.n t.count t.places.records.items (omega arith)))
