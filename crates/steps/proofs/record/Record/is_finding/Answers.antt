use Rattle.std.proofs.Common.{◌≡◌, false, MatchOption, rules}
use Rattle.marks.specs.Words.{members}
use Rattle.marks.proofs.Held.{held_past}
use Rattle.norms.specs.Findings.{finding}
use Rattle.steps.proofs.Found.{finding_of}
use Rattle.steps.proofs.record.Record.is_finding.Goals as goal

pub returns : goal.returns
returns c =
    let s = c.args.self.now.marks in
    let told : MatchOption c.new.result (c.is_some_and.result ≡ false) (λ m. c.is_some_and.result ≡ finding (members s) m.number) = search rules in
    finding_of (members s) c.args.number c.new.result c.is_some_and.result (held_past s.words s.sixteen c.args.number) c.new.ensures told
