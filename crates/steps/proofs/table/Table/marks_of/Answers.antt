use Rattle.std.proofs.Common.{◌≡◌, ◌+◌, None, MatchOption, rules}
use Rattle.std.specs.Slice.{IsItemAt}
use Rattle.marks.specs.Sets.{nothing}
use Rattle.marks.specs.Words.{members}
use Rattle.steps.proofs.Places.{marks_at}
use Rattle.steps.specs.Standing.{records_of}
use Rattle.steps.proofs.table.Table.marks_of.Goals as goal

pub returns : goal.returns
returns c =
    let rs = (records_of c.args.self.now) in
    let marks : MatchOption c.and_then.result (members c.map_or_else.result ≡ nothing) (λ r. members c.map_or_else.result ≡ members r.now.marks) = search rules in
    let lent : MatchOption c.checked_sub.result (c.and_then.result ≡ None) (λ k. IsItemAt rs k c.and_then.result) = search rules in
    let here : MatchOption c.checked_sub.result (c.args.step ≡ 0) (λ k. c.args.step ≡ k + 1) = search rules in
    marks_at rs c.args.step c.checked_sub.result c.and_then.result (members c.map_or_else.result) here lent marks
