use Rattle.std.proofs.Common.{◌≡◌, ◌+◌, Some, get_or, ap, ◌∙◌, length, arith}
use Rattle.marks.specs.Words.{members}
use Rattle.norms.specs.Scenarios.{marks_of}
use Rattle.norms.specs.Traces.{of_step}
use Rattle.steps.specs.Standing.{standing, records_of}
use Rattle.steps.proofs.Comparing.{lowest_at, none_at, none_left, covered_first}
use Rattle.steps.proofs.Places.{marks_here}
use Rattle.steps.proofs.table.Table.lowest_beyond.Goals as goal

pub loop-at-init : goal.loop-at-init
loop-at-init c = covered_first (marks_of (standing c.args.self.now)) (marks_of (standing c.args.other.now))

pub returns-in-Some : goal.returns-in-Some
returns-in-Some c =
    let r = c.record-item.result in
    let i = c.loop-at.at in
    let items = c.records-record-items.ensures in
    let own : members c.marks.result.now ≡ of_step (marks_of (standing c.args.self.now)) (i + 1) =
    ap members c.marks.ensures ∙ marks_here (records_of c.args.self.now) i r (omega (arith, c.loop-at-test.true, ap length items)) (c.record-item.is ∙ ap (λ rs. get_or rs i r) items) in
    lowest_at (marks_of (standing c.args.self.now)) (marks_of (standing c.args.other.now)) (i + 1) c.marks.result.now c.marks_of.result
    own c.marks_of.ensures c.loop-at.invariant c.number.result (ap Some c.number.ensures.value ∙ c.in-Some.ensures)

pub loop-at-preserved : goal.loop-at-preserved
loop-at-preserved c =
    let r = c.record-item.result in
    let i = c.loop-at.at in
    let items = c.records-record-items.ensures in
    let own : members c.marks.result.now ≡ of_step (marks_of (standing c.args.self.now)) (i + 1) =
    ap members c.marks.ensures ∙ marks_here (records_of c.args.self.now) i r (omega (arith, c.loop-at-test.true, ap length items)) (c.record-item.is ∙ ap (λ rs. get_or rs i r) items) in
    none_at (marks_of (standing c.args.self.now)) (marks_of (standing c.args.other.now)) (i + 1) c.marks.result.now c.marks_of.result
    own c.marks_of.ensures c.loop-at.invariant c.in_default.ensures

pub returns : goal.returns
returns c = none_left c.args.self.now c.args.other.now (c.loop-at.at + 1) (omega (arith, ap length c.records-record-items.ensures)) c.loop-at.invariant
