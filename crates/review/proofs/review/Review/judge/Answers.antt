use Rattle.std.proofs.Common.{◌+◌, ◌<◌, length, ap, ◌∙◌, arith}
use Rattle.marks.specs.Sets.{among}
use Rattle.marks.specs.Words.{members}
use Rattle.lists.specs.Lists.{said_check, proposed_check}
use Rattle.norms.specs.Findings.{findings_in}
use Rattle.steps.specs.Standing.{standing}
use Rattle.refusals.proofs.Refused.{passed}
use Rattle.review.proofs.Judging.{lists_pass, step_passes, judged_passes}
use Rattle.review.proofs.review.Review.judge.Goals as goal

pub returns : goal.returns
returns g c =
    let self = c.args.self.now in
    let steps = standing self.steps in
    let said = c.args.said.now in
    let proposed = c.args.proposed.now in
    let s = passed (members c.in_ok-said.said) (among said) (said_check said) c.in_ok-said.ensures in
    let m = passed (members c.in_ok-marks.marks) (among proposed) (proposed_check proposed) c.in_ok-marks.ensures in
    let room : length steps < 64 = omega (arith, c.len-standing.ensures.value) in
    let same = c.in_ok-compare.ensures in
    record {
      judged =
          judged_passes (g.B.Book.rules self.book) steps said proposed _ (lists_pass steps said proposed room s.0 m.0)
          (step_passes (g.B.Book.rules self.book) steps said proposed
          (members c.in_ok-said.said) (members c.in_ok-marks.marks) (members c.given.result) (members c.close-closure.result.marks)
          (c.len-standing.result + 1) c.close-closure.result.depth c.findings.result
          s.1 m.1 c.given.ensures c.close-closure.ensures.closes same.0 same.1
          (ap (λ n. n + 1) c.len-standing.ensures.value)
          (c.findings.ensures.value ∙ ap (λ x. length (findings_in (members x))) c.new.ensures.marks));
      room = room;
      said = s.1;
      marks = m.1;
    }
