use Rattle.std.proofs.Common.{◌+◌, ◌≤◌, length, drop, ap, ◌∙◌, arith}
use Rattle.std.proofs.lemmas.Bool.{ltb-false}
use Rattle.std.proofs.lemmas.List.{length-take, length-drop}
use Rattle.refusals.proofs.Passed.{test_failed}
use Rattle.refusals.proofs.Refused.{passed}
use Rattle.reading.specs.Reads.{part, there}
use Rattle.rows.proofs.row.check.check_row.Goals as goal

pub invariant_of-check-clause-whole : goal.invariant_of-check-clause-whole
invariant_of-check-clause-whole c =
    let bs = c.args.reader.now.bytes.now in
    let at = c.args.reader.now.at in
    let taken = passed c.in_ok-bytes.bytes.now (part bs at 32) (there c.args.item bs at 32) c.in_ok-bytes.ensures.answer in
    let within : at + 32 ≤ length bs = ltb-false _ _ (test_failed _ _ taken.0) in
    ap length (c.new-row.ensures ∙ taken.1) ∙ omega (arith, length-take 32 (drop at bs), length-drop at bs)
