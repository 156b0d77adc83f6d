use Rattle.std.proofs.Common.{◌*◌, arith}
use Rattle.std.proofs.lemmas.List.Edits.{fill_by_more}
use Rattle.reading.specs.Reads.{pair}
use Rattle.casefile.proofs.Marks.{take_marks}
use Rattle.casefile.proofs.lists.MarkList.fill.Goals as goal

pub loop-i-preserved : goal.loop-i-preserved
loop-i-preserved c = fill_by_more (λ k. pair c.args.bytes.now (2 * k)) c.loop-i.self.marks c.loop-i.i 0 (omega arith) c.loop-i.invariant

pub returns : goal.returns
returns c = take_marks c.loop-i.self.marks c.args.bytes.now (omega arith) (λ k h. c.loop-i.invariant k (omega arith))
