use lib.Bits.{bit_and}
use Rattle.std.proofs.Common.{◌/◌, ◌%◌, ◌^◌, eqb, get_or, ap, ◌∙◌}
use Rattle.marks.specs.Words.{held}
use Rattle.marks.proofs.Bits.{bit_read}
use Rattle.marks.proofs.mark_set.MarkSet.has.Goals as goal

pub returns : goal.returns
unfolding held
returns c =
    ap (λ i. eqb (bit_and (get_or c.args.self.now.words i 0 / 2 ^ (c.number-m.result % 64)) 1) 1) c.from.ensures
    ∙ bit_read (get_or c.args.self.now.words (c.number-m.result / 64) 0) (c.number-m.result % 64)
    ∙ ap (held c.args.self.now.words) c.number-m.ensures.value
