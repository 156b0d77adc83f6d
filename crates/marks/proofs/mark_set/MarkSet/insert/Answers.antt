use Rattle.std.proofs.Common.{◌*◌, ◌/◌, ◌%◌, ◌^◌, ◌<◌, length, get_or, set, ap, ◌∙◌, arith}
use lib.Bits.{bit_or}
use Rattle.std.proofs.lemmas.Nat.{one_shl, mod_below, or_lt}
use Rattle.marks.specs.Words.{held, with_mark}
use Rattle.marks.proofs.Held.{held_insert, fit_set}
use Rattle.marks.proofs.mark_set.MarkSet.insert.Goals as goal

pub returns : goal.returns
returns c =
    let m = c.number-m.result in
    let ws = c.args.self.now.words in
    let within : m / 64 < length ws = omega arith in
    ap (λ i. held (set ws i (bit_or (get_or ws i 0) (1 * 2 ^ (m % 64) % 2 ^ 64)))) c.from.ensures
    ∙ ap (λ b. held (set ws (m / 64) (bit_or (get_or ws (m / 64) 0) b))) (one_shl (m % 64) 64 (mod_below m 64 (omega arith)))
    ∙ held_insert ws m within
    ∙ ap (λ n. with_mark n (held ws)) c.number-m.ensures.value

pub invariant_of-self-clause-fits : goal.invariant_of-self-clause-fits
invariant_of-self-clause-fits c =
    let ws = c.args.self.now.words in
    let j = c.from.result in
    let one = 1 * 2 ^ (c.number-m.result % 64) % 2 ^ 64 in
    fit_set ws j (bit_or (get_or ws j 0) one) (omega arith) c.args.self.now.fits
    (or_lt 64 (get_or ws j 0) one (c.args.self.now.fits j) (mod_below (1 * 2 ^ (c.number-m.result % 64)) (2 ^ 64) (omega arith)))
