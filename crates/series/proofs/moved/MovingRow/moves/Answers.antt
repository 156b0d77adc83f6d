use Rattle.std.proofs.Common.{suc, ◌+◌, eqb, bit_and, sym, ap, ◌∙◌, add-one, div-one, arith}
use Rattle.std.proofs.lemmas.Bool.{le-ltb}
use Rattle.marks.specs.Words.{bit}
use Rattle.marks.proofs.Bits.{bit_read}
use Rattle.series.specs.Positions.{place}
use Rattle.series.proofs.Moving.{bit_high}
use Rattle.series.proofs.moved.MovingRow.moves.Goals as goal

pub returns-in-Head : goal.returns-in-Head
returns-in-Head c =
    let w = c.args.self.now.movement.moving in
    ap (λ x. eqb (bit_and x 1) 1) (sym (div-one w)) ∙ bit_read w 0 ∙ ap (λ p. bit w (place p)) (sym c.in-Head.is)

pub returns-then-k-lt15 : goal.returns-then-k-lt15
returns-then-k-lt15 c =
    let w = c.args.self.now.movement.moving in
    bit_read w (c.in-Body.k + 1) ∙ ap (bit w) (add-one c.in-Body.k) ∙ ap (λ p. bit w (place p)) (sym c.in-Body.is)

pub returns-else-k-lt15 : goal.returns-else-k-lt15
returns-else-k-lt15 c =
    let w = c.args.self.now.movement.moving in
    le-ltb c.in-Body.k 15 c.if-k-lt15.false ∙ sym (bit_high w (suc c.in-Body.k) (omega arith) (omega arith)) ∙ ap (λ p. bit w (place p)) (sym c.in-Body.is)
