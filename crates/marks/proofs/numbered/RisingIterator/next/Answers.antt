use Rattle.std.proofs.Common.{rules, ◌+◌, ◌<◌, ◌∷◌, length, ap, sym, ◌∙◌, arith}
use Rattle.marks.specs.Numbered.{numbers}
use Rattle.marks.proofs.InARow.{numbers_next, numbers_past, length_numbers}
use Rattle.marks.proofs.numbered.RisingIterator.next.Goals as goal

pub returns-in_err-value-clause-steps : goal.returns-in_err-value-clause-steps
returns-in_err-value-clause-steps g c =
    let none = numbers_past c.args.self.now.next g.T.Numbered.end c.in_err-value.ensures in
    rw c.from_residual.ensures (none, none)

pub returns-clause-steps : goal.returns-clause-steps
returns-clause-steps g c =
    let at = c.args.self.now.next in
    let end = g.T.Numbered.end in
    let here = c.in_ok-value.ensures in
    numbers_next at end (omega (arith, here, g.T.Numbered.within c.in_ok-value.value))
    ∙ ap (λ n. n ∷ numbers (at + 1) end) (sym here)

pub returns-clause-goes : goal.returns-clause-goes
returns-clause-goes g c =
    let at = c.args.self.now.next in
    let end = g.T.Numbered.end in
    let fewer : length (numbers (at + 1) end) < length (numbers at end) =
    omega (arith, c.in_ok-value.ensures, g.T.Numbered.within c.in_ok-value.value, length_numbers at end, length_numbers (at + 1) end)
    in
    record { on = λ f. (search rules, search rules, fewer); keeps = search rules; rests = search rules }
