use Rattle.std.proofs.Common.{rules, ◌-◌, ◌^◌, get_or, w64, Fits}
use borrow.Author.Tests.{tests}
use lib.Bits.{bit_and}
use Rattle.marks.proofs.Held.{held_beyond}
use Rattle.marks.proofs.Made.{made_at}
use Rattle.marks.proofs.mark_set.MarkSet.without.Goals as goal

pub returns : goal.returns
returns c =
    let ws = c.args.self.now.words in
    let vs = c.args.other.now.words in
    let us = c.from_fn.result in
    let made = c.from_fn.ensures.items in
    held_beyond ws vs us c.args.self.now.sixteen c.args.other.now.sixteen made.long
    c.args.other.now.fits
    (λ i lt. made_at _ (λ k. bit_and (get_or ws k 0) (2 ^ 64 - 1 - get_or vs k 0)) (λ k y q called. search (rules, tests)) us 16 made i 0 lt)

pub invariant_of-result-clause-fits : goal.invariant_of-result-clause-fits
invariant_of-result-clause-fits c i = let word : Fits w64 (get_or c.from_fn.result i 0) = search rules in word.fits
