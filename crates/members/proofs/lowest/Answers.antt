use Rattle.std.proofs.Common.{◌≡◌, ◌<◌, ◌∙◌, ap, sym, rules}
use borrow.Author.Tests.{tests}
use Rattle.std.specs.Option.{option_map}
use Rattle.std.proofs.lemmas.Iterator.{YieldsList-from_slice, IsFirst-from_position}
use Rattle.marks.specs.declared.mark.Mark.{Mark}
use Rattle.marks.specs.Words.{members}
use Rattle.members.proofs.LowestMark.{no_word, at_word}
use Rattle.members.proofs.lowest.Goals as goal

pub returns-in_err-i : goal.returns-in_err-i
returns-in_err-i c =
    let ws = c.words-words.result in
    let first = IsFirst-from_position _ _ c.position.result (λ w. 0 < w) (λ w. w ≡ 0) c.position.ensures.ran (YieldsList-from_slice ws (cc)) (λ x q k. search (rules, tests)) (λ x q k. search (rules, tests)) in
    ap (option_map (λ (m : Mark). m.number)) c.from_residual.ensures
    ∙ sym (no_word (members c.args.set.now) ws c.words-words.ensures c.position.result first c.in_err-i.was)

pub returns : goal.returns
returns c =
    let ws = c.words-words.result in
    let first = IsFirst-from_position _ _ c.position.result (λ w. 0 < w) (λ w. w ≡ 0) c.position.ensures.ran (YieldsList-from_slice ws (cc)) (λ x q k. search (rules, tests)) (λ x q k. search (rules, tests)) in
    at_word (members c.args.set.now) ws c.words-words.ensures c.position.result first c.in_ok-i.i c.in_ok-i.was c.new.result c.new.ensures
