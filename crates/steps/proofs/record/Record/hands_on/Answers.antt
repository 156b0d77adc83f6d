use Rattle.std.proofs.Common.{◌≡◌, ◌+◌, ◌*◌, ◌&&◌, ltb, ◌∷◌, [], ◌++◌, length, sym, ap, ◌∙◌, arith}
use Rattle.std.proofs.lemmas.List.{length_push}
use Rattle.marks.specs.declared.mark.Instance.{Instance}
use Rattle.marks.specs.Numbers.{mark, carried}
use Rattle.marks.specs.Words.{members, with_mark}
use Rattle.marks.proofs.Held.{held_past}
use Rattle.marks.proofs.InARow.{turn, end}
use Rattle.norms.specs.Steps.{handed_on}
use Rattle.steps.proofs.Handing.{hand_hit, hand_miss, hand_all}
use Rattle.steps.proofs.record.Record.hands_on.Goals as goal

pub loop-instance-preserved : goal.loop-instance-preserved
loop-instance-preserved c =
    let M = members c.args.self.now.marks in
    let seen = c.loop-instance.yielded in
    let first = ap (λ s. s.next) c.into_iter-instance-iterator.ensures.into_iter_gives ∙ c.all-instance-items.ensures in
    let at = turn (λ (i : Instance). i.number) 128 first seen _ _ _ c.loop-instance.yielded_by c.in-Some.instance c.in-Some.is c.next.ensures.steps in
    let more : length seen + 1 ≡ length (seen ++ c.in-Some.instance ∷ []) = omega (arith, length_push seen c.in-Some.instance) in
    λ m.
    hand_miss M (members c.loop-instance.handed) (length seen) c.loop-instance.invariant
    (ap (λ n. handed_on M (mark n carried)) (sym at.1) ∙ sym c.hands_on_of.ensures ∙ c.if-hands_on_of.false) m
    ∙ ap (λ n. ltb m (8 * n) && handed_on M m) more

pub loop-instance-preserved-then-hands_on_of : goal.loop-instance-preserved-then-hands_on_of
loop-instance-preserved-then-hands_on_of c =
    let M = members c.args.self.now.marks in
    let S = members c.loop-instance.handed in
    let seen = c.loop-instance.yielded in
    let first = ap (λ s. s.next) c.into_iter-instance-iterator.ensures.into_iter_gives ∙ c.all-instance-items.ensures in
    let at = turn (λ (i : Instance). i.number) 128 first seen _ _ _ c.loop-instance.yielded_by c.in-Some.instance c.in-Some.is c.next.ensures.steps in
    let more : length seen + 1 ≡ length (seen ++ c.in-Some.instance ∷ []) = omega (arith, length_push seen c.in-Some.instance) in
    λ m.
    ap (λ f. f m) c.insert.ensures
    ∙ ap (λ n. with_mark n S m) (c.mark.ensures ∙ ap (λ n. mark n carried) at.1)
    ∙ hand_hit M S (length seen) c.loop-instance.invariant
    (ap (λ n. handed_on M (mark n carried)) (sym at.1) ∙ sym c.hands_on_of.ensures ∙ c.if-hands_on_of.true) m
    ∙ ap (λ n. ltb m (8 * n) && handed_on M m) more

pub returns : goal.returns
returns c =
    let s = c.args.self.now.marks in
    let first = ap (λ s. s.next) c.into_iter-instance-iterator.ensures.into_iter_gives ∙ c.all-instance-items.ensures in
    let all = end (λ (i : Instance). i.number) 128 first c.loop-instance.yielded _ _ _ c.loop-instance.yielded_by c.in-None.is c.next.ensures.steps in
    hand_all (members s) (members c.loop-instance.handed) (held_past s.words s.sixteen)
    (λ m. c.loop-instance.invariant m ∙ ap (λ n. ltb m (8 * n) && handed_on (members s) m) all)
