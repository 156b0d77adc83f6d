use Rattle.std.proofs.lemmas.List.{length_push}
use Rattle.std.proofs.Common.{ap, ◌∙◌, subst}
use Rattle.marks.specs.declared.mark.Instance.{Instance}
use Rattle.marks.proofs.InARow.{turn, end}
use Rattle.marks.specs.Words.{members}
use Rattle.closure.specs.Rounds.{FrameOf, Below, Adds}
use Rattle.closure.proofs.Adding.{adds_frame_more}
use Rattle.closure.proofs.round.BookRound.add_frames.Goals as goal

pub loop-i-preserved : goal.loop-i-preserved
loop-i-preserved g c =
    let first = ap (λ (s : _). s.next) c.into_iter-i-iterator.ensures.into_iter_gives ∙ c.all-i-items.ensures in
    let at = turn (λ (i : Instance). i.number) 128 first c.loop-i.yielded _ _ _ c.loop-i.yielded_by c.in-Some.i c.in-Some.is c.next.ensures.steps in
    rw (length_push c.loop-i.yielded c.in-Some.i) (adds_frame_more _ _ _ _ _ _ _ _ at.1 c.loop-i.invariant (c.add_holds.ensures _) c.add_breached.ensures)

pub returns : goal.returns
returns g c =
    let first = ap (λ (s : _). s.next) c.into_iter-i-iterator.ensures.into_iter_gives ∙ c.all-i-items.ensures in
    let all = end (λ (i : Instance). i.number) 128 first c.loop-i.yielded _ _ _ c.loop-i.yielded_by c.in-None.is c.next.ensures.steps in
    subst (λ k. Adds (Below k FrameOf) (members c.args.self.now.proposed.now) (members c.args.self.now.from.now) (members c.args.next.now) (members c.loop-i.next)) all c.loop-i.invariant
