use Rattle.std.proofs.Common.{◌<◌, length, get_or, vec_items, refl, ◌∙◌, subst, arith}
use Rattle.steps.specs.Standing.{standing}
use Rattle.transcripts.specs.Hearing.{Settles}
use Rattle.transcripts.specs.Views.{ask_of, reply_of}
use Rattle.transcripts.proofs.Fronts.{answering, front_none, front_more, front_all}
use Rattle.transcripts.proofs.hearing.hear.Goals as goal

pub loop-exchange-init : goal.loop-exchange-init
loop-exchange-init g c = (refl, front_none _ _ _)

pub loop-exchange-preserved : goal.loop-exchange-preserved
loop-exchange-preserved g c =
    let review = c.args.review.now in
    let now = c.loop-exchange.exchanges in
    let i = c.loop-exchange.exchange-index in
    let before = get_or now i c.exchange-item.result in
    let heard = c.hear_one-answer in
    let inside : i < length now = omega arith in (
      heard.ensures.book ∙ c.loop-exchange.invariant.0,
      front_more (g.B.Book.rules review.book) (standing review.steps) c.args.exchanges.now now i (standing c.loop-exchange.review.steps)
          (standing heard.new.review.steps) c.exchange-item.result (answering heard.new.exchange heard.result) c.loop-exchange.invariant.1 inside
          (subst
          (λ book. Settles (g.B.Book.rules book) (standing c.loop-exchange.review.steps) (vec_items before.words) (ask_of before.call) (reply_of heard.result) (vec_items heard.new.exchange.words))
          c.loop-exchange.invariant.0 heard.ensures.settled)
          heard.ensures.stands
          heard.ensures.call,
    )

pub returns : goal.returns
returns g c =
    let all = front_all _ _ _ _ _ _ c.loop-exchange.invariant.1 (omega (arith, c.loop-exchange.auto.exchanges)) in
    record { heard = all.0; stands = all.1; calls = all.2; book = c.loop-exchange.invariant.0 }
