-- A list of exchanges whose front was heard. Assumes nothing.
--     Front rules before entry now i steps
--         the first i of the exchanges `entry` were heard, where the steps `before` stood; these exchanges are now `now`, and
--         the steps `steps` stand
use Rattle.std.proofs.Common.{◌≡◌, ℕ, ◌+◌, ◌<◌, ◌≤◌, List, [], ◌∷◌, ◌++◌, length, get_or, take, set, Some, IsSomeAnd, sym, refl, ap, ◌∙◌, subst, ap₂, arith}
use lib.Seq.{map-set_same}
use Rattle.std.proofs.lemmas.List.{length-map, length-take-le, take_more, take_more_set, take_all, get_or-set_other}
use Rattle.norms.specs.Programs.{Rule}
use Rattle.norms.specs.Steps.{Step}
use Rattle.transcripts.specs.Asks as model
use Rattle.transcripts.specs.Hearing.{Lists, steps_by, then, stands, Settles, Heard}
use Rattle.transcripts.specs.Views.{ask_of, asks, exchanged, transcript}
use Rattle.transcripts.specs.declared.exchange.Answer.{Answer}
use Rattle.transcripts.specs.declared.exchange.Exchange.{Exchange}
use Rattle.transcripts.proofs.Standing.{stands_more, heard_more}

transcript_more : (bs es : List Exchange) (b a : Exchange) → length bs ≡ length es → transcript (bs ++ b ∷ []) (es ++ a ∷ []) ≡ transcript bs es ++ exchanged b a ∷ []
transcript_more [] [] b a e = refl
transcript_more [] (y ∷ es) b a e = absurd (omega arith)
transcript_more (x ∷ bs) [] b a e = absurd (omega arith)
transcript_more (x ∷ bs) (y ∷ es) b a e = ap (λ r. exchanged x y ∷ r) (transcript_more bs es b a (omega arith))

-- the exchange x with the answer r in its place
abbrev pub answering : Exchange → Answer → Exchange
answering x r = record { call = x.call; words = x.words; answer = Some r }

module _ (rules : List (Rule ℕ)) (before : List Step) (entry : List Exchange) where
  pub record Front (now : List Exchange) (i : ℕ) (steps : List Step) : Type 0 where
    pub rest : (k : ℕ) → i ≤ k → (d : Exchange) → get_or now k d ≡ get_or entry k d
    pub heard : (ls : List Lists) → before ≡ steps_by ls → Heard rules ls (transcript (take i entry) (take i now))
    pub stand : (ls : List Lists) → before ≡ steps_by ls → steps ≡ steps_by (stands ls (transcript (take i entry) (take i now)))
    pub calls : asks now ≡ asks entry

  pub front_none : Front entry 0 before
  unfolding Heard stands
  front_none = record { rest = λ k h d. refl; heard = λ ls e. tt; stand = λ ls e. e; calls = refl }

  as_many : (now : List Exchange) → asks now ≡ asks entry → length now ≡ length entry
  as_many now e = sym (length-map now (λ (x : Exchange). ask_of x.call)) ∙ ap length e ∙ length-map entry (λ (x : Exchange). ask_of x.call)

  module _ (now : List Exchange) (i : ℕ) (steps next : List Step) (d a : Exchange) (front : Front now i steps) (inside : i < length now) where
    -- the exchange at i, before it was heard and as a model
    abbrev here : Exchange
    here = get_or now i d

    abbrev x : model.Exchange
    x = exchanged here a

    module _ (settles : IsSomeAnd x.reply (λ reply. Settles rules steps x.words x.ask reply x.after))
        (then_stand : (ls : List Lists) → steps ≡ steps_by ls → next ≡ steps_by (then ls x.ask x.reply)) (call : ask_of a.call ≡ ask_of here.call) where
      in_entry : i < length entry
      in_entry = omega (arith, as_many now front.calls)

      longer : transcript (take (i + 1) entry) (take (i + 1) (set now i a)) ≡ transcript (take i entry) (take i now) ++ x ∷ []
      longer =
          ap₂ transcript
          (take_more entry i d in_entry ∙ ap (λ y. take i entry ++ y ∷ []) (sym (front.rest i (omega arith) d)))
          (take_more_set now i a inside)
          ∙ transcript_more (take i entry) (take i now) here a
          (length-take-le i entry (omega (arith, in_entry)) ∙ sym (length-take-le i now (omega arith)))

      pub front_more : Front (set now i a) (i + 1) next
      front_more =
          record {
            rest = λ k h e. get_or-set_other now i k a e (omega arith) ∙ front.rest k (omega arith) e;
            heard = λ ls e.
                subst (Heard rules ls) (sym longer)
                (heard_more rules ls (transcript (take i entry) (take i now)) x (front.heard ls e)
                (subst (λ s. IsSomeAnd x.reply (λ reply. Settles rules s x.words x.ask reply x.after)) (front.stand ls e) settles));
            stand = λ ls e.
                then_stand (stands ls (transcript (take i entry) (take i now))) (front.stand ls e)
                ∙ sym (ap steps_by (ap (stands ls) longer ∙ stands_more ls (transcript (take i entry) (take i now)) x));
            calls = map-set_same (λ (y : Exchange). ask_of y.call) now i a d call ∙ front.calls;
          }

  -- all were heard
  pub front_all : (now : List Exchange) (i : ℕ) (steps : List Step) → Front now i steps → length now ≤ i
      → ((ls : List Lists) → before ≡ steps_by ls → Heard rules ls (transcript entry now))
      × ((ls : List Lists) → before ≡ steps_by ls → steps ≡ steps_by (stands ls (transcript entry now)))
      × (asks now ≡ asks entry)
  front_all now i steps front past =
      let whole : transcript (take i entry) (take i now) ≡ transcript entry now =
      ap₂ transcript (take_all i entry (omega (arith, as_many now front.calls))) (take_all i now past) in (
        (λ ls e. subst (Heard rules ls) whole (front.heard ls e)),
        (λ ls e. front.stand ls e ∙ ap (λ x. steps_by (stands ls x)) whole),
        front.calls,
      )
