-- What the exchanges in the code stand for. Assumes nothing.
--     ask_of call           the call with its arguments
--     reply_of answer       what the answer tells: each case its values, each refusal its number and spot
--     exchanged b e         the exchange that stood at its place as b before it was heard, and as e afterwards; where e has no
--                           answer, there is no reply so far
--     asks es               the calls of the exchanges
--     transcript bs es      the exchanges that stood as bs before they were heard, and as es afterwards
use Rattle.std.specs.Prelude.{List, [], ◌∷◌, map, vec_items}
use Rattle.std.specs.Option.{option_map}
use Rattle.refusals.specs.Telling.{answered}
use Rattle.review.specs.Faults.{propose_told, list_told, back_told, look_told, show_told}
use Rattle.transcripts.specs.Asks as model
use Rattle.transcripts.specs.Asks.{Ask, Reply}
use Rattle.transcripts.specs.declared.exchange.Call.{Call}
use Rattle.transcripts.specs.declared.exchange.Call.TheVariants.{Propose, GoBack, Look, List as Listing, Show}
use Rattle.transcripts.specs.declared.exchange.Answer.{Answer}
use Rattle.transcripts.specs.declared.exchange.Answer.TheVariants.{Proposed, WentBack, Looked, Listed, Shown}
use Rattle.transcripts.specs.declared.exchange.Exchange.{Exchange}

abbrev pub ask_of : Call → Ask
ask_of (Propose said proposed) = model.propose (vec_items said) (vec_items proposed)
ask_of (GoBack n) = model.go_back n
ask_of (Look step mark) = model.look step mark
ask_of (Listing k) = model.list k
ask_of (Show step) = model.show step

abbrev pub reply_of : Answer → Reply
reply_of (Proposed r) = model.judged (answered propose_told r)
reply_of (WentBack r) = model.went_back (answered back_told r)
reply_of (Looked r) = model.looked (answered look_told r)
reply_of (Listed r) = model.listed (answered list_told r)
reply_of (Shown r) = model.shown (answered show_told r)

abbrev pub exchanged : Exchange → Exchange → model.Exchange
exchanged b e = record { ask = ask_of b.call; words = vec_items b.words; reply = option_map reply_of e.answer; after = vec_items e.words }

abbrev pub asks : List Exchange → List Ask
asks es = map (λ (e : Exchange). ask_of e.call) es

abbrev pub transcript : List Exchange → List Exchange → List model.Exchange
transcript (b ∷ bs) (e ∷ es) = exchanged b e ∷ transcript bs es
transcript (b ∷ bs) [] = []
transcript [] es = []
