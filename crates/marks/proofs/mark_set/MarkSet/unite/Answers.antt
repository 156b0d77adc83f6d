use Rattle.std.proofs.Common.{◌≡◌, ◌<◌, ℕ, rules, get_or}
use borrow.Author.Tests.{tests}
use lib.Bits.{bit_or}
use Rattle.std.proofs.lemmas.Nat.{or_lt}
use Rattle.marks.proofs.Held.{held_either, fit_made}
use Rattle.marks.proofs.Made.{made_at}
use Rattle.marks.proofs.mark_set.MarkSet.unite.Goals as goal

joined : (c : goal.After-from_fn-self) (i : ℕ) → i < 16 → get_or c.from_fn-self.result i 0 ≡ bit_or (get_or c.args.self.now.words i 0) (get_or c.args.other.now.words i 0)
joined c i lt =
    made_at _ (λ k. bit_or (get_or c.args.self.now.words k 0) (get_or c.args.other.now.words k 0)) (λ k y q called. search (rules, tests)) c.from_fn-self.result 16 c.from_fn-self.ensures.items i 0 lt

pub invariant_of-self-clause-fits : goal.invariant_of-self-clause-fits
invariant_of-self-clause-fits c =
    fit_made c.from_fn-self.result _ c.from_fn-self.ensures.items.long (joined c)
    (λ i. or_lt 64 _ _ (c.args.self.now.fits i) (c.args.other.now.fits i))

pub returns : goal.returns
returns c =
    held_either c.args.self.now.words c.args.other.now.words c.from_fn-self.result
    c.args.self.now.sixteen c.args.other.now.sixteen c.from_fn-self.ensures.items.long (joined c.before)
