use Rattle.std.proofs.Common.{rules, ℕ, ◌≡◌, ◌<◌, false, Some, None, Option, tests, MatchOption}
use Rattle.marks.specs.declared.mark.Mark.{Mark}
use Rattle.marks.specs.declared.mark_set.MarkSet.{MarkSet}
use Rattle.marks.specs.Sets.{Set, ◌∈◌, ◌⊆◌}
use Rattle.marks.specs.Words.{members}
use Rattle.marks.proofs.Held.{held_within}
use Rattle.marks.proofs.InARow.{found}
use Rattle.marks.proofs.mark_set.MarkSet.beyond.Goals as goal

-- no mark below 1,024, and so none at all
all_within : (s : MarkSet) (R : Set ℕ) (Yes : Mark → Type 0) (r : Option Mark)
    → MatchOption r ((n : ℕ) → n < 1024 → n ∈ members s → n ∈ R) Yes → MatchOption r (members s ⊆ R) Yes
all_within s R Yes None low = held_within s.words s.sixteen R low
all_within s R Yes (Some m) here = here

pub returns : goal.returns
returns c =
    let S = members c.args.self.now in
    let R = members c.args.other.now in
    all_within c.args.self.now R (λ m. m.number ∈ S × (R m.number ≡ false)) c.find.result
    (found (λ (m : Mark). m.number) 1024 c.all.ensures _ _ c.find.result (λ n. n ∈ S × (R n ≡ false)) (λ n. n ∈ S → n ∈ R)
    c.find.ensures.ran (λ x q k. search (rules, tests)) (λ x q k. search (rules, tests)))
