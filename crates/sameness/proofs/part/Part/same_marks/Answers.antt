use Rattle.std.proofs.Common.{◌≡◌, ℕ, sym, subst}
use Rattle.std.proofs.lemmas.Bool.{both_ways}
use Rattle.marks.specs.Sets.{Set, ◌∈◌, ◌⊆◌}
use Rattle.norms.proofs.Models.{same_set}
use Rattle.sameness.proofs.part.Part.same_marks.Goals as goal

inside : (S R : Set ℕ) → S ≡ R → S ⊆ R
inside S R same m held = subst (λ T. m ∈ T) same held

pub returns-then-within : goal.returns-then-within
returns-then-within g c = (
  (λ yes. same_set _ _ (c.within.ensures.0 c.if-within.true) (c.within-then-within.ensures.0 yes)),
  λ same. c.within-then-within.ensures.1 (inside _ _ (sym same)),
)

pub returns-else-within : goal.returns-else-within
returns-else-within g c = (
  (λ yes. absurd (both_ways _ c.if-within.false yes)),
  λ same. c.within.ensures.1 (inside _ _ same),
)
