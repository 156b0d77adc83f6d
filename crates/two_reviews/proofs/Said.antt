-- The same was said at each step exactly where the said lists are the same. Assumes nothing.
use Rattle.std.proofs.Common.{◌≡◌, ℕ, ◌↔◌, List, [], ◌∷◌, map, length, get_or, sym, refl, ap, ◌∙◌, ap₂, arith}
use mathlib.Core.List.{tail}
use Rattle.std.specs.List.{AllByRecursion}
use Rattle.marks.specs.Sets.{Set, nothing, among}
use Rattle.norms.specs.Scenarios.{said_of}
use Rattle.steps.specs.Compared.{Compares}
use Rattle.steps.specs.declared.comparison.Comparison.{Comparison}
use Rattle.steps.specs.declared.comparison.Comparison.TheVariants.{OtherScenario, SameTrace, Different}
use Rattle.transcripts.specs.Hearing.{Lists, steps_by}
use Rattle.two_reviews.specs.Law.{SameScenario}
use Rattle.two_reviews.proofs.Rising.{same_list}
use Rattle.two_reviews.proofs.Standing.{Entered}

-- what is said, by the said lists
said_by : (ls : List Lists) → said_of (steps_by ls) ≡ map among (map (λ (p : Lists). p.0) ls)
said_by [] = refl
said_by (p ∷ ls) = ap {B = List (Set ℕ)} (λ sets. among p.0 ∷ sets) (said_by ls)

pub same_said : (ls ms : List Lists) → SameScenario ls ms → said_of (steps_by ls) ≡ said_of (steps_by ms)
same_said ls ms same = said_by ls ∙ ap (map among) same ∙ sym (said_by ms)

pub same_scenario : (ls ms : List Lists) → AllByRecursion Entered ls → AllByRecursion Entered ms → said_of (steps_by ls) ≡ said_of (steps_by ms) → SameScenario ls ms
same_scenario [] [] entered those same = refl
same_scenario [] (q ∷ ms) entered those same = absurd (let number = ap length same in omega arith)
same_scenario (p ∷ ls) [] entered those same = absurd (let number = ap length same in omega arith)
same_scenario (p ∷ ls) (q ∷ ms) entered those same =
    ap₂ {C = List (List ℕ)} (λ x xs. x ∷ xs)
    (same_list p.0 q.0 entered.0.rising those.0.rising (ap (λ sets. get_or sets 0 nothing) same))
    (same_scenario ls ms entered.1 those.1 (ap tail same))

-- two ways to say that traces are of the same scenario
pub compares_as : (Same Alike : Type 0) → Same ↔ Alike → (S R : Set (ℕ × ℕ)) (told : Comparison) → Compares Same S R told → Compares Alike S R told
compares_as Same Alike law S R OtherScenario other = λ alike. other (law.1 alike)
compares_as Same Alike law S R SameTrace compared = (law.0 compared.0, compared.1)
compares_as Same Alike law S R (Different first second) compared = (law.0 compared.0, compared.1, compared.2, compared.3)
