-- The law over two reviews, from what their calls and the comparison answer. Assumes nothing.
use Rattle.std.proofs.Common.{◌≡◌, ℕ, List, [], subst₂}
use Rattle.norms.specs.Programs.{Rule}
use Rattle.norms.specs.Steps.{Step}
use Rattle.norms.specs.Scenarios.{said_of, trace}
use Rattle.steps.specs.Compared.{Compares}
use Rattle.steps.specs.declared.comparison.Comparison.{Comparison}
use Rattle.transcripts.specs.Asks.{Exchange}
use Rattle.transcripts.specs.Hearing.{steps_by, stands, Heard}
use Rattle.two_reviews.specs.Law.{SameScenario, Law}
use Rattle.two_reviews.proofs.Standing.{low_steps, sound_stands}
use Rattle.two_reviews.proofs.OneReview.{reviewed}
use Rattle.two_reviews.proofs.Said.{same_said, same_scenario, compares_as}
use Rattle.two_reviews.proofs.Together.{one_trace, apart}
use Rattle.two_reviews.proofs.Reading.{one_reading}

pub law : (rules other : List (Rule ℕ)) (xs ys : List Exchange) (told : Comparison) → Heard rules [] xs → Heard other [] ys
    → Compares (said_of (steps_by (stands [] xs)) ≡ said_of (steps_by (stands [] ys)))
    (trace (steps_by (stands [] xs))) (trace (steps_by (stands [] ys))) told
    → Law rules other xs ys told
law rules other xs ys told heard heard-other compared =
    let ls = stands [] xs in
    let ms = stands [] ys in
    let sound = sound_stands rules xs heard in
    let sound-other = sound_stands other ys heard-other in
    record {
      in_first = reviewed rules xs heard sound;
      in_second = reviewed other ys heard-other sound-other;
      tells =
          compares_as (said_of (steps_by ls) ≡ said_of (steps_by ms)) (SameScenario ls ms)
          (same_scenario ls ms sound.entered sound-other.entered, same_said ls ms)
          (trace (steps_by ls)) (trace (steps_by ms)) told compared;
      apart = λ equal same.
          apart rules other equal (steps_by ls) (steps_by ms) (same_said ls ms same) sound.each sound-other.each
          (low_steps ls sound.entered) (low_steps ms sound-other.entered);
      one_reading = λ equal admits same.
          one_reading rules other (steps_by ls) (steps_by ms) (same_said ls ms same)
          (one_trace rules other equal (steps_by ls) (steps_by ms) (same_said ls ms same) sound.each sound-other.each admits);
    }

-- the same of the steps that the two reviews hold
pub law_of_steps : (rules other : List (Rule ℕ)) (xs ys : List Exchange) (told : Comparison) (steps those : List Step) → Heard rules [] xs → Heard other [] ys
    → steps ≡ steps_by (stands [] xs) → those ≡ steps_by (stands [] ys) → Compares (said_of steps ≡ said_of those) (trace steps) (trace those) told
    → Law rules other xs ys told
law_of_steps rules other xs ys told steps those heard heard-other first second compared =
    law rules other xs ys told heard heard-other
    (subst₂ (λ s t. Compares (said_of s ≡ said_of t) (trace s) (trace t) told) first second compared)
