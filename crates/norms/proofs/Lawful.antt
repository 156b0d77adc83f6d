-- The rules of every book with the frame rules keep the laws. Assumes nothing.
use Rattle.std.proofs.Common.{ℕ, zero, suc, List, [], ◌∷◌, refl}
use Rattle.std.specs.List.{AllByRecursion}
use Rattle.marks.specs.Sets.{Set}
use Rattle.norms.specs.Programs.{Rule, Program}
use Rattle.norms.specs.Rules.{Norms}
use Rattle.norms.specs.Steps.{handed_on, Handing}
use Rattle.norms.specs.Traces.{of_step, Hands}
use Rattle.norms.specs.Laws.{Low, OneReading, AllSteps, OneTrace, Lawful}
use Rattle.norms.proofs.Models.{one_smallest, rounds_reach, one_depth, stable_is_smallest, none_inside}
use Rattle.norms.proofs.Handing.{hands_on}
use Rattle.norms.proofs.Traces.{together_from_each, each_from_together}
use Rattle.norms.proofs.Levels.{one_model, one_trace}

pub low_step : (sets : List (Set ℕ)) → AllByRecursion Low sets → (k : ℕ) → Low (of_step sets k)
low_step sets low zero m h = refl
low_step [] low (suc k) m h = refl
low_step (M ∷ sets) low (suc zero) m h = low.0 m h
low_step (M ∷ sets) low (suc (suc k)) m h = low_step sets low.1 (suc k) m h

module _ (P : Program ℕ) where
  one_reading : OneReading P
  one_reading admits G M N first second = one_model P admits.0 admits.1 G M N first second

  all_steps : AllSteps P
  all_steps said sets as_many low =
      let hand : (k : ℕ) → Hands Handing handed_on (of_step sets k) = λ k. hands_on (of_step sets k) (low_step sets low k) in
      (together_from_each P Handing handed_on said sets as_many hand, each_from_together P Handing handed_on said sets as_many hand)

  same_trace : OneTrace P
  same_trace admits said sets other as_many first second = one_trace P admits.0 admits.1 handed_on said sets other as_many first second

pub lawful : (rules : List (Rule ℕ)) → Lawful rules
lawful rules =
    let P = Norms rules in
    record {
      one_smallest = one_smallest P;
      rounds_reach = rounds_reach P;
      one_depth = one_depth P;
      stable_is_smallest = stable_is_smallest P;
      none_inside = none_inside P;
      one_reading = one_reading P;
      all_steps = all_steps P;
      one_trace = same_trace P;
    }
