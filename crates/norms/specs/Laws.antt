-- The laws of the meaning of norms. Assumes nothing.
-- Of a program, whatever its rules and its kind of mark:
--     OneSmallest P        there is at most one smallest closed set of a proposal over the same given marks
--     RoundsReach P        the set that rounds lead to and a further round leaves as it is, is the smallest closed one
--     OneDepth P           rounds lead to rest in one way: to the same set, after the same number of rounds
--     StableIsSmallest P   a proposal is stable exactly when it is the smallest closed set of its own reduct
--     NoneInside P         no stable model over the same given marks is a part of another
--     OneReading P         where the rules admit levels, there is one stable model over the same given marks
--     AllSteps P           whatever is said, each of a row of steps is stable over what it is given exactly when all of
--                          them together are, as one program over dated marks
--     OneTrace P           where the rules admit levels, the same said marks give the same trace
--     Lawful rules         all of these, of the rules of a book with the frame rules
-- Of the findings of steps, as dated marks:
--     Finds steps d        the step of d's number stands, and the mark of d is a finding of it
--     Before d e           d is of an earlier step than e, or of the same step and has the lower mark
--     Listed steps         all findings of the steps are listed, nothing else is, and none twice; they rise by step
--                          and then by mark
use Rattle.std.specs.Prelude.{◌≡◌, ℕ, ◌-◌, ◌<◌, ◌≤◌, false, ◌⊎◌, ◌↔◌, List, length, Some}
use Rattle.std.specs.List.{slice_get, AllByRecursion}
use Rattle.marks.specs.Sets.{Set, ◌∈◌, ◌⊆◌}
use Rattle.norms.specs.Programs.{Rule, Program, Smallest, Stable, Depth}
use Rattle.norms.specs.Rules.{Norms}
use Rattle.norms.specs.Steps.{Step, handed_on, Handing}
use Rattle.norms.specs.Traces.{at, Together, EachStable}
use Rattle.norms.specs.Levels.{Admits}
use Rattle.norms.specs.Findings.{finding, findings}

module _ {A : Type 0} where
  abbrev pub OneSmallest : Program A → Type 0
  OneSmallest P = (M G L K : Set A) → Smallest P M G L → Smallest P M G K → L ≡ K

  abbrev pub RoundsReach : Program A → Type 0
  RoundsReach P = (M G L : Set A) (d : ℕ) → Depth P M G d L → Smallest P M G L

  abbrev pub OneDepth : Program A → Type 0
  OneDepth P = (M G L K : Set A) (d e : ℕ) → Depth P M G d L → Depth P M G e K → (d ≡ e) × (L ≡ K)

  abbrev pub StableIsSmallest : Program A → Type 0
  StableIsSmallest P = (M G L : Set A) → Smallest P M G L → (Stable P G M ↔ (L ≡ M))

  abbrev pub NoneInside : Program A → Type 0
  NoneInside P = (G M N : Set A) → Stable P G M → Stable P G N → M ⊆ N → M ≡ N

  abbrev pub OneReading : Program A → Type 0
  OneReading P = Admits P → (G M N : Set A) → Stable P G M → Stable P G N → M ≡ N

-- a set of marks has no number above 1,023
abbrev pub Low : Set ℕ → Type 0
Low M = (m : ℕ) → 1024 ≤ m → M m ≡ false

abbrev pub AllSteps : Program ℕ → Type 0
AllSteps P =
    (said sets : List (Set ℕ)) → length said ≡ length sets → AllByRecursion Low sets
    → (EachStable P handed_on said sets ↔ Stable (Together P Handing (length sets)) (at said) (at sets))

abbrev pub OneTrace : Program ℕ → Type 0
OneTrace P =
    Admits P → (said sets other : List (Set ℕ)) → length sets ≡ length other
    → EachStable P handed_on said sets → EachStable P handed_on said other → at sets ≡ at other

pub record Lawful (rules : List (Rule ℕ)) : Type 0 where
  pub one_smallest : OneSmallest (Norms rules)
  pub rounds_reach : RoundsReach (Norms rules)
  pub one_depth : OneDepth (Norms rules)
  pub stable_is_smallest : StableIsSmallest (Norms rules)
  pub none_inside : NoneInside (Norms rules)
  pub one_reading : OneReading (Norms rules)
  pub all_steps : AllSteps (Norms rules)
  pub one_trace : OneTrace (Norms rules)

abbrev pub Finds : List Step → ℕ × ℕ → Type 0
Finds steps d =
    (step : Step) × (1 ≤ d.0) × (slice_get steps (d.0 - 1) ≡ Some step) × (d.1 < 1024) × (d.1 ∈ finding step.marks)

abbrev pub Before : ℕ × ℕ → ℕ × ℕ → Type 0
Before d e = (d.0 < e.0) ⊎ ((d.0 ≡ e.0) × (d.1 < e.1))

pub record Listed (steps : List Step) : Type 0 where
  pub each : (d : ℕ × ℕ) → Finds steps d → (k : ℕ) × (slice_get (findings steps) k ≡ Some d)
  pub only : (k : ℕ) (d : ℕ × ℕ) → slice_get (findings steps) k ≡ Some d → Finds steps d
  pub once : (j k : ℕ) (d : ℕ × ℕ) → slice_get (findings steps) j ≡ Some d → slice_get (findings steps) k ≡ Some d → j ≡ k
  pub rising : (j k : ℕ) (d e : ℕ × ℕ) → j < k → slice_get (findings steps) j ≡ Some d → slice_get (findings steps) k ≡ Some e → Before d e
