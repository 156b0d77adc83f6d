-- What a proposal is answered, and which steps stand after it. Assumes nothing.
--     lists_check      the refusals before the step itself is judged: 21 already 64 steps, then the said
--                      list whole, then the proposed list
--     Passes           the proposed marks are a stable step: the answer has its number, its depth and how many findings it has
--     LeftOut          27: a mark of L was left out, where L is the smallest set with the proposed marks as M
--     Unfounded        28: all of L is proposed, and a proposed mark is not in L
--     Judged           the answer to a proposal, refusals in their order
--     Compared         the last two alone, once L is known
--     stand_after      the steps that stand after the answer
-- One case is open: with 27 and 28 any mark that fits may be shown. Nothing else is.
use Rattle.std.specs.Prelude.{◌≡◌, ℕ, ◌+◌, false, ◌⊎◌, List, [], ◌∷◌, ◌++◌, length, Some, None, Ok, Err, Option, Result, nat_le}
use Rattle.refusals.specs.declared.Told.{Told}
use Rattle.refusals.specs.Telling.{refusal}
use Rattle.refusals.specs.Checks.{refuse_if, ◌⨟◌}
use Rattle.marks.specs.Sets.{Set, ◌∈◌, ◌⊆◌, among}
use Rattle.norms.specs.Programs.{Rule, Smallest, Depth}
use Rattle.norms.specs.Rules.{Norms}
use Rattle.norms.specs.Steps.{Step, given, StableStep}
use Rattle.norms.specs.Findings.{findings_in}
use Rattle.review.specs.declared.review.Accepted.{Accepted}
use Rattle.lists.specs.Lists.{said_check, proposed_check}

abbrev pub lists_check : List Step → List ℕ → List ℕ → Option Told
lists_check steps said proposed = refuse_if (nat_le 64 (length steps)) (refusal 21 64) ⨟ said_check said ⨟ proposed_check proposed

-- the standing steps, what is said and what is proposed
module _ (rules : List (Rule ℕ)) (steps : List Step) (said proposed : List ℕ) where
  -- L is the smallest set of the proposal
  abbrev pub Brought : Set ℕ → Type 0
  Brought L = Smallest (Norms rules) (among proposed) (given steps (among said)) L

  pub record Passes (a : Accepted) : Type 0 where
    pub stable : StableStep rules steps (among said) (among proposed)
    pub step : a.step ≡ length steps + 1
    pub depth : Depth (Norms rules) (among proposed) (given steps (among said)) a.depth (among proposed)
    pub findings : a.findings ≡ length (findings_in (among proposed))

  pub record LeftOut (t : Told) : Type 0 where
    pub L : Set ℕ
    pub brought : Brought L
    pub m : ℕ
    pub in_L : m ∈ L
    pub not_proposed : among proposed m ≡ false
    pub tells : t ≡ refusal 27 m

  pub record Unfounded (t : Told) : Type 0 where
    pub L : Set ℕ
    pub brought : Brought L
    pub all : L ⊆ among proposed
    pub m : ℕ
    pub proposed_m : m ∈ among proposed
    pub not_in_L : L m ≡ false
    pub tells : t ≡ refusal 28 m

  abbrev pub StepJudged : Result Accepted Told → Type 0
  StepJudged (Ok a) = Passes a
  StepJudged (Err t) = LeftOut t ⊎ Unfounded t

  abbrev pub JudgedAfter : Option Told → Result Accepted Told → Type 0
  JudgedAfter None answer = StepJudged answer
  JudgedAfter (Some t) answer = answer ≡ Err t

  abbrev pub Judged : Result Accepted Told → Type 0
  Judged answer = JudgedAfter (lists_check steps said proposed) answer

-- the proposed marks M beside those that are brought about, L
abbrev pub Compared : Set ℕ → Set ℕ → Result (Unit {0}) Told → Type 0
Compared M L (Ok x) = (L ⊆ M) × (M ⊆ L)
Compared M L (Err t) =
    ((m : ℕ) × (m ∈ L) × (M m ≡ false) × (t ≡ refusal 27 m))
    ⊎ ((m : ℕ) × (L ⊆ M) × (m ∈ M) × (L m ≡ false) × (t ≡ refusal 28 m))

-- a step, by its lists as handed in
abbrev pub step_by : List ℕ → List ℕ → Step
step_by said proposed = record { said = among said; marks = among proposed }

abbrev pub stand_after : List Step → List ℕ → List ℕ → Result Accepted Told → List Step
stand_after steps said proposed (Ok a) = steps ++ step_by said proposed ∷ []
stand_after steps said proposed (Err t) = steps
