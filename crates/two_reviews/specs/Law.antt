-- The law over two reviews. Two fresh reviews stand over books with the rules `rules` and `other`; xs and ys are the exchanges
-- that each of them had, in their order. Assumes nothing.
--     SameScenario        equally many steps stand, and the same was said at each
--     Free                the proposal meets none of the refusals that come before the judgement of the step
--     Reviewed            (trace) each call was answered as the definitions settle it with the steps that then stood; the trace
--                         is stable as one program over dated marks; and a proposal that is free of the other refusals passes
--                         exactly where the trace is stable again with its step standing
--     Apart               (apart) each trace has a dated mark that the other lacks
--     Alike               (one reading) the same trace, the same findings in their order, and the same replies and words
--                         to look, list and show, asked alike
--     Law                 the whole
use Rattle.std.specs.Prelude.{◌≡◌, ℕ, suc, ◌<◌, true, false, ◌≢◌, ◌↔◌, List, [], ◌∷◌, ◌++◌, map, length, is_ok, Result, slice_index}
use Rattle.std.specs.List.{AllByRecursion}
use Rattle.refusals.specs.declared.Told.{Told}
use Rattle.marks.specs.Sets.{Set, ◌∈◌}
use Rattle.norms.specs.Programs.{Rule}
use Rattle.norms.specs.Rules.{Norms}
use Rattle.norms.specs.Steps.{Step}
use Rattle.norms.specs.Findings.{findings}
use Rattle.norms.specs.Scenarios.{trace, StableTrace}
use Rattle.norms.specs.Levels.{Admits}
use Rattle.norms.specs.Equal.{Equal}
use Rattle.steps.specs.Compared.{Compares}
use Rattle.steps.specs.declared.comparison.Comparison.{Comparison}
use Rattle.review.specs.declared.review.Accepted.{Accepted}
use Rattle.lists.specs.Lists.{says}
use Rattle.review.specs.Proposals.{Judged, step_by}
use Rattle.transcripts.specs.Asks.{Ask, look, list, show, Reply, Exchange}
use Rattle.transcripts.specs.Hearing.{Lists, steps_by, stands, Settles, Heard}

abbrev pub SameScenario : List Lists → List Lists → Type 0
SameScenario ls ms = map (λ (p : Lists). p.0) ls ≡ map (λ (p : Lists). p.0) ms

-- each number is above the one before
abbrev pub Rising : List ℕ → Type 0
Rising xs = (i : ℕ) → suc i < length xs → slice_index xs i < slice_index xs (suc i)

pub record Free (steps : List Step) (said proposed : List ℕ) : Type 0 where
  pub room : length steps < 64
  pub said_low : AllByRecursion (λ m. m < 1024) said
  pub said_rising : Rising said
  pub sayable : AllByRecursion (λ m. says m ≡ true) said
  pub proposed_low : AllByRecursion (λ m. m < 1024) proposed
  pub proposed_rising : Rising proposed

pub record Reviewed (rules : List (Rule ℕ)) (xs : List Exchange) : Type 0 where
  pub settled : Heard rules [] xs
  pub stable : StableTrace rules (steps_by (stands [] xs))
  pub next : (said proposed : List ℕ) (answer : Result Accepted Told) → Free (steps_by (stands [] xs)) said proposed
      → Judged rules (steps_by (stands [] xs)) said proposed answer
      → (is_ok answer ≡ true) ↔ StableTrace rules (steps_by (stands [] xs) ++ step_by said proposed ∷ [])

abbrev pub Apart : Set (ℕ × ℕ) → Set (ℕ × ℕ) → Type 0
Apart S R = ((d : ℕ × ℕ) × (d ∈ S) × (R d ≡ false)) × ((d : ℕ × ℕ) × (d ∈ R) × (S d ≡ false))

-- the calls that ask and change nothing
pub data Asking : Ask → Type 0 where
  a_look : (s m : ℕ) → Asking (look s m)
  a_list : (k : ℕ) → Asking (list k)
  a_show : (s : ℕ) → Asking (show s)

pub record Alike (rules other : List (Rule ℕ)) (steps those : List Step) : Type 0 where
  pub same_trace : trace steps ≡ trace those
  pub same_findings : findings steps ≡ findings those
  pub same_replies : (ask : Ask) → Asking ask → (words v w : List ℕ) (a b : Reply)
      → Settles rules steps words ask a v → Settles other those words ask b w → (a ≡ b) × (v ≡ w)

module _ (rules other : List (Rule ℕ)) (xs ys : List Exchange) where
  abbrev first : List Lists
  first = stands [] xs

  abbrev second : List Lists
  second = stands [] ys

  pub record Law (told : Comparison) : Type 0 where
    pub in_first : Reviewed rules xs
    pub in_second : Reviewed other ys
    pub tells : Compares (SameScenario first second) (trace (steps_by first)) (trace (steps_by second)) told
    pub apart : Equal rules other → SameScenario first second → trace (steps_by first) ≢ trace (steps_by second)
        → Apart (trace (steps_by first)) (trace (steps_by second))
    pub one_reading : Equal rules other → Admits (Norms rules) → SameScenario first second
        → Alike rules other (steps_by first) (steps_by second)
