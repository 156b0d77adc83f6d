-- The standing steps as rows of sets: what they hand on, one step more, a front of them, and their trace. Assumes nothing.
--     EachStep rules steps    each of the standing steps is stable over what it is given
use Rattle.std.proofs.Common.{◌≡◌, ℕ, zero, suc, ◌<◌, ◌||◌, ◌↔◌, List, [], ◌∷◌, ◌++◌, length, take, drop, sym, refl, ap, ◌∙◌, subst, subst₂, arith}
use Rattle.std.specs.List.{AllByRecursion}
use Rattle.std.proofs.lemmas.List.{length-map, take-append-drop, map-append, map_push}
use Rattle.std.proofs.lemmas.Bool.{false≢true}
use Rattle.marks.specs.Sets.{Set, ◌∈◌, nothing}
use Rattle.norms.specs.Programs.{Rule, Stable}
use Rattle.norms.specs.Rules.{Norms}
use Rattle.norms.specs.Steps.{Step, handed_on, Handing, inherited, given, StableStep}
use Rattle.norms.specs.Traces.{of_step, at, Together, EachStable}
use Rattle.norms.specs.Scenarios.{said_of, marks_of, trace, StableTrace}
use Rattle.norms.specs.Laws.{Low}
use Rattle.norms.proofs.Models.{same_set}
use Rattle.norms.proofs.Handing.{low_member, hands_on}
use Rattle.norms.proofs.Traces.{in_range}
use Rattle.norms.proofs.Growing.{given_next, each_front, last_stable, each_more}
use Rattle.norms.proofs.Lawful.{low_step, lawful}

-- a step with no marks hands nothing on
none_handed : nothing ≡ handed_on nothing
none_handed =
    same_set nothing (handed_on nothing)
    (λ m has. absurd (false≢true has))
    (λ m has. absurd (false≢true ((hands_on nothing (λ k high. refl) m).0 has).3))

inherited_last : (steps : List Step) → inherited steps ≡ handed_on (of_step (marks_of steps) (length (marks_of steps)))
inherited_last [] = none_handed
inherited_last (s ∷ []) = refl
inherited_last (s ∷ t ∷ steps) = inherited_last (t ∷ steps)

given_is : (steps : List Step) (said : Set ℕ) → given steps said ≡ given_next handed_on (marks_of steps) said
given_is steps said = ap {B = Set ℕ} (λ H m. said m || H m) (inherited_last steps)

pub as_many : (steps : List Step) → length (said_of steps) ≡ length (marks_of steps)
as_many steps = length-map steps (λ (s : Step). s.said) ∙ sym (length-map steps (λ (s : Step). s.marks))

module _ (rules : List (Rule ℕ)) where
  abbrev pub EachStep : List Step → Type 0
  EachStep steps = EachStable (Norms rules) handed_on (said_of steps) (marks_of steps)

  abbrev Rows : List (Set ℕ) → List (Set ℕ) → Type 0
  Rows said sets = EachStable (Norms rules) handed_on said sets

  pub no_step : EachStep []
  no_step k below = absurd (omega arith)

  steps_front : (steps more : List Step) → EachStep (steps ++ more) → EachStep steps
  steps_front steps more each =
      each_front (Norms rules) handed_on (said_of steps) (marks_of steps) (as_many steps) (said_of more) (marks_of more)
      (subst₂ Rows (map-append (λ (s : Step). s.said) steps more) (map-append (λ (s : Step). s.marks) steps more) each)

  pub steps_taken : (n : ℕ) (steps : List Step) → EachStep steps → EachStep (take n steps)
  steps_taken n steps each = steps_front (take n steps) (drop n steps) (subst EachStep (sym (take-append-drop n steps)) each)

  module _ (steps : List Step) (s : Step) where
    said_push : said_of (steps ++ s ∷ []) ≡ said_of steps ++ s.said ∷ []
    said_push = map_push (λ (s : Step). s.said) steps s

    marks_push : marks_of (steps ++ s ∷ []) ≡ marks_of steps ++ s.marks ∷ []
    marks_push = map_push (λ (s : Step). s.marks) steps s

    pub next_stable : EachStep (steps ++ s ∷ []) → StableStep rules steps s.said s.marks
    next_stable each =
        subst (λ G. Stable (Norms rules) G s.marks) (sym (given_is steps s.said))
        (last_stable (Norms rules) handed_on (said_of steps) (marks_of steps) (as_many steps) s.said s.marks
        (subst₂ Rows said_push marks_push each))

    pub steps_more : EachStep steps → StableStep rules steps s.said s.marks → EachStep (steps ++ s ∷ [])
    steps_more each stable =
        subst₂ Rows (sym said_push) (sym marks_push)
        (each_more (Norms rules) handed_on (said_of steps) (marks_of steps) (as_many steps) s.said s.marks each
        (subst (λ G. Stable (Norms rules) G s.marks) (given_is steps s.said) stable))

  pub stable_trace : (steps : List Step) → AllByRecursion Low (marks_of steps) → EachStep steps ↔ StableTrace rules steps
  stable_trace steps low =
      subst (λ n. EachStep steps ↔ Stable (Together (Norms rules) Handing n) (at (said_of steps)) (trace steps))
      (length-map steps (λ (s : Step). s.marks))
      ((lawful rules).all_steps (said_of steps) (marks_of steps) (as_many steps) low)

-- the dated marks of steps with marks below 1,024
pub dated_within : (sets : List (Set ℕ)) → AllByRecursion Low sets → (d : ℕ × ℕ) → d ∈ at sets → (d.0 < suc (length sets)) × (d.1 < 1024)
dated_within sets low d member = (within d.0 d.1 member, low_member (of_step sets d.0) (low_step sets low d.0) d.1 member)
  where
    within : (s m : ℕ) → m ∈ of_step sets s → s < suc (length sets)
    within zero m has = omega arith
    within (suc k) m has = omega (arith, in_range sets k m has)
