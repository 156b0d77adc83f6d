-- The same trace of the same scenario: the same steps, and so the same findings, replies and words. Assumes nothing.
use Rattle.std.proofs.Common.{◌≡◌, ℕ, suc, List, [], ◌∷◌, length, get_or, sym, refl, ap, ◌∙◌, subst, ap₂, arith}
use mathlib.Core.List.{tail}
use Rattle.marks.specs.Sets.{Set, nothing}
use Rattle.norms.specs.Programs.{Rule}
use Rattle.norms.specs.Steps.{Step}
use Rattle.norms.specs.Traces.{of_step}
use Rattle.norms.specs.Scenarios.{said_of, marks_of, trace}
use Rattle.transcripts.specs.Asks.{Ask, Reply}
use Rattle.transcripts.specs.Hearing.{Settles}
use Rattle.two_reviews.specs.Law.{Asking, a_look, a_list, a_show, Alike}

step_from : (s t : Step) → s.said ≡ t.said → s.marks ≡ t.marks → s ≡ t
step_from s t said marks = λ i. record { said = said i; marks = marks i }

steps_from : (steps those : List Step) → said_of steps ≡ said_of those
    → ((k : ℕ) → of_step (marks_of steps) (suc k) ≡ of_step (marks_of those) (suc k)) → steps ≡ those
steps_from [] [] said marks = refl
steps_from [] (t ∷ those) said marks = absurd (let number = ap length said in omega arith)
steps_from (s ∷ steps) [] said marks = absurd (let number = ap length said in omega arith)
steps_from (s ∷ steps) (t ∷ those) said marks =
    ap₂ {C = List Step} (λ x xs. x ∷ xs)
    (step_from s t (ap (λ sets. get_or sets 0 nothing) said) (marks 0))
    (steps_from steps those (ap tail said) (λ k. marks (suc k)))

pub same_steps : (steps those : List Step) → said_of steps ≡ said_of those → trace steps ≡ trace those → steps ≡ those
same_steps steps those said marks = steps_from steps those said (λ k. ap {B = Set ℕ} (λ S m. S (suc k, m)) marks)

module _ (rules other : List (Rule ℕ)) (steps : List Step) where
  same_replies : (ask : Ask) → Asking ask → (words v w : List ℕ) (a b : Reply)
      → Settles rules steps words ask a v → Settles other steps words ask b w → (a ≡ b) × (v ≡ w)
  same_replies ask (a_look s m) words v w a b first second = (first.0 ∙ sym second.0, first.1 ∙ sym second.1)
  same_replies ask (a_list k) words v w a b first second = (first.0 ∙ sym second.0, first.1 ∙ sym second.1)
  same_replies ask (a_show s) words v w a b first second = (first.0 ∙ sym second.0, first.1 ∙ sym second.1)

  itself : Alike rules other steps steps
  itself = record { same_trace = refl; same_findings = refl; same_replies = same_replies }

pub one_reading : (rules other : List (Rule ℕ)) (steps those : List Step)
    → said_of steps ≡ said_of those → trace steps ≡ trace those → Alike rules other steps those
one_reading rules other steps those said marks = subst (Alike rules other steps) (same_steps steps those said marks) (itself rules other steps)
