use Rattle.std.proofs.Common.{◌≡◌, ◌-◌, List, Option}
use Rattle.refusals.specs.declared.Told.{Told}
use Rattle.casefile.specs.Cases.{case_steps, case_end}
use Rattle.norms.specs.Steps.{Step}
use Rattle.steps.specs.Standing.{standing}
use Rattle.run.specs.Runs.{Hears}
use Rattle.run.proofs.Rest.{Rest}
use Rattle.run.proofs.hearing.hear.Given as goal

-- whatever the steps that are left come to, the whole case comes to
abbrev pub invariant-loop-step : goal.invariant-loop-step
invariant-loop-step g l =
    let rules = g.B.Book.rules l.initial.review.book in
    (l.review.book ≡ l.initial.review.book)
    × (l.reader.bytes.now ≡ l.case)
    × ((out : Option Told) (final : List Step)
    → Rest rules l.case (standing l.review.steps) (l.steps - l.step) l.step l.reader.at out final
    → Hears rules (standing l.initial.review.steps) (case_steps l.case) (case_end l.case) out final)
