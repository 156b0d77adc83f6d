-- What the refusals of the review's calls tell. Assumes nothing.
use Rattle.refusals.specs.declared.Told.{Told}
use Rattle.refusals.specs.Telling.{refusal}
use Rattle.lists.specs.Faults.{said_told, proposed_told}
use Rattle.review.specs.declared.fault.ProposeFault.{ProposeFault}
use Rattle.review.specs.declared.fault.ProposeFault.TheVariants.{Full, Said, Proposed, LeftOut, Unfounded}
use Rattle.review.specs.declared.fault.ListFault.{ListFault}
use Rattle.review.specs.declared.fault.ListFault.TheVariants.{NoSuch}
use Rattle.review.specs.declared.fault.BackFault.{BackFault}
use Rattle.review.specs.declared.fault.BackFault.TheVariants.{TooMany}
use Rattle.review.specs.declared.fault.StepFault.{StepFault}
use Rattle.review.specs.declared.fault.StepFault.TheVariants.{NotStanding}
use Rattle.review.specs.declared.fault.LookFault.{LookFault}
use Rattle.review.specs.declared.fault.LookFault.TheVariants as look
use Rattle.review.specs.declared.fault.ShowFault.{ShowFault}
use Rattle.review.specs.declared.fault.ShowFault.TheVariants as show

abbrev pub propose_told : ProposeFault → Told
propose_told Full = refusal 21 64
propose_told (Said f) = said_told f
propose_told (Proposed f) = proposed_told f
propose_told (LeftOut m) = refusal 27 m
propose_told (Unfounded m) = refusal 28 m

abbrev pub list_told : ListFault → Told
list_told (NoSuch findings) = refusal 34 findings

abbrev pub back_told : BackFault → Told
back_told (TooMany steps) = refusal 31 steps

abbrev pub step_told : StepFault → Told
step_told (NotStanding steps) = refusal 32 steps

abbrev pub look_told : LookFault → Told
look_told (look.Step f) = step_told f
look_told (look.High mark) = refusal 33 mark

abbrev pub show_told : ShowFault → Told
show_told (show.Step f) = step_told f
show_told show.Short = refusal 35 16
