-- What the refusals of the two lists tell. Assumes nothing.
use Rattle.refusals.specs.declared.Told.{Told}
use Rattle.refusals.specs.Telling.{refusal}
use Rattle.lists.specs.declared.fault.SaidFault.{SaidFault}
use Rattle.lists.specs.declared.fault.SaidFault.TheVariants as said
use Rattle.lists.specs.declared.fault.ProposedFault.{ProposedFault}
use Rattle.lists.specs.declared.fault.ProposedFault.TheVariants as proposed

abbrev pub said_told : SaidFault → Told
said_told (said.High at) = refusal 22 at
said_told (said.NotRising at) = refusal 23 at
said_told (said.NotSayable at) = refusal 24 at

abbrev pub proposed_told : ProposedFault → Told
proposed_told (proposed.High at) = refusal 25 at
proposed_told (proposed.NotRising at) = refusal 26 at
