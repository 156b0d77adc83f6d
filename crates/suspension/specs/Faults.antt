-- What a refusal to set rules aside tells. Assumes nothing.
use Rattle.refusals.specs.declared.Told.{Told}
use Rattle.refusals.specs.Telling.{refusal}
use Rattle.suspension.specs.declared.fault.SuspensionFault.{SuspensionFault}
use Rattle.suspension.specs.declared.fault.SuspensionFault.TheVariants.{TooMany, Number}

abbrev pub suspension_told : SuspensionFault → Told
suspension_told (TooMany count) = refusal 13 count
suspension_told (Number at) = refusal 14 at
