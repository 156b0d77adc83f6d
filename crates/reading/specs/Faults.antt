-- What the faults of the byte reader tell. Assumes nothing.
use Rattle.refusals.specs.declared.Told.{Told}
use Rattle.refusals.specs.Telling.{refusal_in}
use Rattle.reading.specs.declared.fault.ReadFault.{ReadFault}
use Rattle.reading.specs.declared.fault.ReadFault.TheVariants.{Ended, TooMany, LeftOver}
use Rattle.reading.specs.Reads.{the_end}

abbrev pub read_told : ReadFault → Told
read_told (Ended here len) = refusal_in here 1 len
read_told (TooMany here at) = refusal_in here 2 at
read_told (LeftOver at) = refusal_in the_end 9 at
