-- What the faults of a row tell. Assumes nothing.
use Rattle.refusals.specs.declared.Told.{Told}
use Rattle.refusals.specs.Telling.{refusal_in}
use Rattle.reading.specs.Faults.{read_told}
use Rattle.rows.specs.declared.fault.RowFault.{RowFault}
use Rattle.rows.specs.declared.fault.RowFault.TheVariants.{Read, HeadHigh, HeadKind, TooMany, MarkHigh, Unused}

abbrev pub row_told : RowFault → Told
row_told (Read fault) = read_told fault
row_told (TooMany here at) = refusal_in here 3 at
row_told (HeadHigh here at) = refusal_in here 4 at
row_told (MarkHigh here at) = refusal_in here 4 at
row_told (HeadKind here at) = refusal_in here 5 at
row_told (Unused here at) = refusal_in here 6 at
