-- What the faults of a name and of a book file tell. Assumes nothing.
use Rattle.refusals.specs.declared.Told.{Told}
use Rattle.refusals.specs.Telling.{refusal_in}
use Rattle.reading.specs.Faults.{read_told}
use Rattle.rows.specs.Faults.{row_told}
use Rattle.bookcheck.specs.declared.fault.NameFault.{NameFault}
use Rattle.bookcheck.specs.declared.fault.NameFault.TheVariants as name_fault
use Rattle.bookcheck.specs.declared.fault.BookFault.{BookFault}
use Rattle.bookcheck.specs.declared.fault.BookFault.TheVariants as book_fault

abbrev pub name_told : NameFault → Told
name_told (name_fault.Read fault) = read_told fault
name_told (name_fault.Bad here at) = refusal_in here 7 at
name_told (name_fault.Repeated here at) = refusal_in here 8 at

abbrev pub book_told : BookFault → Told
book_told (book_fault.Read fault) = read_told fault
book_told (book_fault.Row fault) = row_told fault
book_told (book_fault.Name fault) = name_told fault
book_told (book_fault.Nameless here at) = refusal_in here 10 at
