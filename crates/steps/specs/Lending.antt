-- A record of a table, lent to be filled. Assumes nothing.
--     with_record p i r    the places p with the record r at place i
--     LendsRecord p i r    p ends with the last value behind r at place i, or as it was where r is none
use Rattle.std.specs.Prelude.{ℕ, Option}
use Rattle.std.specs.Borrow.{LendsIf, MutBor, Fml}
use Rattle.arrayvec.specs.ArrayVec.{with_item}
use Rattle.steps.specs.declared.record.Record.{Record}
use Rattle.steps.specs.declared.table.Places.{Places}
use Rattle.steps.specs.contracts.record.Record.{the_row as record_row}
use Rattle.steps.specs.contracts.table.Places.{the_row as places_row}

abbrev pub with_record : Places → ℕ → Record → Places
with_record p i r = record p { records = with_item p.records i r }

abbrev pub LendsRecord : MutBor Places → ℕ → Option (MutBor Record) → Fml
LendsRecord p i r = LendsIf places_row record_row p r (with_record p.now i) p.now
