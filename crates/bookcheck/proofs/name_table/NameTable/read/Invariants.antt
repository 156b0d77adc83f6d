use Rattle.std.proofs.Common.{◌≡◌, None}
use Rattle.refusals.specs.Checks.{first_below}
use Rattle.bookcheck.specs.Layout.{name_at}
use Rattle.bookcheck.specs.Checks.{name_check}
use Rattle.bookcheck.proofs.name_table.NameTable.read.Given as goal

abbrev pub invariant-loop-n : goal.invariant-loop-n
invariant-loop-n l =
    (l.next.bytes.now ≡ l.reader.bytes.now)
    × (l.next.at ≡ name_at l.reader.bytes.now l.reader.at l.n)
    × (first_below l.n (name_check l.reader.bytes.now l.reader.at) ≡ None)
