use Rattle.std.proofs.Common.{◌≡◌, None}
use Rattle.refusals.specs.declared.Section.TheVariants.{Rules}
use Rattle.rows.specs.Tables.{row_at, rows_check}
use Rattle.bookcheck.specs.Layout.{rows_from}
use Rattle.bookcheck.proofs.rule_table.RuleTable.read.Given as goal

abbrev pub invariant-loop-n : goal.invariant-loop-n
invariant-loop-n l =
    (l.next.bytes.now ≡ l.reader.bytes.now)
    × (l.next.at ≡ row_at rows_from l.n)
    × (rows_check Rules l.reader.bytes.now rows_from l.n ≡ None)
