-- What the structs over a book file mean. Assumes nothing.
--     table_rules t    the rules of a `RuleTable`
--     table_names t    the names of a `NameTable`
--     names_left it    the names that a walk over names has before it
use Rattle.std.specs.Prelude.{ℕ, List}
use Rattle.norms.specs.Programs.{Rule}
use Rattle.rows.specs.Tables.{rules_in}
use Rattle.bookcheck.specs.declared.rule_table.RuleTable.{RuleTable}
use Rattle.bookcheck.specs.declared.name_table.NameTable.{NameTable}
use Rattle.bookcheck.specs.declared.name_iter.NameIter.{NameIter}
use Rattle.bookcheck.specs.Layout.{rows_from, names_in}

abbrev pub table_rules : RuleTable → List (Rule ℕ)
table_rules t = rules_in t.bytes.now rows_from t.count

abbrev pub table_names : NameTable → List (List ℕ)
table_names t = names_in t.bytes.now t.from t.count

abbrev pub names_left : NameIter → List (List ℕ)
names_left it = names_in it.rest.now 0 it.left
