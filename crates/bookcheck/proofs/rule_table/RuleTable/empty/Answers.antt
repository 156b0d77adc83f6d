use Rattle.refusals.specs.declared.Section.TheVariants.{Rules}
use Rattle.refusals.proofs.First.{first_none}
use Rattle.refusals.proofs.Passed.{is_none}
use Rattle.rows.specs.Tables.{row_check_in}
use Rattle.bookcheck.specs.Layout.{rows_from}
use Rattle.bookcheck.proofs.rule_table.RuleTable.empty.Goals as goal

pub invariant_of-result-clause-checked : goal.invariant_of-result-clause-checked
invariant_of-result-clause-checked c = is_none _ (first_none (row_check_in Rules c.args.bytes.now rows_from))
