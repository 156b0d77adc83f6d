use Rattle.std.proofs.Common.{rules}
use Rattle.refusals.specs.declared.Section.TheVariants.{Rules}
use Rattle.refusals.proofs.Passed.{none_from}
use Rattle.rows.proofs.Sound.{row_whole}
use Rattle.bookcheck.specs.Layout.{rows_from}
use Rattle.bookcheck.proofs.rule_table.RuleTable.row_in.Goals as goal

pub slice_bounds-new-end : goal.slice_bounds-new-end
slice_bounds-new-end c =
    let whole = row_whole Rules c.args.self.now.bytes.now rows_from c.args.self.now.count (none_from _ c.args.self.now.checked) c.args.n c.requires in
    search rules
