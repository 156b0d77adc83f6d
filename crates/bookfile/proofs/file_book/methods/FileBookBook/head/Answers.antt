use Rattle.std.proofs.Common.{ap, ◌∙◌, rules}
use Rattle.books.specs.Asked.{numbered}
use Rattle.refusals.specs.declared.Section.TheVariants.{Rules}
use Rattle.refusals.proofs.Passed.{none_from}
use Rattle.rows.proofs.Sound.{head_low_in}
use Rattle.rows.specs.Tables.{rule_in}
use Rattle.books.proofs.Counted.{head_past}
use Rattle.bookcheck.specs.Layout.{rows_from}
use Rattle.bookfile.proofs.Asked.{head_told}
use Rattle.bookfile.proofs.file_book.methods.FileBookBook.head.Goals as goal

pub returns-in_err-row : goal.returns-in_err-row
returns-in_err-row c = ap numbered c.from_residual.ensures ∙ head_past (rule_in c.args.self.now.rules.bytes.now rows_from) c.args.self.now.rules.count c.args.n c.in_err-row.ensures

pub returns : goal.returns
returns c =
    let t = c.args.self.now.rules in
    head_told t.bytes.now rows_from t.count c.args.n c.in_ok-row.field-0.bytes.now c.new.result _
    c.in_ok-row.ensures.1 (search rules) c.new.ensures
    (head_low_in Rules t.bytes.now rows_from t.count (none_from _ t.checked) c.args.n c.in_ok-row.ensures.0)
    c.in_ok-row.ensures.0
