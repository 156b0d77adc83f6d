use Rattle.std.proofs.Common.{◌∙◌, rules}
use Rattle.rows.specs.Tables.{rule_in}
use Rattle.books.proofs.Counted.{counts_past}
use Rattle.bookcheck.specs.Layout.{rows_from}
use Rattle.bookfile.proofs.Asked.{counts_told}
use Rattle.bookfile.proofs.file_book.methods.FileBookBook.counts.Goals as goal

pub returns-in_err-row : goal.returns-in_err-row
returns-in_err-row c = c.from_residual.ensures ∙ counts_past (rule_in c.args.self.now.rules.bytes.now rows_from) c.args.self.now.rules.count c.args.n c.in_err-row.ensures

pub returns : goal.returns
returns c =
    counts_told c.args.self.now.rules.bytes.now rows_from c.args.self.now.rules.count c.args.n c.in_ok-row.row.bytes.now _ _
    c.in_ok-row.ensures.1 (search rules) (search rules) c.in_ok-row.ensures.0
