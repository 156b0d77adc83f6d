use Rattle.std.proofs.Common.{◌≡◌, ◌<◌, ◌≤◌, ap, ◌∙◌, arith}
use Rattle.refusals.specs.declared.Section.TheVariants.{Rules}
use Rattle.books.specs.Asked.{numbered}
use Rattle.rows.specs.Rows.{body_count}
use Rattle.rows.specs.Tables.{row_in, rule_in}
use Rattle.refusals.proofs.Passed.{none_from}
use Rattle.rows.proofs.Sound.{mark_low_in}
use Rattle.books.proofs.Counted.{rule_past}
use Rattle.bookcheck.specs.Layout.{rows_from}
use Rattle.bookfile.proofs.Asked.{body_past, body_told}
use Rattle.bookfile.proofs.file_book.methods.FileBookBook.body.Goals as goal

pub returns-in_err-row : goal.returns-in_err-row
returns-in_err-row c =
    ap numbered c.from_residual.ensures
    ∙ rule_past (rule_in c.args.self.now.rules.bytes.now rows_from) c.args.self.now.rules.count c.args.n c.args.k c.in_err-row.ensures

pub returns-then-k-body_count : goal.returns-then-k-body_count
returns-then-k-body_count c =
    let t = c.args.self.now.rules in
    let bs = t.bytes.now in
    let count : c.body_count.result ≡ body_count (row_in bs rows_from c.args.n) = c.body_count.ensures.value ∙ ap body_count c.in_ok-row.ensures.1 in
    let below : c.args.k < body_count (row_in bs rows_from c.args.n) = omega arith in
    body_told bs rows_from t.count c.args.n c.in_ok-row.row.bytes.now c.args.k c.new.result c.mark.result
    c.in_ok-row.ensures.1 c.mark.ensures c.new.ensures
    (mark_low_in Rules bs rows_from t.count (none_from _ t.checked) c.args.n c.in_ok-row.ensures.0 c.args.k below)
    c.in_ok-row.ensures.0 below

pub returns-else-k-body_count : goal.returns-else-k-body_count
returns-else-k-body_count c =
    let t = c.args.self.now.rules in
    let bs = t.bytes.now in
    let count : c.body_count.result ≡ body_count (row_in bs rows_from c.args.n) = c.body_count.ensures.value ∙ ap body_count c.in_ok-row.ensures.1 in
    let past : body_count (row_in bs rows_from c.args.n) ≤ c.args.k = omega arith in
    body_past bs rows_from t.count c.args.n c.args.k c.in_ok-row.ensures.0 past
