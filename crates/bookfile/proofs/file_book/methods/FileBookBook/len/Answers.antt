use Rattle.std.proofs.Common.{sym, ◌∙◌}
use Rattle.std.proofs.lemmas.List.FromFn.{length-map-range_with_len}
use Rattle.rows.specs.Tables.{rule_in}
use Rattle.bookcheck.specs.Layout.{rows_from}
use Rattle.bookfile.proofs.file_book.methods.FileBookBook.len.Goals as goal

pub returns : goal.returns
returns c = c.len.ensures ∙ sym (length-map-range_with_len (rule_in c.args.self.now.rules.bytes.now rows_from) 0 c.args.self.now.rules.count)
