use Rattle.std.proofs.Common.{◌≡◌, rules, ◌∙◌}
use Rattle.bookcheck.specs.Views.{table_rules}
use Rattle.bookfile.specs.Made.{made_rules}
use Rattle.bookfile.proofs.Made.{rules_made}
use Rattle.bookfile.proofs.file_book.FileBook.new.Goals as goal

pub returns-clause-meant : goal.returns-clause-meant
returns-clause-meant c = λ rules_here names file.
    let made : table_rules c.map_or-rules.result ≡ made_rules c.args.bytes.now = search rules in
    made ∙ rules_made c.args.bytes.now rules_here names file
