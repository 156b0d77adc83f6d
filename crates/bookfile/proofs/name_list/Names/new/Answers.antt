use Rattle.std.proofs.Common.{◌≡◌, rules, ◌∙◌}
use Rattle.bookcheck.specs.Views.{table_names}
use Rattle.bookfile.specs.Made.{made_names}
use Rattle.bookfile.proofs.Made.{names_made}
use Rattle.bookfile.proofs.name_list.Names.new.Goals as goal

pub returns-clause-meant : goal.returns-clause-meant
returns-clause-meant c = λ rules_here names file.
    let made : table_names c.map_or-names.result ≡ made_names c.args.bytes.now = search rules in
    made ∙ names_made c.args.bytes.now rules_here names file
