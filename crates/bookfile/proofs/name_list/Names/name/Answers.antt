use Rattle.std.proofs.Common.{◌≡◌, ℕ, ◌≤◌, List, Bor, sym, ap, ◌∙◌, rules}
use Rattle.std.specs.List.{slice_get}
use Rattle.std.specs.Option.{option_map}
use Rattle.std.proofs.lemmas.Iterator.Consumers.{YieldsList-from_first, nth_from_yields_List}
use Rattle.refusals.proofs.Passed.{none_from}
use Rattle.books.proofs.Counted.{nth_counted_past}
use Rattle.bookcheck.specs.Layout.{name_in}
use Rattle.bookcheck.specs.Views.{table_names, names_left}
use Rattle.bookfile.proofs.Asked.{short_told}
use Rattle.bookfile.proofs.name_list.Names.name.Goals as goal

pub returns-then-n-len : goal.returns-then-n-len
returns-then-n-len c =
    let t = c.args.self.now.names in
    let found : option_map (λ (x : Bor (List ℕ)). x.now) c.nth.result ≡ slice_get (table_names t) c.args.instance.number =
    nth_from_yields_List c.nth.result c.nth.new.self _ c.nth.ensures.ran (YieldsList-from_first (λ x. x.now) names_left {s = c.iter.result} (table_names t) c.iter.ensures)
    ∙ ap (slice_get (table_names t)) (search rules) in
    record { value = found; short = short_told (λ (x : Bor (List ℕ)). x.now) t.bytes.now t.from t.count c.args.instance.number (none_from _ t.checked) c.nth.result found }

pub returns-else-n-len-clause-value : goal.returns-else-n-len-clause-value
returns-else-n-len-clause-value c =
    let t = c.args.self.now.names in
    let past : t.count ≤ c.args.instance.number = search rules in
    sym (nth_counted_past (name_in t.bytes.now t.from) t.count c.args.instance.number past)
