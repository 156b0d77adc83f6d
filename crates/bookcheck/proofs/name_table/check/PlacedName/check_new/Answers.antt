use Rattle.std.proofs.Common.{rules, ◌≡◌, ℕ, ◌<◌, List, [], true, false, get_or, ap, sym, arith}
use borrow.Author.Tests.{tests}
use Rattle.std.specs.Str.{bytes_eq}
use Rattle.std.proofs.lemmas.Iterator.{cases_from_any}
use Rattle.std.proofs.lemmas.Iterator.Consumers.{YieldsList-from_first}
use Rattle.std.proofs.lemmas.List.FromFn.{length-map-range_with_len, get_or-map-range_with_len}
use Rattle.refusals.specs.declared.Told.{Told}
use Rattle.refusals.specs.Telling.{refusal_in}
use Rattle.refusals.specs.Checks.{refuse_if}
use Rattle.bookcheck.specs.Layout.{name_in, names_in}
use Rattle.bookcheck.specs.Checks.{apart_check}
use Rattle.bookcheck.specs.Views.{table_names, names_left}
use Rattle.bookcheck.proofs.Any.{any_found, any_none}
use Rattle.bookcheck.proofs.name_table.check.PlacedName.check_new.Goals as goal

-- each check compares the name with one name of the table
each : (told : Told) (bs : List ℕ) (from n : ℕ) (name : List ℕ) (k : ℕ) → k < n → refuse_if (bytes_eq (name_in bs from k) name) told ≡ refuse_if (bytes_eq (get_or (names_in bs from n) k []) name) told
each told bs from n name k h = ap (λ x. refuse_if (bytes_eq x name) told) (sym (get_or-map-range_with_len (name_in bs from) 0 n k k [] h (omega arith)))

pub returns-then-any : goal.returns-then-any
returns-then-any c =
    let p = c.args.self.now in
    let t = c.args.earlier.now in
    let found = cases_from_any c.any.new.self _ c.any.result (λ x. bytes_eq x p.name.now ≡ true) (λ x. bytes_eq x p.name.now ≡ false) c.any.ensures.ran (YieldsList-from_first (λ x. x.now) names_left {s = c.iter.result} (table_names t) c.iter.ensures) (λ x q k. search (rules, tests)) (λ x q k. search (rules, tests)) in
    any_found (λ x. bytes_eq x p.name.now) (refusal_in p.item 8 p.at) (table_names t) [] (apart_check p.item p.at t.bytes.now t.from p.name.now) t.count (length-map-range_with_len (name_in t.bytes.now t.from) 0 t.count) (each _ t.bytes.now t.from t.count p.name.now) c.any.result found c.if-any.true

pub returns : goal.returns
returns c =
    let p = c.args.self.now in
    let t = c.args.earlier.now in
    let found = cases_from_any c.any.new.self _ c.any.result (λ x. bytes_eq x p.name.now ≡ true) (λ x. bytes_eq x p.name.now ≡ false) c.any.ensures.ran (YieldsList-from_first (λ x. x.now) names_left {s = c.iter.result} (table_names t) c.iter.ensures) (λ x q k. search (rules, tests)) (λ x q k. search (rules, tests)) in
    any_none (λ x. bytes_eq x p.name.now) (refusal_in p.item 8 p.at) (table_names t) [] (apart_check p.item p.at t.bytes.now t.from p.name.now) t.count (length-map-range_with_len (name_in t.bytes.now t.from) 0 t.count) (each _ t.bytes.now t.from t.count p.name.now) c.any.result found c.if-any.false
