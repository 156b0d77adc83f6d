use Rattle.std.proofs.Common.{◌-◌, rules, arith, length, drop, ap, ◌∙◌}
use Rattle.std.proofs.lemmas.List.{take_all, length-drop}
use Rattle.bookcheck.specs.Layout.{names_in}
use Rattle.bookcheck.proofs.Walk.{from_within, left_within, names_in_left}
use Rattle.bookcheck.proofs.name_table.NameTable.iter.Goals as goal

pub slice_bounds-new-count : goal.slice_bounds-new-count
slice_bounds-new-count c =
    let from = from_within c.args.self.now.bytes.now c.args.self.now.from c.args.self.now.count c.args.self.now.within in search rules

pub slice_bounds-new-start : goal.slice_bounds-new-start
slice_bounds-new-start c =
    let from = from_within c.args.self.now.bytes.now c.args.self.now.from c.args.self.now.count c.args.self.now.within in search rules

pub new-requires : goal.new-requires
new-requires c =
    let t = c.args.self.now in
    rw (take_all (length t.bytes.now - t.from) (drop t.from t.bytes.now) (omega (arith, length-drop t.from t.bytes.now)))
    (left_within t.bytes.now t.from t.count t.within)

pub returns : goal.returns
returns c =
    let t = c.args.self.now in
    c.new.ensures
    ∙ ap (λ xs. names_in xs 0 t.count) (take_all (length t.bytes.now - t.from) (drop t.from t.bytes.now) (omega (arith, length-drop t.from t.bytes.now)))
    ∙ names_in_left t.bytes.now t.from t.count
