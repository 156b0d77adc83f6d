use Rattle.std.proofs.Common.{rules, ◌≡◌, ◌+◌, ◌-◌, ◌*◌, true, false, nat_lt, arith, Err, Some, None, drop, ◌∙◌, ap}
use borrow.Author.Tests.{tests}
use Rattle.std.proofs.lemmas.List.{take_all, length-drop}
use Rattle.std.proofs.lemmas.Iterator.{IsFirst-from_position, YieldsList-from_slice}
use Rattle.refusals.specs.Telling.{refusal_in}
use Rattle.rows.specs.Rows.{body_count}
use Rattle.rows.proofs.Found.{found_from}
use Rattle.rows.proofs.row.check.Placed.check_unused.Goals as goal

pub returns-in-Some : goal.returns-in-Some
returns-in-Some c =
    let row = c.args.self.now.row.bytes.now in
    let from = 4 + 2 * body_count row in
    let rest : c.iter.result.rest.now ≡ drop from row = c.iter.ensures.rest ∙ rw c.body_count.ensures.value (take_all _ (drop from row) (omega (arith, length-drop from row))) in
    let found = IsFirst-from_position _ _ (Some c.in-Some.k) (λ x. nat_lt 0 x ≡ true) (λ x. nat_lt 0 x ≡ false) c.in-Some.ensures.ran (YieldsList-from_slice (drop from row) rest) (λ x q k. search (rules, tests)) (λ x q k. search (rules, tests)) in
    ap (λ at. Err (refusal_in c.args.self.now.item 6 at)) (omega arith)
    ∙ found_from (λ x. nat_lt 0 x) (λ k. refusal_in c.args.self.now.item 6 (c.args.self.now.at + (from + k))) row from (28 - 2 * body_count row) (omega arith) (Some c.in-Some.k) found

pub returns-in-None : goal.returns-in-None
returns-in-None c =
    let row = c.args.self.now.row.bytes.now in
    let from = 4 + 2 * body_count row in
    let rest : c.iter.result.rest.now ≡ drop from row = c.iter.ensures.rest ∙ rw c.body_count.ensures.value (take_all _ (drop from row) (omega (arith, length-drop from row))) in
    let found = IsFirst-from_position _ _ None (λ x. nat_lt 0 x ≡ true) (λ x. nat_lt 0 x ≡ false) c.in-None.ensures.ran (YieldsList-from_slice (drop from row) rest) (λ x q k. search (rules, tests)) (λ x q k. search (rules, tests)) in
    found_from (λ x. nat_lt 0 x) (λ k. refusal_in c.args.self.now.item 6 (c.args.self.now.at + (from + k))) row from (28 - 2 * body_count row) (omega arith) None found
