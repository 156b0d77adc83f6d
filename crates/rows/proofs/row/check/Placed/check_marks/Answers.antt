use Rattle.std.proofs.Common.{rules, ◌≡◌, ◌+◌, ◌*◌, true, false, nat_lt, Some, None}
use borrow.Author.Tests.{tests}
use Rattle.std.proofs.lemmas.Iterator.{first_from_Range}
use Rattle.refusals.specs.Telling.{refusal_in}
use Rattle.rows.specs.Rows.{body_count, mark_at}
use Rattle.rows.proofs.Found.{found_answers}
use Rattle.rows.proofs.row.check.Placed.check_marks.Goals as goal

pub returns-in-Some : goal.returns-in-Some
returns-in-Some c =
    let row = c.args.self.now.row.bytes.now in
    let found = first_from_Range (record { start = 0; end = c.body_count.result }) _ _ (Some c.in-Some.k) (λ k. nat_lt 1023 (mark_at row k) ≡ true) (λ k. nat_lt 1023 (mark_at row k) ≡ false) c.in-Some.ensures.ran (λ x q k. search (rules, tests)) (λ x q k. search (rules, tests)) in
    found_answers (λ k. nat_lt 1023 (mark_at row k)) (λ k. refusal_in c.args.self.now.item 4 (c.args.self.now.at + 4 + 2 * k)) (body_count row) (Some c.in-Some.k) (rw c.body_count.ensures.value at found)

pub returns-in-None : goal.returns-in-None
returns-in-None c =
    let row = c.args.self.now.row.bytes.now in
    let found = first_from_Range (record { start = 0; end = c.body_count.result }) _ _ None (λ k. nat_lt 1023 (mark_at row k) ≡ true) (λ k. nat_lt 1023 (mark_at row k) ≡ false) c.in-None.ensures.ran (λ x q k. search (rules, tests)) (λ x q k. search (rules, tests)) in
    found_answers (λ k. nat_lt 1023 (mark_at row k)) (λ k. refusal_in c.args.self.now.item 4 (c.args.self.now.at + 4 + 2 * k)) (body_count row) None (rw c.body_count.ensures.value at found)
