use Rattle.std.proofs.Common.{◌≡◌, ℕ, ◌+◌, ◌*◌, ◌<◌, List, ap, ◌∙◌, arith, rules}
use Rattle.std.proofs.lemmas.Result.{err_from_is_err_and}
use Rattle.refusals.proofs.First.{first_none}
use Rattle.rows.specs.Rows.{body_count, mark_at}
use Rattle.rows.specs.Tables.{row_at, row_in}
use Rattle.refusals.proofs.Refused.{call_passed, call_refused}
use Rattle.bookcheck.specs.Layout.{rows_from}
use Rattle.bookcheck.specs.Checks.{named_check, body_check}
use Rattle.bookcheck.proofs.rule_table.uses.RuleUse.check_body.Goals as goal

pub loop-k-init : goal.loop-k-init
loop-k-init c = first_none (body_check c.args.self.now.names c.args.self.now.rules.bytes.now c.args.self.now.n)

-- the mark that was read is the k-th body mark of rule n
here : (bs row : List ℕ) (names n k m : ℕ) → row ≡ row_in bs rows_from n → m ≡ mark_at row k → named_check names n m (row_at rows_from n + (4 + 2 * k)) ≡ body_check names bs n k
here bs row names n k m e f =
    ap (λ at. named_check names n m at) (omega arith)
    ∙ ap (λ x. named_check names n x (row_at rows_from n + 4 + 2 * k)) (f ∙ ap (λ r. mark_at r k) e)

pub returns-in_err-check_mark : goal.returns-in_err-check_mark
returns-in_err-check_mark c =
    let rule = c.args.self.now in
    let bs = rule.rules.bytes.now in
    let row : c.row_in-row.result.bytes.now ≡ row_in bs rows_from rule.n = search rules in
    let count : c.body_count-k-end.result ≡ body_count (row_in bs rows_from rule.n) = c.body_count-k-end.ensures.value ∙ ap body_count row in
    let below : c.loop-k.k < body_count (row_in bs rows_from rule.n) = omega arith in
    let p = err_from_is_err_and c.from_residual.result c.from_residual.ensures.1 in
    rw (p.1, p.2)
    (call_refused tt (body_check rule.names bs rule.n) c.loop-k.k
    (named_check rule.names rule.n c.mark.result (row_at rows_from rule.n + (4 + 2 * c.loop-k.k)))
    c.loop-k.invariant
    (here _ _ _ _ _ _ row c.mark.ensures)
    tt _ c.in_err-check_mark.ensures _ below)

pub loop-k-preserved : goal.loop-k-preserved
loop-k-preserved c =
    let rule = c.args.self.now in
    let bs = rule.rules.bytes.now in
    let row : c.row_in-row.result.bytes.now ≡ row_in bs rows_from rule.n = search rules in
    call_passed tt (body_check rule.names bs rule.n) c.loop-k.k
    (named_check rule.names rule.n c.mark.result (row_at rows_from rule.n + (4 + 2 * c.loop-k.k)))
    c.loop-k.invariant
    (here _ _ _ _ _ _ row c.mark.ensures)
    _ c.in_ok-check_mark.ensures
