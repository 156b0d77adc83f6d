use Rattle.std.proofs.Common.{◌≡◌, ℕ, List, refl, ap, ◌∙◌, arith}
use Rattle.std.proofs.lemmas.Result.{err_from_is_err_and}
use Rattle.refusals.specs.declared.Item.{Item}
use Rattle.refusals.specs.declared.Section.TheVariants.{Rules}
use Rattle.refusals.proofs.First.{first_none}
use Rattle.rows.specs.Rows.{row_check_at}
use Rattle.rows.specs.Tables.{row_at, row_check_in}
use Rattle.refusals.proofs.Refused.{call_passed, call_refused}
use Rattle.bookcheck.specs.Layout.{rows_from}
use Rattle.bookcheck.specs.Checks.{rule_item}
use Rattle.bookcheck.proofs.rule_table.RuleTable.read.Goals as goal

pub loop-n-init : goal.loop-n-init
loop-n-init c = (refl, omega arith, first_none (row_check_in Rules c.args.reader.now.bytes.now rows_from))

-- the row that the reader has come to is row n
here : (item : Item) (bs all : List ℕ) (at n : ℕ) → item ≡ rule_item n → bs ≡ all → at ≡ row_at rows_from n → row_check_at item bs at ≡ row_check_in Rules all rows_from n
here item bs all at n e f g = ap (λ i. row_check_at i bs at) e ∙ ap (λ b. row_check_at (rule_item n) b at) f ∙ ap (row_check_at (rule_item n) all) g

pub returns-in_err-check_row-clause-answer : goal.returns-in_err-check_row-clause-answer
returns-in_err-check_row-clause-answer c =
    let p = err_from_is_err_and c.from_residual.result c.from_residual.ensures.1 in
    rw (p.1, p.2)
    (call_refused tt (row_check_in Rules c.args.reader.now.bytes.now rows_from) c.loop-n.n _ c.loop-n.invariant.2
    (here _ _ _ _ _ c.of.ensures c.loop-n.invariant.0 c.loop-n.invariant.1)
    tt _ c.in_err-check_row.ensures.answer c.args.count c.loop-n-test.true)

pub loop-n-preserved : goal.loop-n-preserved
loop-n-preserved c = (
  c.in_ok-check_row.ensures.moved.bytes ∙ c.loop-n.invariant.0,
  c.in_ok-check_row.ensures.moved.at ∙ omega arith,
  call_passed tt (row_check_in Rules c.args.reader.now.bytes.now rows_from) c.loop-n.n _ c.loop-n.invariant.2
      (here _ _ _ _ _ c.of.ensures c.loop-n.invariant.0 c.loop-n.invariant.1)
      _ c.in_ok-check_row.ensures.answer,
)
