use Rattle.std.proofs.Common.{◌≡◌, tests, length, Some, Err, sym, ap, ◌∙◌, arith, rules}
use Rattle.std.specs.Option.{ok_or}
use Rattle.std.proofs.lemmas.Iterator.Consumers.{YieldsList-from_filter, YieldsList-at}
use Rattle.std.proofs.lemmas.Option.{slice_get_past}
use Rattle.marks.specs.declared.mark.Mark.{Mark}
use Rattle.marks.specs.Words.{members}
use Rattle.marks.proofs.InARow.{all_values}
use Rattle.norms.specs.Findings.{finding, findings_in}
use Rattle.steps.proofs.Found.{found_at, found_whole, few_found}
use Rattle.steps.proofs.record.Record.finding.Goals as goal

pub returns-then-seen-k-clause-value : goal.returns-then-seen-k-clause-value
returns-then-seen-k-clause-value c =
    let M = members c.args.self.now.marks in
    let all = all_values (λ (m : Mark). m.number) 1024 c.all.ensures in
    ap (λ o. ok_or o (length (findings_in M)))
    (ap Some c.number.ensures.value
    ∙ found_at M c.loop-mark.yielded _ _ c.next.result c.loop-mark.yielded_by c.next.ensures.steps
    (YieldsList-at c.into_iter-mark-iterator.ensures.into_iter_gives
    (YieldsList-from_filter _ (finding M) (YieldsList-at c.filter-mark-items.ensures.source all) c.filter-mark-items.ensures.closure (λ x r q k. search (rules, tests))))
    c.in-Some.mark c.in-Some.is c.args.k (sym c.if-seen-k.true ∙ c.loop-mark.invariant.2))

pub returns : goal.returns
returns c =
    let M = members c.args.self.now.marks in
    let all = all_values (λ (m : Mark). m.number) 1024 c.all.ensures in
    let whole =
    found_whole M c.loop-mark.yielded _ _ c.next.result c.loop-mark.yielded_by c.next.ensures.steps
    (YieldsList-at c.into_iter-mark-iterator.ensures.into_iter_gives
    (YieldsList-from_filter _ (finding M) (YieldsList-at c.filter-mark-items.ensures.source all) c.filter-mark-items.ensures.closure (λ x r q k. search (rules, tests))))
    c.in-None.is in
    let count : c.loop-mark.seen ≡ length (findings_in M) = c.loop-mark.invariant.2 ∙ whole in
    record {
      value = ap Err count ∙ sym (ap (λ o. ok_or o (length (findings_in M))) (slice_get_past (findings_in M) c.args.k (omega (arith, count, c.loop-mark.invariant.3))));
      low = omega (arith, count, few_found M);
    }
