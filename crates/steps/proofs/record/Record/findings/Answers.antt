use Rattle.std.proofs.Common.{◌≤◌, tests, inl, length, ap, ◌∙◌, arith, rules}
use Rattle.std.proofs.lemmas.Iterator.Consumers.{count_from_yields_List, YieldsList-from_filter, YieldsList-at}
use Rattle.marks.specs.declared.mark.Mark.{Mark}
use Rattle.marks.specs.Words.{members}
use Rattle.marks.proofs.InARow.{all_values, length_numbers}
use Rattle.norms.specs.Findings.{finding}
use Rattle.steps.proofs.Found.{found_all}
use Rattle.steps.proofs.record.Record.findings.Goals as goal

pub count-requires-clause-fits : goal.count-requires-clause-fits
count-requires-clause-fits c = inl (omega (arith, length_numbers c.filter.result.iter.next 1024))

pub overflow_cast-result : goal.overflow_cast-result
overflow_cast-result c = let low : c.count.result ≤ 1024 = omega (arith, c.count.ensures.bound, length_numbers c.filter.result.iter.next 1024) in search rules

pub returns : goal.returns
returns c =
    let M = members c.args.self.now.marks in
    let all = all_values (λ (m : Mark). m.number) 1024 c.all.ensures in
    record {
      value =
          count_from_yields_List c.filter.result c.count.result c.count.ensures.ran
          (YieldsList-from_filter _ (finding M) (YieldsList-at c.filter.ensures.source all) c.filter.ensures.closure (λ x r q k. search (rules, tests)))
          ∙ ap length (found_all M);
      low = omega (arith, c.count.ensures.bound, length_numbers c.filter.result.iter.next 1024);
    }
