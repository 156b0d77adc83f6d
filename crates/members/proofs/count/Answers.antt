use Rattle.std.proofs.Common.{◌≡◌, ◌^◌, ◌∙◌, length, ap, rules, arith}
use borrow.Author.Tests.{tests}
use lib.Count.{ones}
use Rattle.std.specs.List.{sum_by}
use Rattle.std.proofs.lemmas.Iterator.{YieldsList-from_slice, YieldsList-from_map}
use Rattle.std.proofs.lemmas.Iterator.Consumers.{YieldsList-at, sum_by_from_yields_List, fits_by_from_yields_list}
use Rattle.marks.specs.Members.{marks_in}
use Rattle.marks.specs.Words.{members}
use Rattle.members.proofs.Counts.{ones_of_words, few_marks}
use Rattle.members.proofs.count.Goals as goal

pub sum-requires-clause-fits : goal.sum-requires-clause-fits
sum-requires-clause-fits c =
    let M = members c.args.set.now in
    let ws = c.words-words.result in
    let total = ap (sum_by ones) c.words-words.ensures ∙ ones_of_words M in
    fits_by_from_yields_list ones ws c.map.result (2 ^ 16)
    (YieldsList-from_map _ ones (YieldsList-at c.map.ensures.source (YieldsList-from_slice ws (cc))) c.map.ensures.closure (λ x r q k. search (rules, tests)))
    (omega (arith, total, few_marks M))

pub returns-clause-value : goal.returns-clause-value
returns-clause-value c =
    let M = members c.args.set.now in
    let ws = c.words-words.result in
    let total : c.sum.result ≡ length (marks_in M) =
    sum_by_from_yields_List ones ws c.map.result c.sum.result c.sum.ensures.ran
    (YieldsList-from_map _ ones (YieldsList-at c.map.ensures.source (YieldsList-from_slice ws (cc))) c.map.ensures.closure (λ x r q k. search (rules, tests)))
    ∙ ap (sum_by ones) c.words-words.ensures
    ∙ ones_of_words M in
    omega (arith, total)

pub returns-clause-low : goal.returns-clause-low
returns-clause-low c = omega (arith, returns-clause-value c, few_marks (members c.args.set.now))
