use Rattle.std.proofs.Common.{◌≡◌, length, arith, rules}
use borrow.Author.Tests.{tests}
use Rattle.std.proofs.lemmas.Iterator.{cases_from_all, YieldsList-from_slice, YieldsList-from_zip}
use Rattle.steps.proofs.Comparing.{SaidSame, SaidOther, said_decided}
use Rattle.steps.proofs.Places.{length_standing}
use Rattle.steps.specs.Standing.{records_of}
use Rattle.steps.proofs.table.Table.same_scenario.Goals as goal

pub returns-then-len : goal.returns-then-len
returns-then-len c =
    let rs = (records_of c.args.self.now) in
    let us = (records_of c.args.other.now) in
    let own : c.zip.result.a.rest.now ≡ rs = search rules in
    let its : c.zip.result.b.rest.now ≡ us = search rules in
    let long : length rs ≡ length us = omega (arith, length_standing c.args.self.now, length_standing c.args.other.now, c.len.ensures.value, c.len-2.ensures.value) in
    said_decided rs us c.all.result long
    (cases_from_all c.all.new.self _ _ SaidSame SaidOther c.all.ensures.ran (YieldsList-from_zip (YieldsList-from_slice rs own) (YieldsList-from_slice us its))
    (λ x q k. search (rules, tests)) (λ x q k. search (rules, tests)))
