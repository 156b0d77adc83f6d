use Rattle.std.proofs.Common.{rules, ◌≡◌, true, false, length, refl}
use borrow.Author.Tests.{tests}
use Rattle.std.proofs.lemmas.Iterator.{cases_from_any, YieldsList-from_slice}
use Rattle.refusals.specs.Telling.{refusal_in}
use Rattle.bookcheck.specs.Checks.{unfit, byte_check}
use Rattle.bookcheck.proofs.Any.{any_found, any_none}
use Rattle.bookcheck.proofs.name_table.check.PlacedName.check_fit.Goals as goal

pub returns-then-any : goal.returns-then-any
returns-then-any c =
    let p = c.args.self.now in
    let found = cases_from_any _ _ c.any.result (λ b. unfit b ≡ true) (λ b. unfit b ≡ false) c.any.ensures.ran (YieldsList-from_slice p.name.now c.iter.ensures.rest) (λ x q k. search (rules, tests)) (λ x q k. search (rules, tests)) in
    any_found unfit (refusal_in p.item 7 p.at) p.name.now 0 (byte_check p.item p.at p.name.now) (length p.name.now) refl (λ k h. refl) c.any.result found c.if-any.true

pub returns : goal.returns
returns c =
    let p = c.args.self.now in
    let found = cases_from_any _ _ c.any.result (λ b. unfit b ≡ true) (λ b. unfit b ≡ false) c.any.ensures.ran (YieldsList-from_slice p.name.now c.iter.ensures.rest) (λ x q k. search (rules, tests)) (λ x q k. search (rules, tests)) in
    any_none unfit (refusal_in p.item 7 p.at) p.name.now 0 (byte_check p.item p.at p.name.now) (length p.name.now) refl (λ k h. refl) c.any.result found c.if-any.false
