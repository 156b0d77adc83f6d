use Rattle.std.proofs.Common.{rules, ◌≡◌, ◌+◌, arith}
use Rattle.std.proofs.lemmas.List.FromFn.{length-map-range_with_len}
use Rattle.bookcheck.specs.Layout.{name_in}
use Rattle.bookcheck.proofs.Walk.{names_first, first_within, name_ends}
use Rattle.bookcheck.proofs.name_iter.methods.NameIterIterator.next.Goals as goal

pub returns-in_err-length-clause-steps : goal.returns-in_err-length-clause-steps
returns-in_err-length-clause-steps c = absurd (omega (arith, c.in_err-length.ensures.cases, name_ends c.args.self.now.rest.now 0 0 c.args.self.now.left (omega arith)))

pub split_at-requires : goal.split_at-requires
split_at-requires c =
    let more : c.args.self.now.left ≡ c.in_ok-left.left + 1 = omega arith in
    let within = first_within c.args.self.now.rest.now c.in_ok-length.rest.now c.in_ok-length.length.now c.args.self.now.left c.in_ok-left.left c.in_ok-length.ensures.cases.0 more c.args.self.now.within in
    omega arith

pub invariant_of-self : goal.invariant_of-self
invariant_of-self c =
    let more : c.args.self.now.left ≡ c.in_ok-left.left + 1 = omega arith in
    let within = first_within c.args.self.now.rest.now c.in_ok-length.rest.now c.in_ok-length.length.now c.args.self.now.left c.in_ok-left.left c.in_ok-length.ensures.cases.0 more c.args.self.now.within in
    record { within = rw (c.split_at.ensures.back, c.from.ensures) within.1 }

pub returns-clause-steps : goal.returns-clause-steps
returns-clause-steps c =
    let more : c.args.self.now.left ≡ c.in_ok-left.left + 1 = omega arith in
    let first = names_first c.args.self.now.rest.now c.in_ok-length.rest.now c.in_ok-length.length.now c.args.self.now.left c.in_ok-left.left c.in_ok-length.ensures.cases.0 more in
    rw (c.split_at.ensures.front, c.split_at.ensures.back, c.from.ensures) first

pub returns-clause-goes : goal.returns-clause-goes
returns-clause-goes c =
    let old = length-map-range_with_len (name_in c.args.self.now.rest.now 0) 0 c.args.self.now.left in
    let new = length-map-range_with_len (name_in c.split_at.result.1.now 0) 0 c.in_ok-left.left in
    search rules
