use Rattle.std.proofs.Common.{◌≡◌, Some}
use Rattle.std.proofs.lemmas.Bool.{both_ways}
use Rattle.marks.specs.Words.{members}
use Rattle.books.specs.Asked.{counts_of}
use Rattle.closure.specs.Rounds.{outside}
use Rattle.closure.proofs.Applying.{applies_from_marks, marks_from_applies}
use Rattle.closure.proofs.round.BookRound.applies.Goals as goal

pub returns-then-all_marks : goal.returns-then-all_marks
returns-then-all_marks g c =
    let rules = g.B.Book.rules c.args.self.now.book.now in
    let n = c.args.n in
    let promised = c.in-Some.ensures in
    let told : counts_of rules n ≡ Some (c.from-required.result, c.from.result) = cc in
    let required = c.all_marks.ensures (members c.args.self.now.from.now) (λ m r k. k.1) in
    let barred = c.all_marks-then-all_marks.ensures (outside (members c.args.self.now.proposed.now)) (λ m r k. k.1) in (
      (λ yes. applies_from_marks rules _ _ n _ _ told (required.0 c.if-all_marks.true) (barred.0 yes)),
      λ so. barred.1 (marks_from_applies rules _ _ n _ _ told so).1,
    )

pub returns-else-all_marks : goal.returns-else-all_marks
returns-else-all_marks g c =
    let rules = g.B.Book.rules c.args.self.now.book.now in
    let n = c.args.n in
    let promised = c.in-Some.ensures in
    let told : counts_of rules n ≡ Some (c.from-required.result, c.from.result) = cc in
    let required = c.all_marks.ensures (members c.args.self.now.from.now) (λ m r k. k.1) in (
      (λ yes. absurd (both_ways _ c.if-all_marks.false yes)),
      λ so. required.1 (marks_from_applies rules _ _ n _ _ told so).0,
    )
