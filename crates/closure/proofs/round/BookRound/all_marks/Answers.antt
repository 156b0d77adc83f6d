use Rattle.std.proofs.Common.{◌≡◌, ℕ, Some, refl}
use borrow.Author.Tests.{tests}
use Rattle.marks.specs.Sets.{◌∈◌}
use Rattle.books.specs.Asked.{body_of}
use Rattle.marks.proofs.Chains.{all_in_range, triple_is}
use Rattle.closure.proofs.Applying.{decides_passing}
use Rattle.closure.proofs.round.BookRound.all_marks.Goals as goal

pub returns : goal.returns
returns g c S tells =
    let rules = g.B.Book.rules c.args.self.now.book.now in
    let all = all_in_range (λ k. (m : ℕ) → body_of rules c.args.n k ≡ Some m → m ∈ S) c.args.places.start c.args.places.end _ _ _ _ refl c.all.ensures.ran (λ x b q k. (search (rules, tests, triple_is), decides_passing _ S tells _ _ k.met.1)) in
    ((λ yes k m from below at. all.0 yes k from below m at), λ each. all.1 (λ k from below m at. each k m from below at))
