use Rattle.std.proofs.Common.{rules}
use borrow.Author.Tests.{tests}
use Rattle.norms.specs.Equal.{Like}
use Rattle.marks.proofs.Chains.{any_decides, YieldsList-from_places}
use Rattle.sameness.proofs.rule.BookRule.has_like.Goals as goal

pub returns : goal.returns
returns g c =
    any_decides (Like c.args.self.now) _ _ _ c.any.ensures.ran
    (YieldsList-from_places _ (g.S.Book.rules c.args.book.now) _ c.len.ensures c.filter_map.ensures.source c.filter_map.ensures.closure (λ x r q k. search (rules, tests)))
    (λ x b q k. search (rules, tests))
