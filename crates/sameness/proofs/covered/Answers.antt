use Rattle.std.proofs.Common.{rules}
use borrow.Author.Tests.{tests}
use Rattle.norms.specs.Equal.{Covers}
use Rattle.marks.proofs.Chains.{all_decides, YieldsList-from_places}
use Rattle.sameness.proofs.covered.Goals as goal

pub returns : goal.returns
returns g c =
    let all = g.F.Book.rules c.args.first.now in
    all_decides (Covers (g.S.Book.rules c.args.second.now)) _ _ _ c.all.ensures.ran
    (YieldsList-from_places _ all _ c.len.ensures c.filter_map.ensures.source c.filter_map.ensures.closure (λ x r q k. search (rules, tests)))
    (λ x b q k. search (rules, tests))
