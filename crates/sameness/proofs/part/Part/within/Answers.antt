use Rattle.std.proofs.Common.{◌≡◌, ℕ, Some, rules, Decides, refl, subst}
use borrow.Author.Tests.{tests}
use Rattle.std.specs.List.{slice_get}
use Rattle.std.proofs.lemmas.Bool.Decides.{Decides-like}
use Rattle.marks.specs.Sets.{◌∈◌, ◌⊆◌, among}
use Rattle.norms.specs.Rules.{body}
use Rattle.sameness.proofs.Bodies.{part_has, in_part}
use Rattle.marks.proofs.Chains.{all_in_range, pair_is}
use Rattle.sameness.proofs.part.Part.within.Goals as goal

pub returns : goal.returns
returns g c =
    let xs = body c.self.inside.rule.now in
    let a = c.self.inside.start in
    let b = c.self.inside.end in
    let S = among c.args.other.now in
    let all = all_in_range (λ k. (m : ℕ) → slice_get xs k ≡ Some m → m ∈ S) a b _ _ _ _ refl c.all.ensures.ran (λ x b q k. (search (rules, tests, pair_is), search (rules, tests))) in
    subst (λ l. Decides c.all.result (among l ⊆ S)) c.self.view_is
    (Decides-like c.all.result
    (λ each m held. let found = part_has xs a b m held in each found.0 found.1 found.2 m found.3)
    (λ inside k from below m at. inside m (in_part xs a b m (k, from, below, at)))
    all)
