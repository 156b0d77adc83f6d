use Rattle.std.proofs.Common.{◌≡◌, Some, rules, refl, ap, ◌∙◌}
use borrow.Author.Tests.{tests}
use Rattle.std.specs.List.{slice_get}
use Rattle.marks.specs.Sets.{among}
use Rattle.norms.specs.Rules.{body}
use Rattle.norms.proofs.Models.{same_bool}
use Rattle.sameness.proofs.Bodies.{part_has, in_part}
use Rattle.marks.proofs.Chains.{any_in_range}
use Rattle.sameness.proofs.part.Part.has.Goals as goal

pub returns : goal.returns
returns g c =
    let xs = body c.self.inside.rule.now in
    let a = c.self.inside.start in
    let b = c.self.inside.end in
    let m = c.args.mark.number in
    let found = any_in_range (λ k. slice_get xs k ≡ Some m) a b _ _ _ _ refl c.any.ensures.ran (λ x b q k. search (rules, tests)) in
    same_bool c.any.result _ (λ is. in_part xs a b m (found.0 is)) (λ held. found.1 (part_has xs a b m held))
    ∙ ap (λ l. among l m) c.self.view_is
