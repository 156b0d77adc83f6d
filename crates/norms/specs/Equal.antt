-- Equal rules: rules by which the same steps are stable, whatever their order. Assumes nothing.
--     Like r s           the rules r and s have the same head, and require and bar the same marks: their order and
--                        how often a mark stands there do not matter
--     Covers rules s     some rule of the list is like s
--     Equal rules other  each rule of either list has its like in the other
-- Laws:
--     Equivalence        every list is equal to itself; equal lists are so either way round; lists that are equal
--                        to a third are equal
--     Joined             two lists one after the other, in either order, are equal
--     Alike rules other  the same steps are stable, the same sets are smallest, and the depth is the same
use Rattle.std.specs.Prelude.{◌≡◌, ℕ, ◌↔◌, List, ◌++◌}
use Rattle.std.specs.List.{ContainsAt}
use Rattle.marks.specs.Sets.{Set, among}
use Rattle.norms.specs.Programs.{Rule, Smallest, Depth}
use Rattle.norms.specs.Rules.{Norms}
use Rattle.norms.specs.Steps.{Step, StableStep}

pub record Like (r s : Rule ℕ) : Type 0 where
  pub head : r.head ≡ s.head
  pub required : among r.required ≡ among s.required
  pub barred : among r.barred ≡ among s.barred

abbrev pub Covers : List (Rule ℕ) → Rule ℕ → Type 0
Covers rules s = (r : Rule ℕ) × ContainsAt rules r × Like s r

pub record Equal (rules other : List (Rule ℕ)) : Type 0 where
  pub to : (r : Rule ℕ) → ContainsAt rules r → Covers other r
  pub from : (r : Rule ℕ) → ContainsAt other r → Covers rules r

pub record Equivalence : Type 0 where
  pub itself : (a : List (Rule ℕ)) → Equal a a
  pub turned : (a b : List (Rule ℕ)) → Equal a b → Equal b a
  pub through : (a b c : List (Rule ℕ)) → Equal a b → Equal b c → Equal a c

abbrev pub Joined : Type 0
Joined = (a b : List (Rule ℕ)) → Equal (a ++ b) (b ++ a)

pub record Alike (rules other : List (Rule ℕ)) : Type 0 where
  pub stable : (steps : List Step) (said M : Set ℕ) → StableStep rules steps said M ↔ StableStep other steps said M
  pub smallest : (M G L : Set ℕ) → Smallest (Norms rules) M G L ↔ Smallest (Norms other) M G L
  pub depth : (M G L : Set ℕ) (d : ℕ) → Depth (Norms rules) M G d L ↔ Depth (Norms other) M G d L
