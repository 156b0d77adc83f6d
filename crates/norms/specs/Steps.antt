-- Steps of a case: what one hands on to the next, and which proposals are stable steps. Assumes nothing.
--     Step                     a step that stands: the marks that were said, and its marks
--     handed_on M              what a step with the marks M hands on: carried of each instance of which M has
--                              created or carried and lacks ended
--     Handing c a e            the same as a rule: c, carried of an instance, requires a, created or carried of it, and
--                              bars e, ended of it
--     inherited steps          what the last of the standing steps hands on; nothing before step 1
--     given steps said         what the next step is given: what it inherits and what is said
--     StableStep rules steps said M   M is a stable step after the standing steps, with this said
use Rattle.std.specs.Prelude.{◌≡◌, ℕ, ◌<◌, not, ◌&&◌, ◌||◌, ◌⊎◌, List, [], ◌∷◌, ◌==◌}
use Rattle.marks.specs.Sets.{Set, nothing}
use Rattle.marks.specs.Numbers.{mark, instance, attribute, carried, created, ended}
use Rattle.norms.specs.Programs.{Rule, Stable}
use Rattle.norms.specs.Rules.{Norms}

pub record Step : Type 0 where
  pub said : Set ℕ
  pub marks : Set ℕ

abbrev pub handed_on : Set ℕ → Set ℕ
handed_on M m =
    (attribute m == carried) && (M (mark (instance m) created) || M m) && not (M (mark (instance m) ended))

abbrev pub Handing : ℕ → ℕ → ℕ → Type 0
Handing c a e =
    (i : ℕ) × (i < 128) × (c ≡ mark i carried) × ((a ≡ mark i created) ⊎ (a ≡ mark i carried)) × (e ≡ mark i ended)

abbrev pub inherited : List Step → Set ℕ
inherited [] = nothing
inherited (s ∷ []) = handed_on s.marks
inherited (s ∷ t ∷ steps) = inherited (t ∷ steps)

abbrev pub given : List Step → Set ℕ → Set ℕ
given steps said m = said m || inherited steps m

abbrev pub StableStep : List (Rule ℕ) → List Step → Set ℕ → Set ℕ → Type 0
StableStep rules steps said M = Stable (Norms rules) (given steps said) M
