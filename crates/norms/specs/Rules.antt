-- The rules of a book, and the frame rules that stand beside every book. Assumes nothing.
--     holds_rule i     holds of i requires carried of i
--     breach_rule i    breached of i requires triggered of i and bars enabled of i
--     Frame r          r is one of the two frame rules of some instance
--     In rules r       r is in the list
--     Norms rules      the rules of the book and the frame rules
--     SoundRule r      r keeps the bounds of a rule: head and body marks at most 1,023, no head of
--                      attribute carried or breached, at most 14 body marks
--     SoundBook rules  at most 1,024 rules, each within these bounds
use Rattle.std.specs.Prelude.{◌≡◌, ℕ, ◌<◌, ◌≤◌, ◌≢◌, ◌⊎◌, List, [], ◌∷◌, ◌++◌, length}
use Rattle.std.specs.List.{ContainsAt, AllByRecursion}
use Rattle.marks.specs.Numbers.{mark, attribute, carried, holds, enabled, triggered, breached}
use Rattle.norms.specs.Programs.{Rule, Program}

abbrev pub holds_rule : ℕ → Rule ℕ
holds_rule i = record { head = mark i holds; required = mark i carried ∷ []; barred = [] }

abbrev pub breach_rule : ℕ → Rule ℕ
breach_rule i = record { head = mark i breached; required = mark i triggered ∷ []; barred = mark i enabled ∷ [] }

abbrev pub Frame : Program ℕ
Frame r = (i : ℕ) × (i < 128) × ((r ≡ holds_rule i) ⊎ (r ≡ breach_rule i))

abbrev pub Norms : List (Rule ℕ) → Program ℕ
Norms rules r = ContainsAt rules r ⊎ Frame r

abbrev pub body : Rule ℕ → List ℕ
body r = r.required ++ r.barred

pub record SoundRule (r : Rule ℕ) : Type 0 where
  pub low : r.head < 1024
  pub not_carried : attribute r.head ≢ carried
  pub not_breached : attribute r.head ≢ breached
  pub few : length (body r) ≤ 14
  pub body_low : AllByRecursion (λ m. m < 1024) (body r)

pub record SoundBook (rules : List (Rule ℕ)) : Type 0 where
  pub few : length rules ≤ 1024
  pub each : AllByRecursion SoundRule rules
