-- Levels. Assumes nothing.
--     Levels P level    in every rule of P the head is at least as high as each required mark and higher than each
--                       barred one
--     Admits P          the rules admit levels: each mark can have such a number
use Rattle.std.specs.Prelude.{ℕ, ◌<◌, ◌≤◌}
use Rattle.std.specs.List.{AllByRecursion}
use Rattle.norms.specs.Programs.{Rule, Program}

module _ {A : Type 0} where
  abbrev pub Levels : Program A → (A → ℕ) → Type 0
  Levels P level =
      (r : Rule A) → P r → AllByRecursion (λ a. level a ≤ level r.head) r.required × AllByRecursion (λ b. level b < level r.head) r.barred

  abbrev pub Admits : Program A → Type 0
  Admits P = (level : A → ℕ) × Levels P level
