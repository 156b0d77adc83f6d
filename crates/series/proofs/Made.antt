-- The series that is made of a row, whether it passes the check or not: its count is so many where it passes, and 0
-- where the check refuses. Assumes nothing.
use Rattle.std.proofs.Common.{◌≡◌, ℕ, true, not, ◌||◌, eqb, List, is_some, Some, None, Option, refl, ap, ◌∙◌}
use Rattle.std.proofs.lemmas.Bool.{or_left, or_right, eq-eqb}
use Rattle.refusals.specs.declared.Told.{Told}
use Rattle.refusals.specs.Checks.{where_passes, count_where_passes}
use Rattle.series.specs.declared.movement.Movement.{Movement}
use Rattle.series.specs.Moved.{series_rules}
use Rattle.series.specs.Checks.{series_check}
use Rattle.series.specs.Made.{made_rules}

-- the movement with another count
abbrev pub counted : Movement → ℕ → Movement
counted m k = record { width = m.width; count = k; moving = m.moving }

module _ (row bytes : List ℕ) (m : Movement) (k : ℕ) (same : bytes ≡ row) where
  checked_by : (c : Option Told) → series_check row m ≡ c → k ≡ count_where_passes c m.count → (eqb k 0 || not (is_some (series_check bytes (counted m k)))) ≡ true
  checked_by None passed e =
      or_right (eqb k 0) (not (is_some (series_check bytes (counted m k))))
      (ap (λ bs. not (is_some (series_check bs (counted m k)))) same ∙ ap (λ j. not (is_some (series_check row (counted m j)))) e ∙ ap (λ c. not (is_some c)) passed)
  checked_by (Some t) refused e = or_left (eqb k 0) (not (is_some (series_check bytes (counted m k)))) (eq-eqb k 0 e)

  rules_by : (c : Option Told) → k ≡ count_where_passes c m.count → series_rules bytes (counted m k) ≡ where_passes c (series_rules row m)
  rules_by None e = ap (λ bs. series_rules bs (counted m k)) same ∙ ap (λ j. series_rules row (counted m j)) e
  rules_by (Some t) e = ap (λ j. series_rules bytes (counted m j)) e

  module _ (made : k ≡ count_where_passes (series_check row m) m.count) where
    pub made_checked : (eqb k 0 || not (is_some (series_check bytes (counted m k)))) ≡ true
    made_checked = checked_by (series_check row m) refl made

    pub made_is : series_rules bytes (counted m k) ≡ made_rules row m
    made_is = rules_by (series_check row m) made
