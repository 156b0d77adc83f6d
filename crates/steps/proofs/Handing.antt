-- What is handed on, one instance after the other. Assumes nothing.
use Rattle.std.proofs.Common.{◌≡◌, ℕ, ◌+◌, ◌*◌, ◌<◌, ◌≤◌, Bool, true, false, cond, not, ◌&&◌, ◌||◌, eqb, ltb, sym, refl, ap, ◌∙◌, ⊎_elim, arith}
use mathlib.Core.Path.{fun_ext}
use Rattle.std.proofs.lemmas.Bool.{cases_lt, cases_order, eq-eqb, ne_eqb, lt-ltb, le-ltb}
use Rattle.marks.specs.Sets.{Set}
use Rattle.marks.specs.Words.{with_mark}
use Rattle.marks.specs.Numbers.{mark, attribute, instance, carried, created, ended}
use Rattle.norms.specs.Steps.{handed_on}

-- only carried marks are handed on
pub handed_carried : (M : Set ℕ) (m : ℕ) → eqb (attribute m) carried ≡ false → handed_on M m ≡ false
handed_carried M m e = ap (λ b. b && (M (mark (instance m) created) || M m) && not (M (mark (instance m) ended))) e

-- of what is no mark nothing is handed on
pub handed_past : (M : Set ℕ) → ((m : ℕ) → 1024 ≤ m → M m ≡ false) → (m : ℕ) → 1024 ≤ m → handed_on M m ≡ false
handed_past M low m h =
    ap (λ b. eqb (attribute m) carried && (b || M m) && not (M (mark (instance m) ended))) (low (mark (instance m) created) (omega arith))
    ∙ ap (λ b. eqb (attribute m) carried && b && not (M (mark (instance m) ended))) (low m h)
    ∙ no_and (eqb (attribute m) carried) (not (M (mark (instance m) ended)))
  where
    no_and : (a b : Bool) → (a && false && b) ≡ false
    no_and true b = refl
    no_and false b = refl

module _ (M S : Set ℕ) (i : ℕ) (so_far : (m : ℕ) → S m ≡ (ltb m (8 * i) && handed_on M m)) where
  -- S, with carried of i where that is handed on
  with_next : Set ℕ
  with_next = cond (handed_on M (mark i carried)) (with_mark (mark i carried) S) S

  here : (m : ℕ) (b : Bool) → m ≡ mark i carried → S m ≡ false → cond b (with_mark (mark i carried) S) S m ≡ b
  here m true e none = ap (λ t. t || S m) (eq-eqb m (mark i carried) e)
  here m false e none = none

  elsewhere : (m : ℕ) (b : Bool) → (m ≡ mark i carried → ⊥) → cond b (with_mark (mark i carried) S) S m ≡ S m
  elsewhere m true e = ap (λ t. t || S m) (ne_eqb m (mark i carried) e)
  elsewhere m false e = refl

  above : (m : ℕ) → 8 * i < m → false ≡ (ltb m (8 * (i + 1)) && handed_on M m)
  above m h =
      ⊎_elim
      (λ below. sym (ap (λ t. ltb m (8 * (i + 1)) && t) (handed_carried M m (ne_eqb (attribute m) carried (λ e. omega arith))) ∙ and_false (ltb m (8 * (i + 1)))))
      (λ past. sym (ap (λ t. t && handed_on M m) (le-ltb m (8 * (i + 1)) past)))
      (cases_lt m (8 * (i + 1)))
    where
      and_false : (a : Bool) → (a && false) ≡ false
      and_false true = refl
      and_false false = refl

  hand_step : (m : ℕ) → with_next m ≡ (ltb m (8 * (i + 1)) && handed_on M m)
  unfolding with_next
  hand_step m =
      let b = handed_on M (mark i carried) in
      ⊎_elim
      (λ e. here m b (e ∙ omega arith) (so_far m ∙ ap (λ t. t && handed_on M m) (le-ltb m (8 * i) (omega arith)))
      ∙ ap (handed_on M) (omega arith) ∙ sym (ap (λ t. t && handed_on M m) (lt-ltb m (8 * (i + 1)) (omega arith))))
      (⊎_elim
      (λ below. elsewhere m b (λ e. omega arith) ∙ so_far m ∙ ap (λ t. t && handed_on M m) (lt-ltb m (8 * i) below ∙ sym (lt-ltb m (8 * (i + 1)) (omega arith))))
      (λ over. elsewhere m b (λ e. omega arith) ∙ so_far m ∙ ap (λ t. t && handed_on M m) (le-ltb m (8 * i) (omega arith)) ∙ above m over))
      (cases_order m (8 * i))

  -- where carried of i is handed on, and where it is not
  pub hand_hit : handed_on M (mark i carried) ≡ true → (m : ℕ) → with_mark (mark i carried) S m ≡ (ltb m (8 * (i + 1)) && handed_on M m)
  unfolding with_next
  hand_hit e m = sym (ap (λ b. cond b (with_mark (mark i carried) S) S m) e) ∙ hand_step m

  pub hand_miss : handed_on M (mark i carried) ≡ false → (m : ℕ) → S m ≡ (ltb m (8 * (i + 1)) && handed_on M m)
  unfolding with_next
  hand_miss e m = sym (ap (λ b. cond b (with_mark (mark i carried) S) S m) e) ∙ hand_step m

-- after the last instance
pub hand_all : (M S : Set ℕ) → ((m : ℕ) → 1024 ≤ m → M m ≡ false)
    → ((m : ℕ) → S m ≡ (ltb m (8 * 128) && handed_on M m)) → S ≡ handed_on M
hand_all M S low all = fun_ext λ m.
    ⊎_elim
    (λ below. all m ∙ ap (λ t. t && handed_on M m) (lt-ltb m 1024 below))
    (λ past. all m ∙ ap (λ t. t && handed_on M m) (le-ltb m 1024 past) ∙ sym (handed_past M low m past))
    (cases_lt m 1024)
