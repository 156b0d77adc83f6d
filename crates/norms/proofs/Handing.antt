-- What a step hands on, as two rules for each instance. Assumes nothing.
use Rattle.std.proofs.Common.{◌≡◌, ℕ, ◌<◌, ◌≤◌, true, false, not, ◌&&◌, ◌||◌, eqb, sym, refl, ap, ◌∙◌, inl, inr, ⊎_elim, arith}
use Rattle.std.proofs.lemmas.Bool.{false≢true, and_parts, and_from, or_cases, or_left, or_right, not-true, not_from_false, eqb-true, eq-eqb, cases_lt}
use Rattle.marks.specs.Sets.{Set, ◌∈◌}
use Rattle.marks.specs.Numbers.{mark, instance, attribute, carried, created, ended}
use Rattle.norms.specs.Steps.{handed_on, Handing}
use Rattle.norms.specs.Traces.{Hands}

-- a member of a set of marks is a mark
pub low_member : (M : Set ℕ) → ((m : ℕ) → 1024 ≤ m → M m ≡ false) → (m : ℕ) → m ∈ M → m < 1024
low_member M low m e = ⊎_elim (λ h. h) (λ past. absurd (false≢true (sym (low m past) ∙ e))) (cases_lt m 1024)

module _ (M : Set ℕ) (low : (m : ℕ) → 1024 ≤ m → M m ≡ false) where
  apart : (m : ℕ) → m ∈ handed_on M → (eqb (attribute m) carried ≡ true) × ((M (mark (instance m) created) || M m) ≡ true) × (M (mark (instance m) ended) ≡ false)
  apart m e =
      let both = and_parts (eqb (attribute m) carried && (M (mark (instance m) created) || M m)) (not (M (mark (instance m) ended))) e in
      let front = and_parts (eqb (attribute m) carried) (M (mark (instance m) created) || M m) both.0 in
      (front.0, front.1, not-true (M (mark (instance m) ended)) both.1)

  to : (c : ℕ) → c ∈ handed_on M → (a : ℕ) × (e : ℕ) × Handing c a e × (a ∈ M) × (M e ≡ false)
  to c h =
      let p = apart c h in
      let zero-attribute = eqb-true (attribute c) carried p.0 in
      let i = instance c in
      ⊎_elim
      (λ new. let small = low_member M low (mark i created) new in (mark i created, mark i ended, (i, omega arith, omega arith, inl refl, refl), new, p.2))
      (λ old. let small = low_member M low c old in (c, mark i ended, (i, omega arith, omega arith, inr (omega arith), refl), old, p.2))
      (or_cases (M (mark i created)) (M c) p.1)

  from : (c : ℕ) → ((a : ℕ) × (e : ℕ) × Handing c a e × (a ∈ M) × (M e ≡ false)) → c ∈ handed_on M
  from c (a, e, (i, small, is_c, is-a, is-e), has, lacks) =
      let same : instance c ≡ i = omega arith in
      let kind : attribute c ≡ carried = omega arith in
      and_from (eqb (attribute c) carried && (M (mark (instance c) created) || M c)) (not (M (mark (instance c) ended)))
      (and_from (eqb (attribute c) carried) (M (mark (instance c) created) || M c) (eq-eqb (attribute c) carried kind)
      (⊎_elim
      (λ new. or_left (M (mark (instance c) created)) (M c) (ap (λ x. M (mark x created)) same ∙ sym (ap M new) ∙ has))
      (λ old. or_right (M (mark (instance c) created)) (M c) (ap M is_c ∙ sym (ap M old) ∙ has))
      is-a))
      (not_from_false (M (mark (instance c) ended)) (ap (λ x. M (mark x ended)) same ∙ sym (ap M is-e) ∙ lacks))

  pub hands_on : Hands Handing handed_on M
  hands_on c = (to c, from c)
