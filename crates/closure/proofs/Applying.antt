-- A rule applies exactly when the book's answers say so. Assumes nothing.
use Rattle.std.proofs.Common.{◌≡◌, ℕ, ◌+◌, ◌-◌, Bool, not, true, false, List, ◌++◌, length, Option, Some, None, MatchOption, Decides, sym, refl, ap, ◌∙◌, subst, arith}
use Rattle.std.specs.List.{slice_get}
use Rattle.std.specs.Option.{option_map}
use Rattle.std.proofs.iter.runs.Lists.{none-some, same_Some, nth_left, nth_right}
use Rattle.std.proofs.lemmas.Bool.{not-true}
use Rattle.marks.specs.declared.mark.Mark.{Mark}
use Rattle.marks.specs.Sets.{Set, ◌∈◌}
use Rattle.norms.specs.Programs.{Rule, Stays, Met}
use Rattle.norms.proofs.Places.{all_nth, all_from_nth}
use Rattle.books.specs.Asked.{body_of, body_at, counts_of, numbered}
use Rattle.books.proofs.Counted.{rule_counted}
use Rattle.closure.specs.Rounds.{AllMarks, Place, Applies, Tells, Passes, outside}

module _ (rules : List (Rule ℕ)) (n : ℕ) (r : Rule ℕ) (at : Place rules n r) where
  in_body : (k : ℕ) → body_of rules n k ≡ slice_get (r.required ++ r.barred) k
  in_body k = ap (λ o. body_at o k) at

  met_from_marks : (S : Set ℕ) → AllMarks rules n 0 (length r.required) S → Met S r
  met_from_marks S all =
      all_from_nth (λ a. a ∈ S) r.required (λ k x l e. all k x (omega arith) l (in_body k ∙ nth_left r.required r.barred k l ∙ e))

  marks_from_met : (S : Set ℕ) → Met S r → AllMarks rules n 0 (length r.required) S
  marks_from_met S met k m from l e =
      all_nth (λ a. a ∈ S) r.required met k m (sym (nth_left r.required r.barred k l) ∙ sym (in_body k) ∙ e)

  stays_from_marks : (M : Set ℕ) → AllMarks rules n (length r.required) (length r.required + length r.barred) (outside M) → Stays M r
  stays_from_marks M all =
      all_from_nth
      (λ b. M b ≡ false)
      r.barred
      (λ k x l e. not-true (M x) (all (length r.required + k) x (omega arith) (omega arith) (in_body (length r.required + k) ∙ nth_right r.required r.barred k ∙ e)))

  marks_from_stays : (M : Set ℕ) → Stays M r → AllMarks rules n (length r.required) (length r.required + length r.barred) (outside M)
  marks_from_stays M stays k m from l e =
      let past : length r.required + (k - length r.required) ≡ k = omega arith in
      ap not
      (all_nth
      (λ b. M b ≡ false)
      r.barred
      stays
      (k - length r.required)
      m
      (sym (nth_right r.required r.barred (k - length r.required)) ∙ ap (slice_get (r.required ++ r.barred)) past ∙ sym (in_body k) ∙ e))

module _ (rules : List (Rule ℕ)) (M S : Set ℕ) (n q b : ℕ) (told : counts_of rules n ≡ Some (q, b)) where
  pub applies_from_marks : AllMarks rules n 0 q S → AllMarks rules n q (q + b) (outside M) → Applies rules M S n
  applies_from_marks met stays =
      let found = rule_counted rules n q b told in
      let r = found.0 in (
        r,
        found.1,
        stays_from_marks rules n r found.1 M (rw (found.2, found.3) stays),
        met_from_marks rules n r found.1 S (rw found.2 met),
      )

  pub marks_from_applies : Applies rules M S n → AllMarks rules n 0 q S × AllMarks rules n q (q + b) (outside M)
  marks_from_applies (r, at, stays, met) =
      let same : Some (length r.required, length r.barred) ≡ Some (q, b) = sym (ap (option_map (λ (x : Rule ℕ). (length x.required, length x.barred))) at) ∙ told in
      let many : length r.required ≡ q = ap (λ p. p.0) (same_Some _ _ same) in
      let barring : length r.barred ≡ b = ap (λ p. p.1) (same_Some _ _ same) in (
        subst (λ x. AllMarks rules n 0 x S) many (marks_from_met rules n r at S met),
        rw many at (rw barring at (marks_from_stays rules n r at M stays)),
      )

-- what a test says of the mark that was told, if there is one
pub passes_from_asked : (says : Mark → Bool → Type 0) (o : Option Mark) (w : Option ℕ) (b : Bool)
    → numbered o ≡ w
    → MatchOption o (b ≡ true) (λ x. says x b)
    → Passes says w b
passes_from_asked says None w b is told = subst (λ v. Passes says v b) is told
passes_from_asked says (Some x) w b is told = subst (λ v. Passes says v b) is (x, refl, told)

pub decides_passing : (says : Mark → Bool → Type 0) (S : Set ℕ) → Tells says S
    → (w : Option ℕ) (b : Bool) → Passes says w b → Decides b ((m : ℕ) → w ≡ Some m → m ∈ S)
decides_passing says S tells None b told = ((λ _ m at. absurd (none-some m at)), λ _. told)
decides_passing says S tells (Some y) b (x, is, told) =
    let known : b ≡ S y = tells x b told ∙ ap S is in
    ((λ yes m at. ap S (sym (same_Some y m at)) ∙ sym known ∙ yes), λ so. known ∙ so y refl)
