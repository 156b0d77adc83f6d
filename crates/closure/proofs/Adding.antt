-- What is added rule by rule. Assumes nothing.
use Rattle.std.proofs.Common.{◌≡◌, ℕ, ◌+◌, ◌⊎◌, List, length, Some, sym, ap, ◌∙◌, subst, inl, inr, ⊎_elim, arith}
use Rattle.std.specs.List.{ContainsAt}
use Rattle.std.proofs.iter.runs.Lists.{same_Some}
use Rattle.std.proofs.lemmas.Option.{slice_get-get_or}
use Rattle.std.proofs.lemmas.Bool.{cases_eq}
use Rattle.marks.specs.Sets.{Set, ◌∈◌}
use Rattle.norms.specs.Programs.{Rule, Program, Brings}
use Rattle.norms.specs.Rules.{holds_rule, breach_rule}
use Rattle.closure.specs.Rounds.{Place, Only, Below, FrameOf, Adds}

module _ (M S : Set ℕ) where
  -- the rules of P and then those of Q
  pub adds_both : (P Q : Program ℕ) (T U V : Set ℕ) → Adds P M S T U → Adds Q M S U V → Adds (λ r. P r ⊎ Q r) M S T V
  adds_both P Q T U V first second m = (came, ⊎_elim (λ in-T. (second m).1 (inl ((first m).1 (inl in-T)))) brought)
    where
      came : m ∈ V → (m ∈ T) ⊎ Brings (λ r. P r ⊎ Q r) M S m
      came in-V =
          ⊎_elim
          (λ in-U. ⊎_elim inl (λ (r, in-P, stays, met, head). inr (r, inl in-P, stays, met, head)) ((first m).0 in-U))
          (λ (r, in-Q, stays, met, head). inr (r, inr in-Q, stays, met, head))
          ((second m).0 in-V)

      brought : Brings (λ r. P r ⊎ Q r) M S m → m ∈ V
      brought (r, in_either, stays, met, head) =
          ⊎_elim
          (λ in-P. (second m).1 (inl ((first m).1 (inr (r, in-P, stays, met, head)))))
          (λ in-Q. (second m).1 (inr (r, in-Q, stays, met, head)))
          in_either

  -- programs of the same rules
  pub adds_like : (P Q : Program ℕ) (T U : Set ℕ) → ((r : Rule ℕ) → P r → Q r) → ((r : Rule ℕ) → Q r → P r) → Adds P M S T U → Adds Q M S T U
  adds_like P Q T U to back adds m = (
    (λ in-U. ⊎_elim inl (λ (r, in-P, stays, met, head). inr (r, to r in-P, stays, met, head)) ((adds m).0 in-U)),
    ⊎_elim (λ in-T. (adds m).1 (inl in-T)) (λ (r, in-Q, stays, met, head). (adds m).1 (inr (r, back r in-Q, stays, met, head))),
  )

  pub adds_below_more : (Q : ℕ → Program ℕ) (n : ℕ) (T U V : Set ℕ) → Adds (Below n Q) M S T U → Adds (Q n) M S U V → Adds (Below (n + 1) Q) M S T V
  adds_below_more Q n T U V before here =
      adds_like
      (λ r. Below n Q r ⊎ Q n r)
      (Below (n + 1) Q)
      T
      V
      (λ r. ⊎_elim (λ (k, below, in-Q). (k, omega arith, in-Q)) (λ in-Q. (n, omega arith, in-Q)))
      (λ r (k, below, in-Q). ⊎_elim (λ same. inr (subst (λ x. Q x r) same in-Q)) (λ apart. inl (k, omega arith, in-Q)) (cases_eq k n))
      (adds_both (Below n Q) (Q n) T U V before here)

-- the rules of a list are those at its places
pub place_has : (rules : List (Rule ℕ)) (r : Rule ℕ) → Below (length rules) (Place rules) r → ContainsAt rules r
place_has rules r (k, below, at) = (k, below, λ d. same_Some _ _ (sym (slice_get-get_or rules k d below) ∙ at))

pub has_place : (rules : List (Rule ℕ)) (r : Rule ℕ) → ContainsAt rules r → Below (length rules) (Place rules) r
has_place rules r (k, below, at) = (k, below, slice_get-get_or rules k r below ∙ ap Some (at r))

pub adds_all_places : (M S : Set ℕ) (rules : List (Rule ℕ)) (n : ℕ) (T U : Set ℕ) → n ≡ length rules → Adds (Below n (Place rules)) M S T U → Adds (ContainsAt rules) M S T U
adds_all_places M S rules n T U all adds =
    adds_like M S (Below (length rules) (Place rules)) (ContainsAt rules) T U (place_has rules) (has_place rules) (subst (λ k. Adds (Below k (Place rules)) M S T U) all adds)

-- the two frame rules of one more instance
pub adds_frame_more : (M S : Set ℕ) (n i : ℕ) (T U V W : Set ℕ)
    → i ≡ n
    → Adds (Below n FrameOf) M S T U
    → Adds (Only (holds_rule i)) M S U V
    → Adds (Only (breach_rule i)) M S V W
    → Adds (Below (n + 1) FrameOf) M S T W
adds_frame_more M S n i T U V W same before first second =
    adds_below_more M S FrameOf n T U W before
    (subst (λ k. Adds (FrameOf k) M S U W) same (adds_both M S (Only (holds_rule i)) (Only (breach_rule i)) U V W first second))
