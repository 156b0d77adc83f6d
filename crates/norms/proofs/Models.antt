-- The laws of smallest closed sets and stable models, of every program over every kind of mark. Assumes nothing.
use Rattle.std.proofs.Common.{◌≡◌, ℕ, ◌<◌, Bool, true, false, sym, refl, subst, ⊎_elim, arith}
use mathlib.Core.Path.{fun_ext}
use Rattle.std.proofs.ByRecursion.{All-weaker}
use Rattle.std.proofs.lemmas.Bool.{both_ways, cases_Bool, cases_eq, cases_order}
use Rattle.marks.specs.Sets.{Set, ◌∈◌, ◌⊆◌}
use Rattle.norms.specs.Programs.{Rule, Program, Stays, Smallest, Round, Rounds, none, more, Depth}
use Rattle.norms.specs.Laws.{OneSmallest, RoundsReach, OneDepth, StableIsSmallest, NoneInside}
use Rattle.norms.proofs.Rounds.{depth_smallest}

pub same_bool : (a b : Bool) → (a ≡ true → b ≡ true) → (b ≡ true → a ≡ true) → a ≡ b
same_bool true b to back = sym (to refl)
same_bool false true to back = back refl
same_bool false false to back = refl

-- sets with the same members are equal
pub same_set : {A : Type 0} (S R : Set A) → S ⊆ R → R ⊆ S → S ≡ R
same_set S R to back = fun_ext λ a. same_bool (S a) (R a) (to a) (back a)

module _ {A : Type 0} (P : Program A) where
  pub one_smallest : OneSmallest P
  one_smallest M G L K first second =
      same_set L K (first.least K second.given second.closed) (second.least L first.given first.closed)

  pub rounds_reach : RoundsReach P
  rounds_reach M G L d reached = depth_smallest P M G reached

  pub stable_is_smallest : StableIsSmallest P
  stable_is_smallest M G L smallest = (
    (λ stable. one_smallest M G L M smallest stable),
    (λ same. subst (λ S. Smallest P M G S) same smallest),
  )

  -- what a larger set does not bar, a smaller does not
  stays_less : (M N : Set A) → M ⊆ N → (r : Rule A) → Stays N r → Stays M r
  stays_less M N inside r = All-weaker (λ b. N b ≡ false) (λ b. M b ≡ false) lacks r.barred
    where
      lacks : (b : A) → N b ≡ false → M b ≡ false
      lacks b without = ⊎_elim (λ held. absurd (both_ways (N b) without (inside b held))) (λ free. free) (cases_Bool (M b))

  pub none_inside : NoneInside P
  none_inside G M N small large inside =
      same_set M N inside (large.least M small.given (λ r in-P stays met. small.closed r in-P (stays_less M N inside r stays) met))

  module _ (M G : Set A) where
    round_one : (S R Q : Set A) → Round P M S R → Round P M S Q → R ≡ Q
    round_one S R Q first second =
        same_set R Q (λ m in-R. (second m).1 ((first m).0 in-R)) (λ m in-Q. (first m).1 ((second m).0 in-Q))

    rounds_one : {n : ℕ} {S R : Set A} → Rounds P M G n S → Rounds P M G n R → S ≡ R
    rounds_one none none = refl
    rounds_one (more {S = S} {R = R} before round grows) (more {S = T} {R = Q} before' round' grows') =
        round_one S R Q round (subst (λ X. Round P M X Q) (sym (rounds_one before before')) round')

    -- no round that adds a mark comes after rest
    rest_last : {d e : ℕ} {L K : Set A} → Depth P M G d L → Rounds P M G e K → d < e → ⊥
    rest_last rest none below = omega arith
    rest_last {d} {L = L} rest (more {n = n} {S = S} {R = R} before round grows) below = ⊎_elim here (λ apart. rest_last rest before (omega arith)) (cases_eq d n)
      where
        here : d ≡ n → ⊥
        here same =
            let stood : L ≡ S = rounds_one (subst (λ k. Rounds P M G k L) same rest.rounds) before in
            let still : S ≡ R = round_one S S R (subst (λ X. Round P M X X) stood rest.rests) round in
            both_ways (S grows.0) grows.2 (subst (λ X. grows.0 ∈ X) (sym still) grows.1)

    same_depth : {d e : ℕ} {L K : Set A} → Depth P M G d L → Depth P M G e K → d ≡ e
    same_depth {d} {e} first second =
        ⊎_elim
        (λ same. same)
        (⊎_elim (λ below. absurd (rest_last first second.rounds below)) (λ above. absurd (rest_last second first.rounds above)))
        (cases_order d e)

  pub one_depth : OneDepth P
  one_depth M G L K d e first second =
      let same : d ≡ e = same_depth M G first second in
      (same, rounds_one M G (subst (λ k. Rounds P M G k L) same first.rounds) second.rounds)
