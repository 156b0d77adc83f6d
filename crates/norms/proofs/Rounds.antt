-- Rounds lead to the smallest closed set. Assumes nothing.
use Rattle.std.proofs.Common.{ℕ, refl, subst, inl, inr, ⊎_elim}
use Rattle.std.proofs.ByRecursion.{All-weaker}
use Rattle.marks.specs.Sets.{Set, ◌∈◌, ◌⊆◌}
use Rattle.norms.specs.Programs.{Program, Closed, Smallest, Brings, Round, Rounds, none, more, Depth}

module _ {A : Type 0} (P : Program A) (M : Set A) where
  -- a round keeps what stood
  pub round_keeps : (S R : Set A) → Round P M S R → S ⊆ R
  round_keeps S R round m in-S = (round m).1 (inl in-S)

  -- a closed set has what a round brings from a part of it
  pub round_inside : (S R C : Set A) → Round P M S R → Closed P M C → S ⊆ C → R ⊆ C
  round_inside S R C round closed inside m in-R = ⊎_elim (inside m) brought ((round m).0 in-R)
    where
      brought : Brings P M S m → m ∈ C
      brought (r, in-P, stays, met, head) =
          subst (λ a. a ∈ C) head (closed r in-P stays (All-weaker (λ a. a ∈ S) (λ a. a ∈ C) inside r.required met))

  -- a round that adds nothing leads to where it began
  pub round_rests : (S R : Set A) → Round P M S R → R ⊆ S → Round P M S S
  round_rests S R round back m = (inl, λ come. back m ((round m).1 come))

  -- where a round adds nothing, the set is closed
  pub rest_closed : (L : Set A) → Round P M L L → Closed P M L
  rest_closed L rests r in-P stays met = (rests r.head).1 (inr (r, in-P, stays, met, refl))

module _ {A : Type 0} (P : Program A) (M G : Set A) where
  pub rounds_keep : {n : ℕ} {S : Set A} → Rounds P M G n S → G ⊆ S
  rounds_keep none m in-G = in-G
  rounds_keep (more {S = S} {R = R} before round grows) m in-G = round_keeps P M S R round m (rounds_keep before m in-G)

  pub rounds_inside : {n : ℕ} {S : Set A} (C : Set A) → Closed P M C → G ⊆ C → Rounds P M G n S → S ⊆ C
  rounds_inside C closed inside none = inside
  rounds_inside C closed inside (more {S = S} {R = R} before round grows) =
      round_inside P M S R C round closed (rounds_inside C closed inside before)

  pub depth_smallest : {d : ℕ} {L : Set A} → Depth P M G d L → Smallest P M G L
  depth_smallest {L = L} reached =
      record {
        given = rounds_keep reached.rounds;
        closed = rest_closed P M L reached.rests;
        least = λ C inside closed. rounds_inside C closed inside reached.rounds;
      }
