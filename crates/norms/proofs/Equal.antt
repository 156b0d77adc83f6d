-- The laws of equal rules. Assumes nothing.
use Rattle.std.proofs.Common.{◌≡◌, ℕ, ◌-◌, false, eqb, ◌⊎◌, List, [], ◌∷◌, ◌++◌, length, sym, refl, ◌∙◌, subst, inl, inr, ⊎_elim, arith}
use Rattle.std.specs.List.{ContainsAt, AllByRecursion}
use Rattle.std.proofs.lemmas.List.{length-append, get_or_append_left, get_or-append_right}
use Rattle.std.proofs.ByRecursion.{has_append_left, has_append_right}
use Rattle.std.proofs.lemmas.Bool.{cases_lt, eqb-true, eq-eqb, or_left, or_right, or_cases, false≢true}
use Rattle.marks.specs.Sets.{Set, ◌∈◌, among}
use Rattle.norms.specs.Programs.{Rule, Program, Closed, Smallest, Brings, Round, Rounds, none, more, Depth}
use Rattle.norms.specs.Rules.{Norms}
use Rattle.norms.specs.Steps.{given}
use Rattle.norms.specs.Equal.{Like, Covers, Equal, Equivalence, Joined, Alike}

-- what holds of all elements, by their set
pub all_among : (P : ℕ → Type 0) (xs : List ℕ) → AllByRecursion P xs → (m : ℕ) → m ∈ among xs → P m
all_among P [] each m in-xs = absurd (false≢true in-xs)
all_among P (x ∷ xs) each m in-xs =
    ⊎_elim
    (λ same. subst P (sym (eqb-true m x same)) each.0)
    (λ later. all_among P xs each.1 m later)
    (or_cases (eqb m x) (among xs m) in-xs)

pub among_all : (P : ℕ → Type 0) (xs : List ℕ) → ((m : ℕ) → m ∈ among xs → P m) → AllByRecursion P xs
among_all P [] each = tt
among_all P (x ∷ xs) each =
    (each x (or_left (eqb x x) (among xs x) (eq-eqb x x refl)), among_all P xs (λ m later. each m (or_right (eqb m x) (among xs m) later)))

-- lists of the same elements
all_alike : (P : ℕ → Type 0) (xs ys : List ℕ) → among xs ≡ among ys → AllByRecursion P xs → AllByRecursion P ys
all_alike P xs ys same each = among_all P ys (λ m in_ys. all_among P xs each m (subst (λ S. m ∈ S) (sym same) in_ys))

pub like_itself : (r : Rule ℕ) → Like r r
like_itself r = record { head = refl; required = refl; barred = refl }

like_through : (r s t : Rule ℕ) → Like r s → Like s t → Like r t
like_through r s t first second =
    record { head = first.head ∙ second.head; required = first.required ∙ second.required; barred = first.barred ∙ second.barred }

-- each rule of P has its like in Q
abbrev Within : Program ℕ → Program ℕ → Type 0
Within P Q = (r : Rule ℕ) → P r → (s : Rule ℕ) × Q s × Like r s

module _ (P Q : Program ℕ) (within : Within P Q) where
  -- what Q brings about includes what P does
  closed_like : (M S : Set ℕ) → Closed Q M S → Closed P M S
  closed_like M S closed r in-P stays met =
      let found = within r in-P in
      let s = found.0 in
      let like = found.2 in
      subst (λ m. m ∈ S) (sym like.head)
      (closed s found.1 (all_alike (λ b. M b ≡ false) r.barred s.barred like.barred stays) (all_alike (λ a. a ∈ S) r.required s.required like.required met))

  brings_like : (M S : Set ℕ) (m : ℕ) → Brings P M S m → Brings Q M S m
  brings_like M S m (r, in-P, stays, met, head) =
      let found = within r in-P in
      let s = found.0 in
      let like = found.2 in (
        s,
        found.1,
        all_alike (λ b. M b ≡ false) r.barred s.barred like.barred stays,
        all_alike (λ a. a ∈ S) r.required s.required like.required met,
        sym like.head ∙ head,
      )

-- programs whose rules are like each other
module _ (P Q : Program ℕ) (to : Within P Q) (back : Within Q P) where
  pub smallest_like : (M G L : Set ℕ) → Smallest P M G L → Smallest Q M G L
  smallest_like M G L smallest =
      record {
        given = smallest.given;
        closed = closed_like Q P back M L smallest.closed;
        least = λ S inside closed. smallest.least S inside (closed_like P Q to M S closed);
      }

  round_like : (M S R : Set ℕ) → Round P M S R → Round Q M S R
  round_like M S R round m = (
    (λ in-R. ⊎_elim inl (λ brought. inr (brings_like P Q to M S m brought)) ((round m).0 in-R)),
    ⊎_elim (λ in-S. (round m).1 (inl in-S)) (λ brought. (round m).1 (inr (brings_like Q P back M S m brought))),
  )

  rounds_like : (M G : Set ℕ) {n : ℕ} {S : Set ℕ} → Rounds P M G n S → Rounds Q M G n S
  rounds_like M G none = none
  rounds_like M G (more {S = S} {R = R} before round grows) = more (rounds_like M G before) (round_like M S R round) grows

  pub depth_like : (M G L : Set ℕ) (d : ℕ) → Depth P M G d L → Depth Q M G d L
  depth_like M G L d depth = record { rounds = rounds_like M G depth.rounds; rests = round_like M L L depth.rests }

-- the rules of books beside the same further rules
beside : (a b : List (Rule ℕ)) → ((r : Rule ℕ) → ContainsAt a r → Covers b r) → Within (Norms a) (Norms b)
beside a b covers r =
    ⊎_elim
    (λ in-a. let found = covers r in-a in (found.0, inl found.1, found.2))
    (λ frame. (r, inr frame, like_itself r))

pub alike : (a b : List (Rule ℕ)) → Equal a b → Alike a b
alike a b equal =
    let to = beside a b equal.to in
    let back = beside b a equal.from in
    record {
      stable = λ steps said M. (smallest_like (Norms a) (Norms b) to back M (given steps said) M, smallest_like (Norms b) (Norms a) back to M (given steps said) M);
      smallest = λ M G L. (smallest_like (Norms a) (Norms b) to back M G L, smallest_like (Norms b) (Norms a) back to M G L);
      depth = λ M G L d. (depth_like (Norms a) (Norms b) to back M G L d, depth_like (Norms b) (Norms a) back to M G L d);
    }

-- each rule of a list has its like in it
itself_covers : (a : List (Rule ℕ)) (r : Rule ℕ) → ContainsAt a r → Covers a r
itself_covers a r in-a = (r, in-a, like_itself r)

through_covers : (b c : List (Rule ℕ)) → ((r : Rule ℕ) → ContainsAt b r → Covers c r) → (r : Rule ℕ) → Covers b r → Covers c r
through_covers b c covers r (s, in_b, like) = let found = covers s in_b in (found.0, found.1, like_through r s found.0 like found.2)

pub equivalence : Equivalence
equivalence =
    record {
      itself = λ a. record { to = itself_covers a; from = itself_covers a };
      turned = λ a b equal. record { to = equal.from; from = equal.to };
      through = λ a b c first second.
          record {
            to = λ r in-a. through_covers b c second.to r (first.to r in-a);
            from = λ r in_c. through_covers b a first.from r (second.from r in_c);
          };
    }

-- what stands in either of two lists
has_either : (a b : List (Rule ℕ)) (r : Rule ℕ) → ContainsAt (a ++ b) r → ContainsAt a r ⊎ ContainsAt b r
has_either a b r (k, inside, at) =
    ⊎_elim
    (λ below. inl (k, below, λ d. sym (get_or_append_left a b d k below) ∙ at d))
    (λ past. inr (k - length a, omega (arith, length-append a b), λ d. sym (get_or-append_right a b (length a) k d refl past) ∙ at d))
    (cases_lt k (length a))

other_order : (a b : List (Rule ℕ)) (r : Rule ℕ) → ContainsAt (a ++ b) r → Covers (b ++ a) r
other_order a b r in_both =
    ⊎_elim
    (λ in-a. (r, has_append_right b a r in-a, like_itself r))
    (λ in_b. (r, has_append_left b a r in_b, like_itself r))
    (has_either a b r in_both)

pub joined : Joined
joined a b = record { to = other_order a b; from = other_order b a }
