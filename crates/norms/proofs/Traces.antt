-- All steps together are stable exactly when each step is. Assumes nothing.
use Rattle.std.proofs.Common.{◌≡◌, ℕ, zero, suc, ◌<◌, ◌≤◌, true, false, not, ◌&&◌, ◌||◌, eqb, List, [], ◌∷◌, map, length, unwrap_or, sym, refl, ap, ◌∙◌, subst, inl, inr, ⊎_elim, arith}
use Rattle.std.specs.List.{AllByRecursion}
use Rattle.std.proofs.ByRecursion.{All-map, All-weaker}
use Rattle.std.proofs.lemmas.Option.{slice_get_past}
use Rattle.std.proofs.lemmas.Bool.{false≢true, and_parts, and_from, or_cases, or_left, or_right, cases_lt, cases_eq, eq-eqb, ne_eqb}
use Rattle.marks.specs.Sets.{Set, ◌∈◌, ◌⊆◌, nothing}
use Rattle.norms.specs.Programs.{Rule, Program, Stays, Met, Closed, Stable}
use Rattle.norms.specs.Traces.{Hand, of_step, at, dated, hands, Together, Hands, given_at, EachStable}

all_unmap : {X Y : Type 0} (Q : Y → Type 0) (f : X → Y) (xs : List X) → AllByRecursion Q (map f xs) → AllByRecursion (λ x. Q (f x)) xs
all_unmap Q f [] h = tt
all_unmap Q f (x ∷ xs) h = (h.0, all_unmap Q f xs h.1)

-- a step with a mark is one of the steps
pub in_range : {A : Type 0} (xs : List (Set A)) (k : ℕ) (m : A) → of_step xs (suc k) m ≡ true → k < length xs
in_range xs k m e =
    ⊎_elim (λ below. below)
    (λ past. absurd (false≢true (sym (ap (λ o. unwrap_or o nothing m) (slice_get_past xs k past)) ∙ e)))
    (cases_lt k (length xs))

module _ {A : Type 0} (P : Program A) (H : Hand A) (hand : Set A → Set A)
    (said sets : List (Set A)) (as_many : length said ≡ length sets) (hand_is : (k : ℕ) → Hands H hand (of_step sets k)) where
  -- the reduct by all steps together, at the rules of one step
  stays_step : (s : ℕ) (q : Rule A) → Stays (at sets) (dated s q) → Stays (of_step sets s) q
  stays_step s q h = all_unmap (λ b. at sets b ≡ false) (λ a. (s, a)) q.barred h

  module _ (each : EachStable P hand said sets) where
    given_together : at said ⊆ at sets
    given_together d e = go d.0 d.1 e
      where
        go : (s : ℕ) (m : A) → of_step said s m ≡ true → of_step sets s m ≡ true
        go zero m e = absurd (false≢true e)
        go (suc k) m e =
            let below : k < length sets = omega (arith, in_range said k m e) in
            (each k below).given m (or_left (of_step said (suc k) m) (hand (of_step sets k) m) e)

    closed_step : (s : ℕ) → 1 ≤ s → s ≤ length sets → (q : Rule A) → P q → Stays (at sets) (dated s q) → Met (at sets) (dated s q) → (s, q.head) ∈ at sets
    closed_step zero low high q p stays met = absurd (omega arith)
    closed_step (suc k) low high q p stays met =
        (each k high).closed q p (stays_step (suc k) q stays) (all_unmap (λ a. a ∈ at sets) (λ a. (suc k, a)) q.required met)

    closed_hand : (s : ℕ) → s < length sets → (c a e : A) → H c a e → (s, a) ∈ at sets → at sets (s, e) ≡ false → (suc s, c) ∈ at sets
    closed_hand s high c a e h has lacks =
        (each s high).given c (or_right (of_step said (suc s) c) (hand (of_step sets s) c) ((hand_is s c).1 (a, e, h, has, lacks)))

    closed_together : Closed (Together P H (length sets)) (at sets) (at sets)
    closed_together r (inl (s, low, high, q, p, e)) =
        subst (λ x. Stays (at sets) x → Met (at sets) x → x.head ∈ at sets) (sym e) (closed_step s low high q p)
    closed_together r (inr (s, low, high, c, a, x, h, e)) =
        subst (λ y. Stays (at sets) y → Met (at sets) y → y.head ∈ at sets) (sym e) (λ stays met. closed_hand s high c a x h met.0 stays.0)

    least_together : (S : Set (ℕ × A)) → at said ⊆ S → Closed (Together P H (length sets)) (at sets) S → at sets ⊆ S
    least_together S given closed d = go d.0 d.1
      where
        hand_in : (k : ℕ) → k < length sets → ((a : A) → of_step sets k a ≡ true → S (k, a) ≡ true) → (c : A) → c ∈ hand (of_step sets k) → S (suc k, c) ≡ true
        hand_in zero high ih c h = let w = (hand_is 0 c).0 h in absurd (false≢true w.3)
        hand_in (suc j) high ih c h =
            let w = (hand_is (suc j) c).0 h in
            closed (hands (suc j) c w.0 w.1) (inr (suc j, omega arith, high, c, w.0, w.1, w.2, refl)) (w.4, tt) (ih w.0 w.3, tt)

        go : (s : ℕ) (m : A) → of_step sets s m ≡ true → S (s, m) ≡ true
        go zero m e = absurd (false≢true e)
        go (suc k) m e =
            let below = in_range sets k m e in
            (each k below).least (λ x. S (suc k, x))
            (λ x g. ⊎_elim (λ l. given (suc k, x) l) (λ h. hand_in k below (go k) x h) (or_cases (of_step said (suc k) x) (hand (of_step sets k) x) g))
            (λ q p stays met.
            closed (dated (suc k) q) (inl (suc k, omega arith, below, q, p, refl))
            (All-map (λ b. at sets b ≡ false) (λ a. (suc k, a)) q.barred stays)
            (All-map (λ b. b ∈ S) (λ a. (suc k, a)) q.required met))
            m e

    pub together_from_each : Stable (Together P H (length sets)) (at said) (at sets)
    together_from_each = record { given = given_together; closed = closed_together; least = least_together }

  module _ (together : Stable (Together P H (length sets)) (at said) (at sets)) where
    -- a dated mark of another step than k + 1, or one of that step in S
    kept : ℕ → Set A → Set (ℕ × A)
    kept k S d = at sets d && (not (eqb d.0 (suc k)) || S d.1)

    kept_in : (k : ℕ) (S : Set A) (d : ℕ × A) → d ∈ kept k S → d ∈ at sets
    unfolding kept
    kept_in k S d e = (and_parts (at sets d) (not (eqb d.0 (suc k)) || S d.1) e).0

    kept_here : (k : ℕ) (S : Set A) (s : ℕ) (m : A) → s ≡ suc k → (s, m) ∈ kept k S → m ∈ S
    unfolding kept
    kept_here k S s m here e =
        ⊎_elim (λ apart. absurd (false≢true (sym (ap not (eq-eqb s (suc k) here)) ∙ apart))) (λ i. i)
        (or_cases (not (eqb s (suc k))) (S m) (and_parts (at sets (s, m)) (not (eqb s (suc k)) || S m) e).1)

    keep : (k : ℕ) (S : Set A) (s : ℕ) (m : A) → (s, m) ∈ at sets → (s ≡ suc k → m ∈ S) → (s, m) ∈ kept k S
    unfolding kept
    keep k S s m e f =
        and_from (at sets (s, m)) (not (eqb s (suc k)) || S m) e
        (⊎_elim
        (λ here. or_right (not (eqb s (suc k))) (S m) (f here))
        (λ apart. or_left (not (eqb s (suc k))) (S m) (ap not (ne_eqb s (suc k) apart)))
        (cases_eq s (suc k)))

    given_step : (k : ℕ) → k < length sets → given_at hand said sets k ⊆ of_step sets (suc k)
    given_step k below m e =
        ⊎_elim (λ l. together.given (suc k, m) l) (λ h. handed k below m h) (or_cases (of_step said (suc k) m) (hand (of_step sets k) m) e)
      where
        handed : (k : ℕ) → k < length sets → (m : A) → m ∈ hand (of_step sets k) → of_step sets (suc k) m ≡ true
        handed zero below m h = let w = (hand_is 0 m).0 h in absurd (false≢true w.3)
        handed (suc j) below m h =
            let w = (hand_is (suc j) m).0 h in
            together.closed (hands (suc j) m w.0 w.1) (inr (suc j, omega arith, below, m, w.0, w.1, w.2, refl)) (w.4, tt) (w.3, tt)

    closed_at : (k : ℕ) → k < length sets → Closed P (of_step sets (suc k)) (of_step sets (suc k))
    closed_at k below q p stays met =
        together.closed (dated (suc k) q) (inl (suc k, omega arith, below, q, p, refl))
        (All-map (λ b. at sets b ≡ false) (λ a. (suc k, a)) q.barred stays)
        (All-map (λ b. b ∈ at sets) (λ a. (suc k, a)) q.required met)

    module _ (k : ℕ) (below : k < length sets) (S : Set A) (given : given_at hand said sets k ⊆ S) (closed : Closed P (of_step sets (suc k)) S) where
      kept_given : at said ⊆ kept k S
      kept_given d e =
          keep k S d.0 d.1 (together.given d e)
          (λ here. given d.1 (or_left (of_step said (suc k) d.1) (hand (of_step sets k) d.1) (subst (λ s. of_step said s d.1 ≡ true) here e)))

      kept_step : (s : ℕ) → 1 ≤ s → s ≤ length sets → (q : Rule A) → P q → Stays (at sets) (dated s q) → Met (kept k S) (dated s q) → (s, q.head) ∈ kept k S
      kept_step s low high q p stays met =
          keep k S s q.head
          (together.closed (dated s q) (inl (s, low, high, q, p, refl)) stays (All-weaker (λ d. d ∈ kept k S) (λ d. d ∈ at sets) (kept_in k S) (map (λ a. (s, a)) q.required) met))
          (λ here.
          closed q p
          (subst (λ t. Stays (of_step sets t) q) here (stays_step s q stays))
          (All-weaker (λ a. (s, a) ∈ kept k S) (λ a. a ∈ S) (λ a i. kept_here k S s a here i) q.required (all_unmap (λ d. d ∈ kept k S) (λ a. (s, a)) q.required met)))

      kept_hand : (s : ℕ) → 1 ≤ s → s < length sets → (c a e : A) → H c a e → (s, a) ∈ kept k S → at sets (s, e) ≡ false → (suc s, c) ∈ kept k S
      kept_hand s low high c a e h has lacks =
          let in_all = kept_in k S (s, a) has in
          keep k S (suc s) c
          (together.closed (hands s c a e) (inr (s, low, high, c, a, e, h, refl)) (lacks, tt) (in_all, tt))
          (λ here.
          let same : s ≡ k = omega arith in
          given c
          (or_right (of_step said (suc k) c) (hand (of_step sets k) c)
          (subst (λ t. c ∈ hand (of_step sets t)) same ((hand_is s c).1 (a, e, h, in_all, lacks)))))

      kept_closed : Closed (Together P H (length sets)) (at sets) (kept k S)
      kept_closed r (inl (s, low, high, q, p, e)) =
          subst (λ x. Stays (at sets) x → Met (kept k S) x → x.head ∈ kept k S) (sym e) (kept_step s low high q p)
      kept_closed r (inr (s, low, high, c, a, x, h, e)) =
          subst (λ y. Stays (at sets) y → Met (kept k S) y → y.head ∈ kept k S) (sym e) (λ stays met. kept_hand s low high c a x h met.0 stays.0)

      least_step : of_step sets (suc k) ⊆ S
      least_step m e = kept_here k S (suc k) m refl (together.least (kept k S) kept_given kept_closed (suc k, m) e)

    pub each_from_together : EachStable P hand said sets
    each_from_together k below = record { given = given_step k below; closed = closed_at k below; least = least_step k below }
