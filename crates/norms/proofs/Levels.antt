-- Rules that admit levels have one stable model over the same given marks, and one trace. Assumes nothing.
use Rattle.std.proofs.Common.{◌≡◌, ℕ, zero, suc, ◌<◌, ◌≤◌, false, ◌&&◌, ◌||◌, ltb, List, [], ◌∷◌, length, unwrap_or, sym, refl, ap, ◌∙◌, subst, ⊎_elim, arith}
use mathlib.Core.Path.{fun_ext}
use Rattle.std.specs.List.{AllByRecursion}
use Rattle.std.proofs.ByRecursion.{All-weaker}
use Rattle.std.proofs.lemmas.Option.{slice_get_past}
use Rattle.std.proofs.lemmas.Bool.{false≢true, and_parts, and_from, or_cases, or_left, or_right, cases_lt, lt-ltb, le-ltb}
use Rattle.marks.specs.Sets.{Set, ◌∈◌, ◌⊆◌, nothing}
use Rattle.norms.specs.Programs.{Program, Closed, Stable}
use Rattle.norms.specs.Levels.{Levels}
use Rattle.norms.specs.Traces.{of_step, at, given_at, EachStable}
use Rattle.norms.proofs.Models.{same_bool}

all_both : {X : Type 0} (P Q R : X → Type 0) → ((x : X) → P x → Q x → R x) → (xs : List X) → AllByRecursion P xs → AllByRecursion Q xs → AllByRecursion R xs
all_both P Q R f [] p q = tt
all_both P Q R f (x ∷ xs) p q = (f x p.0 q.0, all_both P Q R f xs p.1 q.1)

module _ {A : Type 0} (P : Program A) (level : A → ℕ) (levels : Levels P level) (G : Set A) where
  -- two stable models that agree below level l: what the first has at level l, the second has
  module _ (M N : Set A) (first : Stable P G M) (second : Stable P G N) (l : ℕ) (agree : (b : A) → level b < l → M b ≡ N b) where
    shared : Set A
    shared m = M m && (N m || ltb l (level m))

    in_first : shared ⊆ M
    unfolding shared
    in_first m e = (and_parts (M m) (N m || ltb l (level m)) e).0

    in_second : (m : A) → level m ≤ l → m ∈ shared → m ∈ N
    unfolding shared
    in_second m low e =
        ⊎_elim (λ i. i) (λ high. absurd (false≢true (sym (le-ltb l (level m) low) ∙ high)))
        (or_cases (N m) (ltb l (level m)) (and_parts (M m) (N m || ltb l (level m)) e).1)

    share : (m : A) → m ∈ M → (level m ≤ l → m ∈ N) → m ∈ shared
    unfolding shared
    share m i f =
        and_from (M m) (N m || ltb l (level m)) i
        (⊎_elim (λ high. or_right (N m) (ltb l (level m)) (lt-ltb l (level m) high)) (λ low. or_left (N m) (ltb l (level m)) (f low)) (cases_lt l (level m)))

    closed_shared : Closed P M shared
    closed_shared r p stays met =
        share r.head
        (first.closed r p stays (All-weaker (λ a. a ∈ shared) (λ a. a ∈ M) in_first r.required met))
        (λ low.
        let bounds = levels r p in
        second.closed r p
        (all_both (λ b. M b ≡ false) (λ b. level b < level r.head) (λ b. N b ≡ false)
        (λ b out under. sym (agree b (omega arith)) ∙ out) r.barred stays bounds.1)
        (all_both (λ a. a ∈ shared) (λ a. level a ≤ level r.head) (λ a. a ∈ N)
        (λ a i under. in_second a (omega arith) i) r.required met bounds.0))

    next_level : (m : A) → level m ≤ l → m ∈ M → m ∈ N
    next_level m low i = in_second m low (first.least shared (λ x g. share x (first.given x g) (λ _. second.given x g)) closed_shared m i)

  module _ (M N : Set A) (first : Stable P G M) (second : Stable P G N) where
    agree_below : (l : ℕ) (m : A) → level m < l → M m ≡ N m
    agree_below zero m h = absurd (omega arith)
    agree_below (suc l) m h =
        same_bool (M m) (N m)
        (next_level M N first second l (agree_below l) m (omega arith))
        (next_level N M second first l (λ b lower. sym (agree_below l b lower)) m (omega arith))

    pub one_model : M ≡ N
    one_model = fun_ext λ m. agree_below (suc (level m)) m (omega arith)

-- step by step along the trace
module _ {A : Type 0} (P : Program A) (level : A → ℕ) (levels : Levels P level) (hand : Set A → Set A) (said sets other : List (Set A))
    (as_many : length sets ≡ length other) (first : EachStable P hand said sets) (second : EachStable P hand said other) where
  past : (xs : List (Set A)) (k : ℕ) → length xs ≤ k → of_step xs (suc k) ≡ nothing
  past xs k h = ap (λ o. unwrap_or o nothing) (slice_get_past xs k h)

  same_step : (s : ℕ) → of_step sets s ≡ of_step other s
  same_step zero = refl
  same_step (suc k) =
      ⊎_elim
      (λ below.
      let given : given_at hand said sets k ≡ given_at hand said other k = ap {B = Set A} (λ M m. of_step said (suc k) m || hand M m) (same_step k) in
      one_model P level levels (given_at hand said other k) (of_step sets (suc k)) (of_step other (suc k))
      (subst (λ G. Stable P G (of_step sets (suc k))) given (first k below)) (second k (omega arith)))
      (λ beyond. past sets k beyond ∙ sym (past other k (omega arith)))
      (cases_lt k (length sets))

  pub one_trace : at sets ≡ at other
  one_trace = fun_ext λ d. ap (λ M. M d.1) (same_step d.0)
