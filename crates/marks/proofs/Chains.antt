-- What `all` and `any` answer of the elements of a list and of the numbers of a range. Assumes nothing.
use Rattle.std.proofs.Common.{◌≡◌, ℕ, zero, suc, ◌+◌, ◌-◌, ◌<◌, ◌≤◌, Bool, true, false, List, [], ◌∷◌, length, get_or, Option, Decides, MatchBool, MatchOption, sym, refl, ap, ◌∙◌, subst, arith, add-one}
use Rattle.std.specs.declared.ops.Range.{Range}
use denote.Param.Members.{Mut}
use Rattle.std.specs.Fn.{Called}
use Rattle.std.specs.Iterator.{YieldsThen}
use Rattle.std.specs.Iterator.Adapters.{filter_map_source, filter_map_callee, filter_map_steps}
use Rattle.std.specs.List.{slice_get, filter_map, cons_option, range_with_len, ContainsAt, FoldsTo, HoldsAt, AllWithin}
use Rattle.std.proofs.iter.Yields.{nat_range_steps}
use Rattle.std.proofs.lemmas.Bool.{false≢true}
use Rattle.std.proofs.lemmas.Bool.Decides.{Decides-like, when_true}
use Rattle.std.proofs.lemmas.Iterator.{YieldsList, YieldsList-from_range, cases_from_all, cases_from_any}
use Rattle.std.proofs.lemmas.Iterator.Consumers.{YieldsList-at, YieldsList-from_filter_map}
use Rattle.std.proofs.lemmas.Iterator.Search.{true_from_All, true_from_Any}
use Rattle.std.proofs.lemmas.List.{get_or_default}
use Rattle.std.proofs.lemmas.List.FromFn.{length-range_with_len, get_or-range_with_len}

module _ {X : Type 0} (P : X → Type 0) where
  some_at : (xs : List X) (k : ℕ) → k < length xs → HoldsAt P xs k → (x : X) × ContainsAt xs x × P x
  some_at [] k inside at = absurd (omega arith)
  some_at (y ∷ xs) k inside at = (get_or (y ∷ xs) k y, (k, inside, λ d. get_or_default (y ∷ xs) k d y inside), at y)

module _ {S A B F : Type 0} {steps : S → Option A → S → Type 0} {v : A → B} {g : Mut F (A × Unit {0}) Bool} {s : S} {xs : List B} (P : B → Type 0) (u : S) (f : F) (r : Bool) where
  -- the answer of `all`
  pub all_decides : (ys : List A) × (o : Option A) × (j : F) × YieldsThen steps s ys o u × FoldsTo (λ p x q. Called g p (x, tt) true q) f ys j × MatchOption o (r ≡ true) (λ x. (r ≡ false) × ((h : F) × Called g j (x, tt) false h))
      → YieldsList steps v s xs
      → ((x : A) (b : Bool) (q : F) → Called g f (x, tt) b q → (q ≡ f) × Decides b (P (v x)))
      → Decides r ((x : B) → ContainsAt xs x → P x)
  all_decides ran road each =
      let told : MatchBool r (AllWithin P xs 0 (length xs)) ((k : ℕ) × (k < length xs) × HoldsAt (λ x. P x → ⊥) xs k) =
      cases_from_all u f r P (λ x. P x → ⊥) ran road (λ x q k. let h = each x true q k in (h.0, h.1.0 refl)) (λ x q k p. false≢true ((each x false q k).1.1 p)) in (
        (λ is x (k, inside, at). subst P (at x) (when_true _ _ is told k x (omega arith) inside)),
        λ so. true_from_All P (λ x. P x → ⊥) r xs (λ x p never. never p) told (λ k d inside. so (get_or xs k d) (k, inside, λ e. get_or_default xs k e d inside)),
      )

  -- the answer of `any`
  pub any_decides : (ys : List A) × (o : Option A) × (j : F) × YieldsThen steps s ys o u × FoldsTo (λ p x q. Called g p (x, tt) false q) f ys j × MatchOption o (r ≡ false) (λ x. (r ≡ true) × ((h : F) × Called g j (x, tt) true h))
      → YieldsList steps v s xs
      → ((x : A) (b : Bool) (q : F) → Called g f (x, tt) b q → (q ≡ f) × Decides b (P (v x)))
      → Decides r ((x : B) × ContainsAt xs x × P x)
  any_decides ran road each =
      let told : MatchBool r ((k : ℕ) × (k < length xs) × HoldsAt P xs k) (AllWithin (λ x. P x → ⊥) xs 0 (length xs)) =
      cases_from_any u f r P (λ x. P x → ⊥) ran road (λ x q k. (each x true q k).1.0 refl) (λ x q k. let h = each x false q k in (h.0, λ p. false≢true (h.1.1 p))) in (
        (λ is. let found = when_true _ _ is told in some_at P xs found.0 found.1 found.2),
        λ (x, (k, inside, at), p). true_from_Any P (λ x. P x → ⊥) r xs (λ x p never. never p) told x (k, inside, at x) p,
      )

-- the numbers of a range
in_range : (a b k : ℕ) → ContainsAt (range_with_len a (b - a)) k → (a ≤ k) × (k < b)
in_range a b k (i, inside, at) =
    let below : i < b - a = omega (arith, length-range_with_len a (b - a)) in
    let is : a + i ≡ k = sym (get_or-range_with_len a (b - a) i 0 below) ∙ at 0 in
    (omega arith, omega arith)

of_range : (a b k : ℕ) → a ≤ k → k < b → ContainsAt (range_with_len a (b - a)) k
of_range a b k from below =
    let inside : k - a < b - a = omega arith in
    let is : a + (k - a) ≡ k = omega arith in
    (k - a, omega (arith, length-range_with_len a (b - a)), λ d. get_or-range_with_len a (b - a) (k - a) d inside ∙ is)

module _ {F : Type 0} {g : Mut F (ℕ × Unit {0}) Bool} (P : ℕ → Type 0) (a b : ℕ) (s u : Range ℕ) (f : F) (r : Bool) (is : s ≡ record { start = a; end = b }) where
  pub all_in_range : (ys : List ℕ) × (o : Option ℕ) × (j : F) × YieldsThen nat_range_steps s ys o u × FoldsTo (λ p x q. Called g p (x, tt) true q) f ys j × MatchOption o (r ≡ true) (λ x. (r ≡ false) × ((h : F) × Called g j (x, tt) false h))
      → ((x : ℕ) (b : Bool) (q : F) → Called g f (x, tt) b q → (q ≡ f) × Decides b (P x))
      → Decides r ((k : ℕ) → a ≤ k → k < b → P k)
  all_in_range ran each =
      Decides-like r
      (λ all k from below. all k (of_range a b k from below))
      (λ all k inside. let within = in_range a b k inside in all k within.0 within.1)
      (all_decides P u f r ran (YieldsList-from_range a b (b - a) is refl) each)

  pub any_in_range : (ys : List ℕ) × (o : Option ℕ) × (j : F) × YieldsThen nat_range_steps s ys o u × FoldsTo (λ p x q. Called g p (x, tt) false q) f ys j × MatchOption o (r ≡ false) (λ x. (r ≡ true) × ((h : F) × Called g j (x, tt) true h))
      → ((x : ℕ) (b : Bool) (q : F) → Called g f (x, tt) b q → (q ≡ f) × Decides b (P x))
      → Decides r ((k : ℕ) × (a ≤ k) × (k < b) × P k)
  any_in_range ran each =
      Decides-like r
      (λ (k, inside, p). let within = in_range a b k inside in (k, within.0, within.1, p))
      (λ (k, from, below, p). (k, of_range a b k from below, p))
      (any_decides P u f r ran (YieldsList-from_range a b (b - a) is refl) each)

-- a list is what stands at its places
filter_map_next : {Y : Type 0} (h : ℕ → Option Y) (a n : ℕ) → filter_map h (range_with_len (suc a) n) ≡ filter_map (λ k. h (suc k)) (range_with_len a n)
filter_map_next h a zero = refl
filter_map_next h a (suc n) = rw (add-one, add-one) (ap (cons_option (h (suc a))) (filter_map_next h (suc a) n))

all_places : {X : Type 0} (xs : List X) → filter_map (slice_get xs) (range_with_len 0 (length xs)) ≡ xs
all_places [] = refl
all_places (x ∷ xs) = ap (λ l. x ∷ l) (filter_map_next (slice_get (x ∷ xs)) 0 (length xs) ∙ all_places xs)

-- a chain that asks for each element of a list by its number
pub YieldsList-from_places : {X F : Type 0} (g : Mut F (ℕ × Unit {0}) (Option X)) (xs : List X) (n : ℕ) {s : _} {f : F}
    → n ≡ length xs
    → ◌≡◌ {A = Range ℕ} (filter_map_source s) (record { start = 0; end = n })
    → filter_map_callee s ≡ f
    → ((x : ℕ) (r : Option X) (q : F) → Called g f (x, tt) r q → (q ≡ f) × (r ≡ slice_get xs x))
    → YieldsList (filter_map_steps nat_range_steps g) (λ y. y) s xs
YieldsList-from_places g xs n {s} {f} size source callee each =
    subst (YieldsList (filter_map_steps nat_range_steps g) (λ y. y) s) (all_places xs)
    (YieldsList-from_filter_map g (slice_get xs) (YieldsList-at source (YieldsList-from_range 0 n (length xs) refl (omega arith))) callee each)

-- what a closure holds that borrows two values, or three
pub pair_is : {A B : Type 0} (q : A × B) (a : A) (b : B) → (q.0 ≡ a) × (q.1 ≡ b) → q ≡ (a, b)
pair_is q a b e = λ i. (e.0 i, e.1 i)

pub triple_is : {A B C : Type 0} (q : A × B × C) (a : A) (b : B) (c : C) → (q.0 ≡ a) × (q.1 ≡ b) × (q.2 ≡ c) → q ≡ (a, b, c)
triple_is q a b c e = λ i. (e.0 i, e.1 i, e.2 i)
