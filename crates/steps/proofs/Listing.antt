-- All findings, one step after the other. Assumes nothing.
use Rattle.std.proofs.Common.{◌≡◌, ℕ, zero, suc, ◌+◌, ◌-◌, ◌<◌, ◌≤◌, List, [], ◌∷◌, ◌++◌, map, length, get_or, take, drop, Some, None, Ok, Err, Option, sym, refl, ap, ◌∙◌, append_assoc, append-nil, arith, length-append}
use Rattle.std.specs.List.{slice_get}
use Rattle.std.specs.Option.{option_map, ok_or}
use Rattle.steps.specs.Listed.{listed}
use Rattle.std.proofs.lemmas.List.{length-map, length-take-le, take_more, drop_more, take-append-drop}
use Rattle.norms.specs.Steps.{Step}
use Rattle.norms.specs.Findings.{findings_in, dated_from, findings}

pub dated_append : (s : ℕ) (xs ys : List Step) → dated_from s (xs ++ ys) ≡ dated_from s xs ++ dated_from (s + length xs) ys
dated_append s [] ys = ap (λ k. dated_from k ys) (omega arith)
dated_append s (x ∷ xs) ys =
    ap (λ l. map (λ m. (s, m)) (findings_in x.marks) ++ l) (dated_append (s + 1) xs ys ∙ ap (λ k. dated_from (s + 1) xs ++ dated_from k ys) (omega arith))
    ∙ sym (append_assoc (map (λ m. (s, m)) (findings_in x.marks)) (dated_from (s + 1) xs) (dated_from (s + suc (length xs)) ys))

nth_after : {X : Type 0} (xs ys : List X) (k : ℕ) → length xs ≤ k → slice_get (xs ++ ys) k ≡ slice_get ys (k - length xs)
nth_after [] ys k h = ap (slice_get ys) (omega arith)
nth_after (x ∷ xs) ys zero h = absurd (omega arith)
nth_after (x ∷ xs) ys (suc k) h = nth_after xs ys k (omega arith) ∙ ap (slice_get ys) (omega arith)

nth_map_front : {X Y : Type 0} (f : X → Y) (xs : List X) (ys : List Y) (k : ℕ) (x : X) → slice_get xs k ≡ Some x → slice_get (map f xs ++ ys) k ≡ Some (f x)
nth_map_front f [] ys k x e = absurd (let z : ◌≡◌ {A = ℕ} 0 1 = cc in omega arith)
nth_map_front f (y ∷ xs) ys zero x e = ap (option_map f) e
nth_map_front f (y ∷ xs) ys (suc k) x e = nth_map_front f xs ys k x e

-- the findings of the steps before place i are counted
module _ (steps : List Step) (i : ℕ) (s : Step) (within : i < length steps) (at : get_or steps i s ≡ s) where
  pub count_step : length (dated_from 1 (take (i + 1) steps)) ≡ length (dated_from 1 (take i steps)) + length (findings_in s.marks)
  count_step =
      ap (λ l. length (dated_from 1 l)) (take_more steps i s within ∙ ap (λ x. take i steps ++ x ∷ []) at)
      ∙ ap length (dated_append 1 (take i steps) (s ∷ []))
      ∙ length-append (dated_from 1 (take i steps)) (dated_from (1 + length (take i steps)) (s ∷ []))
      ∙ ap (λ n. length (dated_from 1 (take i steps)) + n) last
    where
      last : length (dated_from (1 + length (take i steps)) (s ∷ [])) ≡ length (findings_in s.marks)
      last = ap length (append-nil (map (λ m. (1 + length (take i steps), m)) (findings_in s.marks))) ∙ length-map (findings_in s.marks) (λ m. (1 + length (take i steps), m))

  -- the step at place i has finding k
  pub list_here : (k m : ℕ) → length (dated_from 1 (take i steps)) ≤ k → slice_get (findings_in s.marks) (k - length (dated_from 1 (take i steps))) ≡ Some m
      → slice_get (findings steps) k ≡ Some (i + 1, m)
  list_here k m h e =
      ap (λ l. slice_get (dated_from 1 l) k) whole
      ∙ ap (λ l. slice_get l k) (dated_append 1 (take i steps) (s ∷ drop (i + 1) steps))
      ∙ nth_after (dated_from 1 (take i steps)) _ k h
      ∙ nth_map_front (λ x. (1 + length (take i steps), x)) (findings_in s.marks) _ (k - length (dated_from 1 (take i steps))) m e
      ∙ ap (λ n. Some (n, m)) number
    where
      whole : steps ≡ take i steps ++ s ∷ drop (i + 1) steps
      whole = sym (take-append-drop i steps) ∙ ap (λ l. take i steps ++ l) (drop_more steps i s within ∙ ap (λ x. x ∷ drop (i + 1) steps) at)

      number : 1 + length (take i steps) ≡ i + 1
      number = omega (arith, length-take-le i steps (omega arith))

-- an entry of the list, and its length
pub entry_of : {X : Type 0} (xs : List X) (k : ℕ) (x : X) → Ok x ≡ listed xs k → slice_get xs k ≡ Some x
entry_of {X = X} xs k x e = go (slice_get xs k) refl
  where
    go : (o : Option X) → slice_get xs k ≡ o → slice_get xs k ≡ Some x
    go None p = absurd (let q = ap (λ (o : Option X). ok_or o (length xs)) p in let z : ◌≡◌ {A = ℕ} 0 1 = cc in omega arith)
    go (Some y) p = let q = ap (λ (o : Option X). ok_or o (length xs)) p in cc

past_of : {X : Type 0} (xs : List X) (k : ℕ) → slice_get xs k ≡ None → length xs ≤ k
past_of [] k e = omega arith
past_of (x ∷ xs) zero e = absurd (let z : ◌≡◌ {A = ℕ} 0 1 = cc in omega arith)
past_of (x ∷ xs) (suc k) e = let h = past_of xs k e in omega arith

pub length_of : {X : Type 0} (xs : List X) (k n : ℕ) → Err n ≡ listed xs k → (n ≡ length xs) × (length xs ≤ k)
length_of {X = X} xs k n e = go (slice_get xs k) refl
  where
    go : (o : Option X) → slice_get xs k ≡ o → (n ≡ length xs) × (length xs ≤ k)
    go None p = let q = ap (λ (o : Option X). ok_or o (length xs)) p in (cc, past_of xs k p)
    go (Some y) p = absurd (let q = ap (λ (o : Option X). ok_or o (length xs)) p in let z : ◌≡◌ {A = ℕ} 0 1 = cc in omega arith)
