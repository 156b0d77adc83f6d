-- What a book answers whose rules are made from a function of the index, and the rule that an answer is of. Assumes
-- nothing.
use Rattle.std.proofs.Common.{◌≡◌, ℕ, ◌<◌, ◌≤◌, List, map, length, Some, None, Option, sym, refl, ap, ◌∙◌, arith}
use Rattle.std.specs.List.{slice_get, range_with_len}
use Rattle.std.specs.Option.{option_map}
use Rattle.std.proofs.iter.runs.Lists.{none-some, same_Some}
use Rattle.std.proofs.lemmas.List.FromFn.{length-map-range_with_len, get_or-map-range_with_len}
use Rattle.std.proofs.lemmas.Option.{slice_get-get_or, slice_get_past}
use Rattle.norms.specs.Programs.{Rule}
use Rattle.norms.specs.Rules.{body}
use Rattle.books.specs.Asked.{head_of, counts_of, body_at, body_of}

-- an element of a list made from a function of the index
pub nth_counted : {X : Type 0} (f : ℕ → X) (n k : ℕ) → k < n → slice_get (map f (range_with_len 0 n)) k ≡ Some (f k)
nth_counted f n k h =
    slice_get-get_or (map f (range_with_len 0 n)) k (f 0) (omega (arith, length-map-range_with_len f 0 n))
    ∙ ap Some (get_or-map-range_with_len f 0 n k k (f 0) h (omega arith))

pub nth_counted_past : {X : Type 0} (f : ℕ → X) (n k : ℕ) → n ≤ k → slice_get (map f (range_with_len 0 n)) k ≡ None
nth_counted_past f n k h = slice_get_past (map f (range_with_len 0 n)) k (omega (arith, length-map-range_with_len f 0 n))

-- the questions of a book, of rule n of so many
module _ (rule : ℕ → Rule ℕ) (count n : ℕ) where
  past_end : {X : Type 0} (f : Option (Rule ℕ) → Option X) → f None ≡ None → count ≤ n → None ≡ f (slice_get (map rule (range_with_len 0 count)) n)
  past_end f none past = sym (ap f (nth_counted_past rule count n past) ∙ none)

  pub head_past : count ≤ n → None ≡ head_of (map rule (range_with_len 0 count)) n
  head_past = past_end (option_map (λ (r : Rule ℕ). r.head)) refl

  pub counts_past : count ≤ n → None ≡ counts_of (map rule (range_with_len 0 count)) n
  counts_past = past_end (option_map (λ (r : Rule ℕ). (length r.required, length r.barred))) refl

  pub rule_past : (k : ℕ) → count ≤ n → None ≡ body_of (map rule (range_with_len 0 count)) n k
  rule_past k = past_end (λ o. body_at o k) refl

  at_rule : {X : Type 0} (f : Option (Rule ℕ) → Option X) → n < count → f (slice_get (map rule (range_with_len 0 count)) n) ≡ f (Some (rule n))
  at_rule f here = ap f (nth_counted rule count n here)

  pub head_is : n < count → head_of (map rule (range_with_len 0 count)) n ≡ Some (rule n).head
  head_is = at_rule (option_map (λ (r : Rule ℕ). r.head))

  pub counts_are : n < count → counts_of (map rule (range_with_len 0 count)) n ≡ Some (length (rule n).required, length (rule n).barred)
  counts_are = at_rule (option_map (λ (r : Rule ℕ). (length r.required, length r.barred)))

  pub body_is : (k : ℕ) → n < count → body_of (map rule (range_with_len 0 count)) n k ≡ slice_get (body (rule n)) k
  body_is k = at_rule (λ o. body_at o k)

-- the rule whose counts were told
counted : (o : Option (Rule ℕ)) (q b : ℕ)
    → option_map {U = ℕ × ℕ} (λ (r : Rule ℕ). (length r.required, length r.barred)) o ≡ Some (q, b)
    → (r : Rule ℕ) × (o ≡ Some r) × (length r.required ≡ q) × (length r.barred ≡ b)
counted None q b e = absurd (none-some (q, b) e)
counted (Some r) q b e = (r, refl, ap (λ p. p.0) (same_Some _ _ e), ap (λ p. p.1) (same_Some _ _ e))

pub rule_counted : (rules : List (Rule ℕ)) (n q b : ℕ) → counts_of rules n ≡ Some (q, b)
    → (r : Rule ℕ) × (slice_get rules n ≡ Some r) × (length r.required ≡ q) × (length r.barred ≡ b)
rule_counted rules n q b told = counted (slice_get rules n) q b told
