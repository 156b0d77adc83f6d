-- The marks of a part of a body, by its places. Assumes nothing.
use Rattle.std.proofs.Common.{◌≡◌, ℕ, ◌+◌, ◌-◌, ◌<◌, ◌≤◌, List, take, drop, Some, sym, ap, ◌∙◌, arith}
use Rattle.std.specs.List.{slice_get}
use Rattle.std.proofs.iter.runs.Lists.{nth_drop}
use Rattle.std.proofs.lemmas.Grind.{common_steps}
use Rattle.std.proofs.lemmas.Option.{gets}
use Rattle.marks.specs.Sets.{◌∈◌, among}
use Rattle.norms.proofs.Places.{In, all_nth, all_from_nth}
use Rattle.norms.proofs.Equal.{all_among, among_all}

among_at : (xs : List ℕ) (m : ℕ) → m ∈ among xs → In xs m
among_at xs = all_among (In xs) xs (all_from_nth (In xs) xs (λ k x inside at. (k, at)))

at_among : (xs : List ℕ) (m k : ℕ) → slice_get xs k ≡ Some m → m ∈ among xs
at_among xs m k at = all_nth (λ x. x ∈ among xs) xs (among_all (λ x. x ∈ among xs) xs (λ x held. held)) k m at

get_take : (xs : List ℕ) (n k : ℕ) → k < n → slice_get (take n xs) k ≡ slice_get xs k
get_take xs n k below = grind (arith, common_steps, gets)

take_below : (xs : List ℕ) (n k m : ℕ) → slice_get (take n xs) k ≡ Some m → k < n
take_below xs n k m at = grind (arith, common_steps, gets)

-- the mark m stands at a place from a up to b
abbrev pub Between : List ℕ → ℕ → ℕ → ℕ → Type 0
Between xs a b m = (k : ℕ) × (a ≤ k) × (k < b) × (slice_get xs k ≡ Some m)

-- the part of the list at those places
abbrev pub part : List ℕ → ℕ → ℕ → List ℕ
part xs a b = take (b - a) (drop a xs)

pub part_has : (xs : List ℕ) (a b m : ℕ) → m ∈ among (part xs a b) → Between xs a b m
part_has xs a b m held =
    let found = among_at (part xs a b) m held in
    let below : found.0 < b - a = take_below (drop a xs) (b - a) found.0 m found.1 in
    (a + found.0, omega arith, omega arith, sym (nth_drop a xs found.0) ∙ sym (get_take (drop a xs) (b - a) found.0 below) ∙ found.1)

pub in_part : (xs : List ℕ) (a b m : ℕ) → Between xs a b m → m ∈ among (part xs a b)
in_part xs a b m (k, from, below, at) =
    let back : a + (k - a) ≡ k = omega arith in
    let inside : k - a < b - a = omega arith in
    at_among (part xs a b) m (k - a) (get_take (drop a xs) (b - a) (k - a) inside ∙ nth_drop a xs (k - a) ∙ ap (slice_get xs) back ∙ at)
