-- Numbers as two bytes each, and what is left of a file from an offset on. Assumes nothing.
use Rattle.std.proofs.Common.{◌≡◌, ℕ, zero, suc, ◌+◌, ◌*◌, ◌/◌, ◌%◌, ◌<◌, ◌≤◌, List, [], ◌∷◌, ◌++◌, length, get_or, drop, sym, refl, ap, ◌∙◌, inl, inr, arith}
use Rattle.std.specs.List.{flat_map}
use Rattle.std.proofs.lemmas.List.{length-take, take-append-drop, drop-drop, drop_more, get_or-drop, get_or-take, get_or_past}
use Rattle.std.proofs.lemmas.Bool.{cases_lt}
use Rattle.reading.specs.Reads.{pair, byte_pair, part}

-- numbers as two bytes each, one after another
pub length_pairs : (ms : List ℕ) → length (flat_map byte_pair ms) ≡ 2 * length ms
length_pairs [] = refl
length_pairs (m ∷ ms) = omega (arith, length_pairs ms)

pub high_at : (ms zs : List ℕ) (k : ℕ) → k < length ms → get_or (flat_map byte_pair ms ++ zs) (2 * k) 0 ≡ get_or ms k 0 / 256
high_at [] zs k h = absurd (omega arith)
high_at (m ∷ ms) zs zero h = refl
high_at (m ∷ ms) zs (suc k) h =
    let next : 2 * suc k ≡ suc (suc (2 * k)) = omega arith in
    ap (λ i. get_or (flat_map byte_pair (m ∷ ms) ++ zs) i 0) next ∙ high_at ms zs k (omega arith)

pub low_at : (ms zs : List ℕ) (k : ℕ) → k < length ms → get_or (flat_map byte_pair ms ++ zs) (suc (2 * k)) 0 ≡ get_or ms k 0 % 256
low_at [] zs k h = absurd (omega arith)
low_at (m ∷ ms) zs zero h = refl
low_at (m ∷ ms) zs (suc k) h =
    let next : suc (2 * suc k) ≡ suc (suc (suc (2 * k))) = omega arith in
    ap (λ i. get_or (flat_map byte_pair (m ∷ ms) ++ zs) i 0) next ∙ low_at ms zs k (omega arith)

-- what is written at place k of them is read there
pub pair_at : (ms zs : List ℕ) (k : ℕ) → k < length ms → pair (flat_map byte_pair ms ++ zs) (2 * k) ≡ get_or ms k 0
pair_at ms zs k h =
    let next : 2 * k + 1 ≡ suc (2 * k) = omega arith in
    omega (arith, high_at ms zs k h, ap (λ i. get_or (flat_map byte_pair ms ++ zs) i 0) next, low_at ms zs k h)

-- a part of bytes has bytes
pub part_bytes : (bs : List ℕ) (at n : ℕ) → ((i : ℕ) → get_or bs i 0 < 256) → (i : ℕ) → get_or (part bs at n) i 0 < 256
part_bytes bs at n small i =
    elim (cases_lt i n) [
      | inl below ↦ omega (arith, get_or-take n (drop at bs) i 0 below, get_or-drop at bs i 0, small (at + i))
      | inr past ↦ omega (arith, get_or_past (part bs at n) i 0 (omega (arith, length-take n (drop at bs))))
    ]

-- what is left from an offset on begins with the n bytes there
pub left_part : (bs : List ℕ) (at n : ℕ) → drop at bs ≡ part bs at n ++ drop (at + n) bs
left_part bs at n = sym (take-append-drop n (drop at bs)) ∙ ap (λ xs. part bs at n ++ xs) (drop-drop n at bs)

-- or with the number there
pub left_pair : (bs : List ℕ) (at : ℕ) → ((i : ℕ) → get_or bs i 0 < 256) → at + 2 ≤ length bs → drop at bs ≡ byte_pair (pair bs at) ++ drop (at + 2) bs
left_pair bs at small h =
    let low = small (at + 1) in
    let high : get_or bs at 0 ≡ pair bs at / 256 = omega arith in
    let rest : get_or bs (at + 1) 0 ≡ pair bs at % 256 = omega arith in
    let past : at + 1 + 1 ≡ at + 2 = omega arith in
    drop_more bs at 0 (omega arith)
    ∙ ap (λ x. x ∷ drop (at + 1) bs) high
    ∙ ap (λ xs. pair bs at / 256 ∷ xs) (drop_more bs (at + 1) 0 (omega arith) ∙ ap (λ x. x ∷ drop (at + 1 + 1) bs) rest ∙ ap (λ k. pair bs at % 256 ∷ drop k bs) past)
