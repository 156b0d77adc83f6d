-- The marks of sixteen words. Assumes nothing.
use Rattle.std.proofs.Common.{◌≡◌, ℕ, ◌-◌, ◌/◌, ◌%◌, ◌^◌, ◌<◌, ◌≤◌, Bool, true, false, not, ◌&&◌, ◌||◌, eqb, List, length, get_or, replicate, set, sym, refl, ap, ap₂, ◌∙◌, ⊎_elim, arith}
use mathlib.Core.Path.{fun_ext}
use lib.Bits.{bit_and, bit_or}
use Rattle.std.proofs.lemmas.List.{get_or-replicate, get_or-set_same, get_or-set_other, get_or_past}
use Rattle.std.proofs.lemmas.Bool.{cases_eq, cases_lt, eq-eqb, ne_eqb, true≢false}
use Rattle.marks.specs.Sets.{Set, nothing, either, beyond, ◌∈◌, ◌⊆◌}
use Rattle.marks.specs.Words.{bit, held, with_mark}
use Rattle.marks.proofs.Bits.{bit_bit_or, bit_bit_and, bit_not, bit_one, bit_zero}

pub held_past : (ws : List ℕ) → length ws ≡ 16 → (m : ℕ) → 1024 ≤ m → held ws m ≡ false
unfolding held
held_past ws l m h = ap (λ w. bit w (m % 64)) (get_or_past ws (m / 64) 0 (omega arith)) ∙ bit_zero (m % 64)

-- a set of words is within another where its marks below 1,024 are
pub held_within : (ws : List ℕ) → length ws ≡ 16 → (R : Set ℕ) → ((m : ℕ) → m < 1024 → m ∈ held ws → m ∈ R) → held ws ⊆ R
held_within ws l R low m here =
    ⊎_elim (λ below. low m below here) (λ past. absurd (true≢false (sym here ∙ held_past ws l m past))) (cases_lt m 1024)

pub held_empty : held (replicate 16 0) ≡ nothing
unfolding held
held_empty = fun_ext λ m. ap (λ w. bit w (m % 64)) (zero_at (m / 64)) ∙ bit_zero (m % 64)
  where
    zero_at : (k : ℕ) → get_or (replicate {A = ℕ} 16 0) k 0 ≡ 0
    zero_at k = ⊎_elim (get_or-replicate 16 k 0 0) (get_or_past (replicate 16 0) k 0) (cases_lt k 16)

module _ (ws : List ℕ) (m : ℕ) (within : m / 64 < length ws) where
  -- the words once the bit of m is set
  after : List ℕ
  after = set ws (m / 64) (bit_or (get_or ws (m / 64) 0) (2 ^ (m % 64)))

  same_bit : (x : ℕ) → x / 64 ≡ m / 64 → eqb (x % 64) (m % 64) ≡ eqb x m
  same_bit x e =
      ⊎_elim
      (λ eq. eq-eqb _ _ (ap (λ y. y % 64) eq) ∙ sym (eq-eqb x m eq))
      (λ ne. ne_eqb _ _ (λ eq. ne (omega arith)) ∙ sym (ne_eqb x m ne))
      (cases_eq x m)

  or_swap : (a b : Bool) → (a || b) ≡ (b || a)
  or_swap true true = refl
  or_swap true false = refl
  or_swap false true = refl
  or_swap false false = refl

  in_word : (x : ℕ) → x / 64 ≡ m / 64 → held after x ≡ with_mark m (held ws) x
  unfolding held after
  in_word x e =
      ap (λ i. bit (get_or after i 0) (x % 64)) e
      ∙ ap (λ w. bit w (x % 64)) (get_or-set_same ws (m / 64) _ 0 within)
      ∙ bit_bit_or (get_or ws (m / 64) 0) (2 ^ (m % 64)) (x % 64)
      ∙ or_swap (bit (get_or ws (m / 64) 0) (x % 64)) (bit (2 ^ (m % 64)) (x % 64))
      ∙ ap (λ b. b || bit (get_or ws (m / 64) 0) (x % 64)) (bit_one (m % 64) (x % 64) ∙ same_bit x e)
      ∙ ap (λ i. eqb x m || bit (get_or ws i 0) (x % 64)) (sym e)

  in_other : (x : ℕ) → (x / 64 ≡ m / 64 → ⊥) → held after x ≡ with_mark m (held ws) x
  unfolding held after
  in_other x apart =
      ap (λ w. bit w (x % 64)) (get_or-set_other ws (m / 64) (x / 64) _ 0 apart)
      ∙ ap (λ b. b || bit (get_or ws (x / 64) 0) (x % 64)) (sym (ne_eqb x m (λ e. apart (ap (λ y. y / 64) e))))

  pub held_insert : held (set ws (m / 64) (bit_or (get_or ws (m / 64) 0) (2 ^ (m % 64)))) ≡ with_mark m (held ws)
  unfolding after
  held_insert = fun_ext λ x. ⊎_elim (in_word x) (in_other x) (cases_eq (x / 64) (m / 64))

-- words that fit in 64 bits
abbrev pub AllFit : List ℕ → Type 0
AllFit ws = (i : ℕ) → get_or ws i 0 < 2 ^ 64

pub fit_set : (ws : List ℕ) (j x : ℕ) → j < length ws → AllFit ws → x < 2 ^ 64 → AllFit (set ws j x)
fit_set ws j x lt fits fit i =
    ⊎_elim
    (λ same. let at : get_or (set ws j x) i 0 ≡ x = ap (λ k. get_or (set ws j x) k 0) same ∙ get_or-set_same ws j x 0 lt in omega (arith, at, fit))
    (λ other. omega (arith, get_or-set_other ws j i x 0 other, fits i))
    (cases_eq i j)

pub fit_made : (us : List ℕ) (f : ℕ → ℕ) → length us ≡ 16 → ((i : ℕ) → i < 16 → get_or us i 0 ≡ f i) → ((i : ℕ) → f i < 2 ^ 64) → AllFit us
fit_made us f long made fits i =
    ⊎_elim
    (λ below. omega (arith, made i below, fits i))
    (λ past. omega (arith, get_or_past us i 0 (omega (arith, long))))
    (cases_lt i 16)

-- sets of words that are made from two others word by word, where the bits of each word are made by op
held_by_words : (op : Bool → Bool → Bool) → op false false ≡ false → (ws vs us : List ℕ) → length ws ≡ 16 → length vs ≡ 16 → length us ≡ 16
    → ((i k : ℕ) → i < 16 → k < 64 → bit (get_or us i 0) k ≡ op (bit (get_or ws i 0) k) (bit (get_or vs i 0) k))
    → (m : ℕ) → held us m ≡ op (held ws m) (held vs m)
unfolding held
held_by_words op none ws vs us lw lv lu made m =
    ⊎_elim
    (λ below. made (m / 64) (m % 64) (omega arith) (omega arith))
    (λ past. held_past us lu m past ∙ sym (ap₂ op (held_past ws lw m past) (held_past vs lv m past) ∙ none))
    (cases_lt m 1024)

pub held_either : (ws vs us : List ℕ) → length ws ≡ 16 → length vs ≡ 16 → length us ≡ 16
    → ((i : ℕ) → i < 16 → get_or us i 0 ≡ bit_or (get_or ws i 0) (get_or vs i 0)) → held us ≡ either (held ws) (held vs)
held_either ws vs us lw lv lu join =
    fun_ext (held_by_words (λ a b. a || b) refl ws vs us lw lv lu
    (λ i k lt bit_lt. ap (λ w. bit w k) (join i lt) ∙ bit_bit_or (get_or ws i 0) (get_or vs i 0) k))

pub held_beyond : (ws vs us : List ℕ) → length ws ≡ 16 → length vs ≡ 16 → length us ≡ 16 → AllFit vs
    → ((i : ℕ) → i < 16 → get_or us i 0 ≡ bit_and (get_or ws i 0) (2 ^ 64 - 1 - get_or vs i 0)) → held us ≡ beyond (held ws) (held vs)
held_beyond ws vs us lw lv lu fits lack =
    fun_ext (held_by_words (λ a b. a && not b) refl ws vs us lw lv lu
    (λ i k lt bit_lt.
    let v = get_or vs i 0 in
    ap (λ w. bit w k) (lack i lt)
    ∙ bit_bit_and (get_or ws i 0) (2 ^ 64 - 1 - v) k
    ∙ ap (λ b. bit (get_or ws i 0) k && b) (bit_not 64 v k (fits i) bit_lt)))
