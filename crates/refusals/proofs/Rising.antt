-- A list of numbers that is checked from the front: b is the number before place i. Assumes nothing.
use Rattle.std.proofs.Common.{◌≡◌, ℕ, suc, ◌-◌, ◌<◌, ◌≤◌, false, ltb, leb, List, get_or, ap, ⊎_elim, arith}
use Rattle.std.proofs.lemmas.Bool.{and_left, and_right, and_cases, le-ltb, lt-leb, ltb-false, leb-false}
use Rattle.refusals.specs.Rising.{unrising}

module _ (xs : List ℕ) (i : ℕ) where
  pub is_first : i ≤ 0 → unrising xs i ≡ false
  is_first h = and_left (ltb 0 i) (leb (get_or xs i 0) (get_or xs (i - 1) 0)) (le-ltb 0 i h)

  pub is_rising : (b : ℕ) → 0 < i → (0 < i → b ≡ get_or xs (i - 1) 0) → b < get_or xs i 0 → unrising xs i ≡ false
  is_rising b h e l = and_right (ltb 0 i) (leb (get_or xs i 0) (get_or xs (i - 1) 0)) (lt-leb (get_or xs i 0) (get_or xs (i - 1) 0) (omega (arith, e h)))

  -- the test fails at the next place: the number there is above the one here
  pub above : unrising xs (suc i) ≡ false → get_or xs i 0 < get_or xs (suc i) 0
  above up =
      let here : suc i - 1 ≡ i = omega arith in
      ⊎_elim
      (λ first. absurd (omega (arith, ltb-false 0 (suc i) first)))
      (λ low. omega (arith, leb-false (get_or xs (suc i) 0) (get_or xs (suc i - 1) 0) low, ap (λ k. get_or xs k 0) here))
      (and_cases (ltb 0 (suc i)) (leb (get_or xs (suc i) 0) (get_or xs (suc i - 1) 0)) up)
