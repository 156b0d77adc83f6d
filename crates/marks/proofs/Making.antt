-- A mark that was made from a number. Assumes nothing.
use Rattle.std.proofs.Common.{◌≡◌, ℕ, ◌≤◌, Some, None, Option, ap, arith, MatchOption}
use Rattle.std.specs.Option.{option_map}
use Rattle.marks.specs.declared.mark.Mark.{Mark}

-- what the making of a mark answers
abbrev pub Made : Option Mark → ℕ → Type 0
Made r n = MatchOption r (1024 ≤ n) (λ m. m.number ≡ n)

pub made_mark : (r : Option Mark) (n : ℕ) → Made r n → n ≤ 1023 → option_map (λ (m : Mark). m.number) r ≡ Some n
made_mark None n high low = absurd (omega arith)
made_mark (Some m) n e low = ap Some e
