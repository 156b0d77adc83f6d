-- Lists of numbers that are to rise. Assumes nothing.
--     unrising xs i    the number at i is not above the one before
use Rattle.std.specs.Prelude.{ℕ, ◌-◌, Bool, ◌&&◌, List, nat_le, nat_lt, slice_index}

abbrev pub unrising : List ℕ → ℕ → Bool
unrising xs i = nat_lt 0 i && nat_le (slice_index xs i) (slice_index xs (i - 1))
