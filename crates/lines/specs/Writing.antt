-- How a call ends that writes a line from the front of a buffer. Assumes nothing.
--     Writes told line old new r    it held old and holds new, and the call answers r: the line is written, and the answer is its
--                                   length; or it does not fit, the fault tells how long it is, and the buffer is as it was
use Rattle.std.specs.Prelude.{◌≡◌, ℕ, ◌<◌, ◌≤◌, List, length, Result, Ok, Err}
use Rattle.refusals.specs.declared.Told.{Told}
use Rattle.refusals.specs.Telling.{refusal}
use Rattle.lines.specs.Text.{written}

abbrev pub Writes : {E : Type 0} → (E → Told) → List ℕ → List ℕ → List ℕ → Result ℕ E → Type 0
Writes told line old new (Ok n) = (n ≡ length line) × (length line ≤ length old) × (new ≡ written line old)
Writes told line old new (Err e) = (told e ≡ refusal 41 (length line)) × (length old < length line) × (new ≡ old)
