-- What is told of a buffer that is too short: 41, and how many bytes are needed. Assumes nothing.
--     short_told e         what the fault tells
--     room_check n size    refuses n bytes in a buffer of this size
use Rattle.std.specs.Prelude.{ℕ, Option, nat_lt}
use Rattle.refusals.specs.declared.Told.{Told}
use Rattle.refusals.specs.Telling.{refusal}
use Rattle.refusals.specs.Checks.{refuse_if}
use Rattle.lines.specs.declared.fault.Short.{Short}

abbrev pub short_told : Short → Told
short_told e = refusal 41 e.needed

abbrev pub room_check : ℕ → ℕ → Option Told
room_check n size = refuse_if (nat_lt size n) (refusal 41 n)
