-- What is reported of a review. Assumes nothing.
--     name_or_number names i         the name of instance i, or `#` and its number where it has none
--     line_text names d              the line of the finding d, a step number with a mark
--     line_answer steps names k size what the call for the line of finding k answers, with a buffer of this size: 34 as in list,
--                                    then 41 a buffer that is too short, else how many bytes the line has
--     line_written steps names k old what the buffer holds then that held old
--     last_text steps out            the last line: how many steps stand, or the refusal
use Rattle.std.specs.Prelude.{ℕ, List, length, Some, None, Ok, Err, Option, Result, ◌==◌}
use Rattle.std.specs.List.{slice_get}
use Rattle.std.specs.Option.{unwrap_or}
use Rattle.refusals.specs.declared.Told.{Told}
use Rattle.refusals.specs.Checks.{passes}
use Rattle.marks.specs.Numbers.{instance, attribute, breached}
use Rattle.norms.specs.Steps.{Step}
use Rattle.lines.specs.Faults.{room_check}
use Rattle.lines.specs.Text.{finding_line, steps_line, refused_line, unnamed, written}
use Rattle.review.specs.Listings.{listing}

abbrev pub name_or_number : List (List ℕ) → ℕ → List ℕ
name_or_number names i = unwrap_or (slice_get names i) (unnamed i)

abbrev pub line_text : List (List ℕ) → ℕ × ℕ → List ℕ
line_text names d = finding_line d.0 (attribute d.1 == breached) (name_or_number names (instance d.1))

-- the answer and the buffer of a call that writes a line, or else tells why not
abbrev pub room_answer : List ℕ → ℕ → Result ℕ Told
room_answer line size = passes (length line) (room_check (length line) size)

abbrev pub if_room : {A : Type 0} → Result ℕ Told → A → A → A
if_room (Ok n) new old = new
if_room (Err t) new old = old

abbrev pub answer_with : List (List ℕ) → Result (ℕ × ℕ) Told → ℕ → Result ℕ Told
answer_with names (Ok d) size = room_answer (line_text names d) size
answer_with names (Err t) size = Err t

abbrev pub buffer_with : List (List ℕ) → Result (ℕ × ℕ) Told → List ℕ → List ℕ
buffer_with names (Ok d) old = if_room (room_answer (line_text names d) (length old)) (written (line_text names d) old) old
buffer_with names (Err t) old = old

abbrev pub line_answer : List Step → List (List ℕ) → ℕ → ℕ → Result ℕ Told
line_answer steps names k size = answer_with names (listing steps k) size

abbrev pub line_written : List Step → List (List ℕ) → ℕ → List ℕ → List ℕ
line_written steps names k old = buffer_with names (listing steps k) old

abbrev pub last_text : List Step → Option Told → List ℕ
last_text steps None = steps_line (length steps)
last_text steps (Some t) = refused_line t.number t.spot
