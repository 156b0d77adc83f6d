-- The check of a list of a proposal, from the front and at each mark in this order. Assumes nothing.
--     high xs i              the mark at i is above 1,023
--     list_check n bars xs   n above 1,023, n + 1 not above the one before, and what `bars` tells of a mark, each at its
--                            position
--     says m                 m is of attribute triggered, created or ended, so that a step may say it
--     bars_unsayable m i     24: m is of another attribute
--     bars_none m i          no mark is barred
--     said_check said        22 above 1,023, 23 not above the one before, 24 of another attribute, each at its position
--     proposed_check xs      25 above 1,023, 26 not above the one before, each at its position
use Rattle.std.specs.Prelude.{ℕ, ◌+◌, Bool, not, ◌||◌, List, length, None, Option, ◌==◌, nat_lt, slice_index}
use Rattle.refusals.specs.declared.Told.{Told}
use Rattle.refusals.specs.Telling.{refusal}
use Rattle.refusals.specs.Checks.{refuse_if, ◌⨟◌, first_below}
use Rattle.refusals.specs.Rising.{unrising}
use Rattle.marks.specs.Numbers.{attribute, triggered, created, ended}

abbrev pub high : List ℕ → ℕ → Bool
high xs i = nat_lt 1023 (slice_index xs i)

module _ (n : ℕ) (bars : ℕ → ℕ → Option Told) where
  abbrev pub list_mark : List ℕ → ℕ → Option Told
  list_mark xs i = refuse_if (high xs i) (refusal n i) ⨟ refuse_if (unrising xs i) (refusal (n + 1) i) ⨟ bars (slice_index xs i) i

  abbrev pub list_check : List ℕ → Option Told
  list_check xs = first_below (length xs) (list_mark xs)

abbrev pub says : ℕ → Bool
says m = attribute m == triggered || attribute m == created || attribute m == ended

abbrev pub bars_unsayable : ℕ → ℕ → Option Told
bars_unsayable m i = refuse_if (not (says m)) (refusal 24 i)

abbrev pub bars_none : ℕ → ℕ → Option Told
bars_none m i = None

abbrev pub said_check : List ℕ → Option Told
said_check xs = list_check 22 bars_unsayable xs

abbrev pub proposed_check : List ℕ → Option Told
proposed_check xs = list_check 25 bars_none xs
