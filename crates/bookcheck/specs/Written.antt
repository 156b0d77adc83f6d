-- What a book file is: the writing of rules and names. Assumes nothing.
--     written_name name          a name as it is written: its length, then its bytes
--     written rules names        the file of these rules and names
--     Fit b                      the byte b may stand in a name: it is visible ASCII, and not `#`
--     FitName name               1 to 32 such bytes
--     Apart names                no two of the names are the same
--     Named n r                  the rule speaks only of the first n instances
--     WellFormed rules names     at most 512 rules within the bounds of a rule, at most 128 fit names, no two of
--                                them the same, and every rule speaks only of instances with a name
--     FileOf rules names bs      the bytes are the file of these rules and names, which are well-formed
--     BookFile bs                the bytes are the file of some rules and names
use Rattle.std.specs.Prelude.{◌≡◌, ℕ, ◌<◌, ◌≤◌, List, [], ◌∷◌, ◌++◌, length, ◌≢◌, slice_index_or}
use Rattle.std.specs.List.{flat_map, AllByRecursion}
use Rattle.marks.specs.Numbers.{instance}
use Rattle.norms.specs.Programs.{Rule}
use Rattle.norms.specs.Rules.{SoundRule, body}
use Rattle.reading.specs.Reads.{byte_pair}
use Rattle.rows.specs.Written.{written_row}

abbrev pub written_name : List ℕ → List ℕ
written_name name = length name ∷ name

abbrev pub written : List (Rule ℕ) → List (List ℕ) → List ℕ
written rules names =
    byte_pair (length rules) ++ (flat_map written_row rules ++ (length names ∷ flat_map written_name names))

pub record Fit (b : ℕ) : Type 0 where
  pub low : 0x21 ≤ b
  pub high : b ≤ 0x7E
  pub no_hash : b ≡ 0x23 → ⊥

pub record FitName (name : List ℕ) : Type 0 where
  pub some : 1 ≤ length name
  pub short : length name ≤ 32
  pub fit : AllByRecursion Fit name

abbrev pub Apart : List (List ℕ) → Type 0
Apart names = (i j : ℕ) → i < j → j < length names → slice_index_or names i [] ≢ slice_index_or names j []

abbrev pub Named : ℕ → Rule ℕ → Type 0
Named n r = AllByRecursion (λ m. instance m < n) (r.head ∷ body r)

pub record WellFormed (rules : List (Rule ℕ)) (names : List (List ℕ)) : Type 0 where
  pub few_rules : length rules ≤ 512
  pub sound : AllByRecursion SoundRule rules
  pub few_names : length names ≤ 128
  pub fit : AllByRecursion FitName names
  pub apart : Apart names
  pub named : AllByRecursion (Named (length names)) rules

pub record FileOf (rules : List (Rule ℕ)) (names : List (List ℕ)) (bs : List ℕ) : Type 0 where
  pub well_formed : WellFormed rules names
  pub is_written : bs ≡ written rules names

abbrev pub BookFile : List ℕ → Type 0
BookFile bs = (rules : List (Rule ℕ)) × (names : List (List ℕ)) × FileOf rules names bs
