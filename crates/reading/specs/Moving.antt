-- How a call moves a reader. Assumes nothing.
--     Moved old new passed to    over the same bytes, the reader comes to `to` where the call passed, and else stays where
--                                it stood
use Rattle.std.specs.Prelude.{◌≡◌, ℕ, Bool, if◌then◌else◌}
use Rattle.reading.specs.declared.reader.Reader.{Reader}

abbrev pub Moved : Reader → Reader → Bool → ℕ → Type 0
Moved old new passed to = record {
  bytes : new.bytes.now ≡ old.bytes.now;
  at : new.at ≡ (if passed then to else old.at);
}
