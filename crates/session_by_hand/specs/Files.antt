-- The files of a shelf, as lines say them.
use Rattle.std.specs.Prelude.{◌≡◌, ℕ, List, Option, Some, None, Ok}
use Rattle.std.specs.Str.{IsUtf8, encode_utf8_all}
use Rattle.hex.specs.Hex.{decode_of}
use Rattle.case_lines.specs.Lines.{first_word, after_word}
use Rattle.session_by_hand.specs.declared.files.File.{File}

-- THE FILE that a line says behind its first word: its name in UTF-8, and after a space its bytes in hex; or none, where it says no such thing
abbrev pub IsFileIn : List ℕ → Option File → Type 0
IsFileIn text (Some file) = (encode_utf8_all file.name ≡ first_word text) × (decode_of (after_word text) ≡ Ok file.bytes)
IsFileIn text None = IsUtf8 (first_word text) → (bytes : List ℕ) → decode_of (after_word text) ≡ Ok bytes → ⊥
