-- What a tape means, and what playing it means.
use Rattle.std.specs.Prelude.{◌≡◌, ℕ, true, List, [], length, map, replicate, slice_range, take}
use Rattle.std.specs.List.{concat, flat_map}
use Rattle.plain_text.specs.InputLines.{lines_of}
use Rattle.macro_record.specs.Played.{with_lf, played_of}
use Rattle.macro_record.specs.Tape.{Tape, AreKept}

-- a tape is the first pieces that were given since it began, and all of them while it is whole
abbrev pub ATapeIsWhatWasGiven : Type 0
ATapeIsWhatWasGiven =
    (before after : Tape) (pieces : List (List ℕ)) → before.bytes ≡ [] → AreKept before after pieces →
    ((count : ℕ) × (after.bytes ≡ concat (take count pieces))) × (after.whole ≡ true → after.bytes ≡ concat pieces)

-- a tape that is whole was whole before
abbrev pub AWholeTapeWasWhole : Type 0
AWholeTapeWasWhole =
    (before after : Tape) (pieces : List (List ℕ)) → AreKept before after pieces → after.whole ≡ true → before.whole ≡ true

-- all lines of a tape, once, are the tape, ended by LF
abbrev pub AllOnceIsTheTape : Type 0
AllOnceIsTheTape = (tape : List ℕ) → played_of tape 0 (length (lines_of tape)) 1 ≡ with_lf tape

-- the lines of what is played are those lines, each ended by LF, so many times over
abbrev pub PlayedLinesAreTheLines : Type 0
PlayedLinesAreTheLines =
    (tape : List ℕ) (from to times : ℕ) →
    lines_of (played_of tape from to times) ≡ flat_map (λ lines. lines) (replicate times (map with_lf (slice_range (lines_of tape) from to)))
