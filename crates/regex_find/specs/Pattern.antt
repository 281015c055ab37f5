-- Where a pattern of the crate `regex` matches in a text, in characters.
use Rattle.std.specs.Prelude.{ℕ, ◌&&◌, if◌then◌else◌, List, [], map}
use Rattle.std.specs.List.{flat_map}
use Rattle.std.specs.Str.{encode_utf8_all}
use Rattle.regex.specs.Patterns.{Re, find_all_str, span}
use Rattle.regex.specs.Strings.{regex_pattern}
use Rattle.plain_text.specs.declared.run.Run.{Run}
use Rattle.plain_text.specs.Text.{is_place, gap_of}
use Rattle.regex_find.specs.Spots.{run_between}
use Rattle.regex_find.specs.declared.pattern.RegexSpot.{RegexSpot}

-- the ends of the pattern's matches in the text's bytes, from the left, where none overlaps the one before
abbrev pub byte_spans : Re → List ℕ → List (ℕ × ℕ)
byte_spans pattern text = map span (find_all_str pattern (encode_utf8_all text))

-- a match in characters: the run between its ends, if these are places and not the same
abbrev pub spot_of : List ℕ → ℕ × ℕ → List Run
spot_of text span =
    if is_place text span.0 && is_place text span.1 then run_between (gap_of text span.0) (gap_of text span.1) else []

-- THE SPOTS OF A PATTERN: all its matches in the text, from the left, without the empty ones
abbrev pub pattern_spots : Re → List ℕ → List Run
pattern_spots pattern text = flat_map (spot_of text) (byte_spans pattern text)

-- the pattern that is looked for
abbrev pub spot_pattern : RegexSpot → Re
spot_pattern spot = regex_pattern spot.regex
