-- THE SUMMARY of a storm: the six lines that are told of it, and what they say to who reads them.
use Rattle.std.specs.Prelude.{ℕ, if◌then◌else◌, List, [], ◌∷◌, ◌++◌, codes, Option, Some, None}
use Rattle.std.specs.Fmt.{decimal}
use Rattle.std.specs.List.{concat}
use Rattle.std.specs.Str.{bytes_eq}
use Rattle.plain_text.specs.InputLines.{lines_of}
use Rattle.case_lines.specs.Lines.{after_word, content_of, first_word}
use Rattle.case_lines.specs.Number.{number_of}
use Rattle.storm_lines.specs.declared.summary.Summary.{Summary}

-- a line that tells a number by its name
abbrev pub named_line : List ℕ → ℕ → List ℕ
named_line name number = name ++ codes " " ++ decimal number ++ codes "\n"

-- THE LINES of a summary
abbrev pub summary_lines : Summary → List (List ℕ)
summary_lines summary =
    named_line (codes "entries") summary.entries ∷ named_line (codes "revision") summary.revision ∷
    named_line (codes "characters") summary.characters ∷ named_line (codes "kept") summary.kept ∷
    named_line (codes "lines") summary.lines ∷ named_line (codes "valid") summary.valid ∷ []

-- and its bytes
abbrev pub summary_text : Summary → List ℕ
summary_text summary = concat (summary_lines summary)

-- the number that a line tells by this name
abbrev pub number_named : List ℕ → List ℕ → Option ℕ
number_named name line = if bytes_eq (first_word line) name then number_of (after_word (content_of line)) else None

-- the summary of six numbers, if all are there
abbrev pub summary_from : Option ℕ → Option ℕ → Option ℕ → Option ℕ → Option ℕ → Option ℕ → Option Summary
summary_from (Some entries) (Some revision) (Some characters) (Some kept) (Some lines) (Some valid) = Some (record {
  entries = entries;
  revision = revision;
  characters = characters;
  kept = kept;
  lines = lines;
  valid = valid;
})
summary_from entries revision characters kept lines valid = None

-- what six lines say
abbrev pub summary_of_lines : List (List ℕ) → Option Summary
summary_of_lines (entries ∷ revision ∷ characters ∷ kept ∷ lines ∷ valid ∷ []) =
    summary_from (number_named (codes "entries") entries) (number_named (codes "revision") revision) (number_named (codes "characters") characters)
    (number_named (codes "kept") kept) (number_named (codes "lines") lines) (number_named (codes "valid") valid)
summary_of_lines lines = None

-- THE SUMMARY THAT BYTES SAY, where they are one
abbrev pub summary_in : List ℕ → Option Summary
summary_in bytes = summary_of_lines (lines_of bytes)
