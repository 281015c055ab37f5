-- Laws of a storm on data alone.
use Rattle.std.specs.Prelude.{◌≡◌, ℕ, ◌+◌, ◌^◌, ◌<◌, ◌≤◌, [], length, map, Some}
use Rattle.std.specs.List.{AllByRecursion}
use Rattle.plain_text.specs.InputLines.{ended_lines, lines_of, unended}
use Rattle.storm_lines.specs.declared.summary.Summary.{Summary}
use Rattle.storm_lines.specs.Lines.{line_bytes, storm_bytes, storm_lines}
use Rattle.storm_lines.specs.Summary.{summary_in, summary_text}

-- THE INPUT of a storm comes apart into its lines, each of which LF ends; and none of them is long
pub record ComesApartIntoLines (count seed : ℕ) : Type 0 where
  pub lines : lines_of (storm_bytes count seed) ≡ map line_bytes (storm_lines count seed)
  pub ended : ended_lines [] (storm_bytes count seed) ≡ map line_bytes (storm_lines count seed)
  pub last : unended [] (storm_bytes count seed) ≡ []
  pub short : AllByRecursion (λ line. length (line_bytes line) ≤ 100) (storm_lines count seed)
  pub many : length (storm_lines count seed) ≡ count + 1

-- so each storm's input comes apart
abbrev pub InputsComeApart : Type 0
InputsComeApart = (count seed : ℕ) → ComesApartIntoLines count seed

-- the numbers of a summary are such as 64 bits hold
pub record IsFairSummary (summary : Summary) : Type 0 where
  pub entries : summary.entries < 2 ^ 64
  pub revision : summary.revision < 2 ^ 64
  pub characters : summary.characters < 2 ^ 64
  pub kept : summary.kept < 2 ^ 64
  pub lines : summary.lines < 2 ^ 64
  pub valid : summary.valid < 2 ^ 64

-- the six lines give their numbers back
abbrev pub SummariesReadBack : Type 0
SummariesReadBack = (summary : Summary) → IsFairSummary summary → summary_in (summary_text summary) ≡ Some summary
