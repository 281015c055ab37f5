-- Where `TODO` stands in a text, and the spans that mark it.
use Rattle.std.specs.Prelude.{ℕ, List, map, codes, false, Some, None}
use Rattle.std.specs.Str.{encode_utf8_all}
use Rattle.plain_text.specs.declared.run.Run.{Run}
use Rattle.plain_edits.specs.declared.style.Style.{Style}
use Rattle.xi_plain.specs.declared.span.WireSpan.{WireSpan}
use Rattle.find_core.specs.Matches.{matches_of}

-- what is marked
abbrev pub mark : List ℕ
mark = codes "TODO"

-- THE MARKS of a chunk: where its bytes are those of `TODO`, from the left, none over another
abbrev pub marks_of : List ℕ → List Run
marks_of chunk = matches_of (encode_utf8_all chunk) mark false

-- how marks look: bold
abbrev pub bold : Style
bold = record { fg_color = None; bg_color = None; weight = Some 700; italic = None; underline = None }

-- the span of a mark
abbrev pub mark_span : Run → WireSpan
mark_span run = record { start = run.start; end = run.end; style = bold }

-- the spans of a chunk
abbrev pub spans_of : List ℕ → List WireSpan
spans_of chunk = map mark_span (marks_of chunk)
