-- What spans come to in memory.
use Rattle.std.specs.Prelude.{◌≡◌, List, ◌++◌, Option, unwrap_or}
use Rattle.plain_edits.specs.declared.style.Style.{Style}
use Rattle.xi_plain.specs.declared.span.WireSpan.{WireSpan}
use Rattle.style_numbers.specs.declared.numbered.Numbered.{Numbered}
use Rattle.style_numbers.specs.Numbers.{new_style, new_styles, spans_with_ids, styles_with, with_style}

-- the table after spans, where this one was there before, and one was made where a style is new
abbrev pub table_after : List Style → Option (List Style) → List Style
table_after table grown = unwrap_or grown table

-- what spans come to: those by the ids of their styles, the styles that are new, and the table after them
pub record IsNumbered (styles : List Style) (given : List WireSpan) (made : Numbered) : Type 0 where
  pub spans : made.spans ≡ spans_with_ids styles given
  pub fresh : made.fresh ≡ new_styles styles given
  pub table : table_after styles made.grown ≡ styles_with styles given

-- so far: with what the rest comes to, this is what all of them come to
pub record IsNumbering (styles : List Style) (all rest : List WireSpan) (made : Numbered) : Type 0 where
  pub spans : made.spans ++ spans_with_ids (table_after styles made.grown) rest ≡ spans_with_ids styles all
  pub fresh : made.fresh ++ new_styles (table_after styles made.grown) rest ≡ new_styles styles all
  pub table : styles_with (table_after styles made.grown) rest ≡ styles_with styles all

-- a style has an id then, and is told where it is new; the spans are as before
pub record HasStyle (styles : List Style) (style : Style) (old new : Numbered) : Type 0 where
  pub table : table_after styles new.grown ≡ with_style (table_after styles old.grown) style
  pub fresh : new.fresh ≡ old.fresh ++ new_style (table_after styles old.grown) style
  pub spans : new.spans ≡ old.spans
