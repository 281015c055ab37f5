-- THE STYLES OF A SESSION: which ids the styles of spans have in its table, and which of them are new.
use Rattle.std.specs.Prelude.{ℕ, ◌+◌, ◌&&◌, nat_eq, Bool, if◌then◌else◌, List, [], ◌∷◌, ◌++◌, Option, Some, None, unwrap_or}
use Rattle.std.specs.Bool.{beq}
use Rattle.std.specs.Option.{option_eq}
use Rattle.plain_edits.specs.declared.style.Span.{Span}
use Rattle.plain_edits.specs.declared.style.Style.{Style}
use Rattle.xi_plain.specs.declared.span.WireSpan.{WireSpan}
use Rattle.span_styles.specs.Table.{next_id}
use Rattle.view_update.specs.declared.note.NumberedStyle.{NumberedStyle}

-- whether two styles say the same of each member
abbrev pub is_same : Style → Style → Bool
is_same a b =
    option_eq nat_eq a.fg_color b.fg_color && (option_eq nat_eq a.bg_color b.bg_color && (option_eq nat_eq a.weight b.weight &&
    (option_eq beq a.italic b.italic && option_eq beq a.underline b.underline)))

-- the id of a style in a list whose first style has this one, and each other the next; nothing where it is not there
abbrev pub id_from : ℕ → List Style → Style → Option ℕ
id_from id [] style = None
id_from id (first ∷ styles) style = if is_same first style then Some id else id_from (id + 1) styles style

-- the id of a style in a table, where ids count from 2
abbrev pub id_of : List Style → Style → Option ℕ
id_of styles style = id_from 2 styles style

-- the id that a style has in a table, or gets as the next one
abbrev pub id_for : List Style → Style → ℕ
id_for styles style = unwrap_or (id_of styles style) (next_id styles)

-- the table in which a style has an id: one that had none stands behind the others
abbrev pub defined_by : Option ℕ → List Style → Style → List Style
defined_by None styles style = styles ++ style ∷ []
defined_by (Some id) styles style = styles

abbrev pub with_style : List Style → Style → List Style
with_style styles style = defined_by (id_of styles style) styles style

-- the style with its id, where it had none
abbrev pub new_by : Option ℕ → List Style → Style → List NumberedStyle
new_by None styles style = record { id = next_id styles; style = style } ∷ []
new_by (Some id) styles style = []

abbrev pub new_style : List Style → Style → List NumberedStyle
new_style styles style = new_by (id_of styles style) styles style

-- THE TABLE AFTER SPANS: each of their styles has an id in it, also one of a span of no characters
abbrev pub styles_with : List Style → List WireSpan → List Style
styles_with styles [] = styles
styles_with styles (span ∷ spans) = styles_with (with_style styles span.style) spans

-- THE STYLES THAT ARE NEW, with their ids, in the order in which the spans use them
abbrev pub new_styles : List Style → List WireSpan → List NumberedStyle
new_styles styles [] = []
new_styles styles (span ∷ spans) = new_style styles span.style ++ new_styles (with_style styles span.style) spans

-- THE SPANS by the ids of their styles
abbrev pub with_id : ℕ → WireSpan → Span
with_id id span = record { start = span.start; end = span.end; style = id }

abbrev pub spans_with_ids : List Style → List WireSpan → List Span
spans_with_ids styles [] = []
spans_with_ids styles (span ∷ spans) = with_id (id_for styles span.style) span ∷ spans_with_ids (with_style styles span.style) spans
