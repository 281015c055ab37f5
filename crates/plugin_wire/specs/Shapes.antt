-- Shapes: which values of JSON are numbers, texts, deltas and spans.
use Rattle.std.specs.Prelude.{ℕ, ◌^◌, Bool, ◌&&◌, if◌then◌else◌, nat_lt, nat_le, List, [], ◌∷◌, codes, Option, Some, None, is_some, option_map, option_and_then}
use Rattle.std.specs.Str.{chars}
use Rattle.plain_edits.specs.declared.delta.El.{El}
use Rattle.plain_edits.specs.declared.delta.El.TheVariants.{Copy, Insert}
use Rattle.plain_edits.specs.declared.delta.Delta.{Delta}
use Rattle.plain_edits.specs.declared.style.Style.{Style}
use Rattle.xi_plain.specs.declared.span.WireSpan.{WireSpan}
use Rattle.serde_json.specs.Data.{Data, Items, no_items, item}
use Rattle.serde_json.specs.Find.{get, as_null, as_bool, as_number, as_str, as_array, as_object, as_u64}

-- the number, if it is below the limit
abbrev pub under : ℕ → ℕ → Option ℕ
under limit n = if nat_lt n limit then Some n else None

-- the whole number that a value is, if it is one from 0 up to the limit, which is not included
abbrev pub whole_shape : ℕ → Data → Option ℕ
whole_shape limit d = option_and_then (under limit) (option_and_then as_u64 (as_number d))

-- the characters of a text
abbrev pub text_shape : Data → Option (List ℕ)
text_shape d = option_map chars (as_str d)

-- what the member of this name is, if it is there and of the shape; what is no object has no members
abbrev pub member_shape : {A : Type 0} → (Data → Option A) → List ℕ → Data → Option A
member_shape shape name d = option_and_then shape (get name d)

-- a member that counts: null counts as absent
abbrev pub given : Option Data → Option Data
given None = None
given (Some d) = if is_some (as_null d) then None else Some d

-- what a value is, if there is one
abbrev pub shape_if_any : {A : Type 0} → (Data → Option A) → Option Data → Option (Option A)
shape_if_any shape None = Some None
shape_if_any shape (Some d) = option_map Some (shape d)

-- a member that may be absent or null, and is else of the shape
abbrev pub optional_shape : {A : Type 0} → (Data → Option A) → Option Data → Option (Option A)
optional_shape shape member = shape_if_any shape (given member)

-- what each value is, if all are of the shape
abbrev pub each_shape : {A : Type 0} → (Data → Option A) → Items → Option (List A)
each_shape shape no_items = Some []
each_shape shape (item d ds) = option_and_then (λ x. option_map (λ xs. x ∷ xs) (each_shape shape ds)) (shape d)

-- the items of a list whose values are all of the shape
abbrev pub list_shape : {A : Type 0} → (Data → Option A) → Data → Option (List A)
list_shape shape d = option_and_then (each_shape shape) (as_array d)

-- the copy between the two offsets that are the items, below the limit
abbrev pub copy_items : ℕ → Items → Option El
copy_items limit no_items = None
copy_items limit (item a no_items) = None
copy_items limit (item a (item b no_items)) = option_and_then (λ from. option_map (Copy from) (whole_shape limit b)) (whole_shape limit a)
copy_items limit (item a (item b (item c ds))) = None

-- the copy that a value is
abbrev pub copy_shape : ℕ → Data → Option El
copy_shape limit d = option_and_then (copy_items limit) (as_array d)

-- the element with these members, `copy` and `insert`, of which just one has to be there
abbrev pub el_from : Option (Option El) → Option (Option (List ℕ)) → Option El
el_from None None = None
el_from (Some copy) None = copy
el_from None (Some text) = option_map Insert text
el_from (Some copy) (Some text) = None

-- the element of a delta that a value is
abbrev pub el_shape : ℕ → Data → Option El
el_shape limit d = el_from (option_map (copy_shape limit) (get (codes "copy") d)) (option_map text_shape (get (codes "insert") d))

-- the delta of these members
abbrev pub delta_from : Option ℕ → Option (List El) → Option Delta
delta_from base_len els = option_and_then (λ n. option_map (λ xs. record { els = xs; base_len = n }) els) base_len

-- the delta that a value is, with offsets below the limit
abbrev pub delta_shape : ℕ → Data → Option Delta
delta_shape limit d = delta_from (member_shape (whole_shape limit) (codes "base_len") d) (member_shape (list_shape (el_shape limit)) (codes "els") d)

-- the style of these members, each of which may be absent
abbrev pub style_from : Option (Option ℕ) → Option (Option ℕ) → Option (Option ℕ) → Option (Option Bool) → Option (Option Bool) → Option Style
style_from (Some fg) (Some bg) (Some weight) (Some italic) (Some underline) =
    Some (record { fg_color = fg; bg_color = bg; weight = weight; italic = italic; underline = underline })
style_from fg bg weight italic underline = None

-- the style of the members of a value: colours below 2^32, and a weight of at most 1,000
abbrev pub style_members : Data → Option Style
style_members d =
    style_from (optional_shape (whole_shape (2 ^ 32)) (get (codes "fg_color") d)) (optional_shape (whole_shape (2 ^ 32)) (get (codes "bg_color") d))
    (optional_shape (whole_shape 1001) (get (codes "weight") d))
    (optional_shape as_bool (get (codes "italic") d)) (optional_shape as_bool (get (codes "underline") d))

-- the style that a value is: it is an object
abbrev pub style_shape : Data → Option Style
style_shape d = if is_some (as_object d) then style_members d else None

-- the span of these members, which does not end before it starts, nor past the length
abbrev pub span_from : ℕ → Option ℕ → Option ℕ → Option Style → Option WireSpan
span_from len (Some start) (Some end) (Some style) =
    if nat_le start end && nat_le end len then Some (record { start = start; end = end; style = style }) else None
span_from len start end style = None

-- the span within so many bytes that a value is
abbrev pub span_shape : ℕ → Data → Option WireSpan
span_shape len d =
    span_from len (member_shape (whole_shape (2 ^ 63)) (codes "start") d) (member_shape (whole_shape (2 ^ 63)) (codes "end") d)
    (member_shape style_shape (codes "style") d)

-- the spans within so many bytes that a value is
abbrev pub spans_shape : ℕ → Data → Option (List WireSpan)
spans_shape len d = list_shape (span_shape len) d
