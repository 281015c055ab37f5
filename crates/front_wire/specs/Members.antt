-- MEMBERS: what the parameters of a method give, and the first that is missing or of another shape.
use Rattle.std.specs.Prelude.{ℕ, ◌+◌, ◌^◌, ◌&&◌, ◌||◌, pos, negsuc, nat_le, nat_lt, Bool, true, false, not, is_some, if◌then◌else◌, List, [], ◌∷◌, slice_get, codes, Option, Some, None, option_map, option_and_then, unwrap_or}
use Rattle.std.specs.Str.{chars, bytes_eq}
use Rattle.serde_json.specs.Data.{Num, unsigned, negative, float, Data, null, boolean, number, string, array, object}
use Rattle.serde_json.specs.Find.{get, at, as_null, as_bool, as_number, as_str, as_object}
use Rattle.case_front.specs.declared.member.Kind.{Kind}
use Rattle.case_front.specs.declared.member.Kind.TheVariants.{Word, Whole, Truth, Object, Any}
use Rattle.case_front.specs.Members.{PlainMember}
use Rattle.case_front.specs.Table.{Method, members_in}
use Rattle.xi_plain.specs.declared.motion.Touch.{Touch}
use Rattle.xi_plain.specs.declared.motion.Touch.TheVariants as On

-- whether the name is a number: then it names the item of a list
abbrev pub is_item : List ℕ → Bool
is_item [] = false
is_item (b ∷ bytes) = nat_le 48 b && nat_le b 57

-- what stands there for a member, by its name and its place among the members
abbrev pub found : PlainMember → ℕ → Data → Option Data
found m place params = if is_item m.name then at place params else get m.name params

-- the greatest whole number that a front end may send, on either side of 0
abbrev pub most : ℕ
most = 2 ^ 40

-- the number that a whole one counts as: one below 0 counts as 0, and one beyond the greatest is none
abbrev pub whole_number : Num → Option ℕ
whole_number (unsigned n) = if nat_le n most then Some n else None
whole_number (negative (pos n)) = Some 0
whole_number (negative (negsuc n)) = if nat_lt n most then Some 0 else None
whole_number (float x) = None

abbrev pub whole_of : Data → Option ℕ
whole_of d = option_and_then whole_number (as_number d)

-- where a gesture touches, by its name
abbrev pub touch_named : List ℕ → Option Touch
touch_named name =
    if bytes_eq name (codes "point_select") then Some On.Point else (if bytes_eq name (codes "toggle_sel") then Some On.Toggle else (
    if bytes_eq name (codes "range_select") then Some On.Range else (if bytes_eq name (codes "word_select") then Some On.Word else (
    if bytes_eq name (codes "line_select") then Some On.Line else None))))

abbrev pub touch_of : Data → Option Touch
touch_of d = option_and_then touch_named (as_str d)

-- whether the value is true
abbrev pub is_true : Option Bool → Bool
is_true None = false
is_true (Some b) = b

-- whether the value is of the kind
abbrev pub is_of : Kind → Data → Bool
is_of Word d = is_some (as_str d)
is_of Whole d = is_some (whole_of d)
is_of Truth d = is_some (as_bool d)
is_of Object d = is_some (as_object d)
is_of Any d = true

-- whether a member of this name may have the value: there are five gestures, and no search goes by a pattern or by whole words
abbrev pub may_be : List ℕ → Data → Bool
may_be name d =
    if bytes_eq name (codes "ty") then is_some (touch_of d) else (
    if bytes_eq name (codes "regex") || bytes_eq name (codes "whole_words") then not (is_true (as_bool d)) else true)

-- whether the value is right for a member; null counts as absent where the member may be left out
abbrev pub is_right : PlainMember → Data → Bool
is_right m d = (m.optional && is_some (as_null d)) || (is_of m.kind d && may_be m.name d)

-- whether what stands there is right
abbrev pub is_given : PlainMember → Option Data → Bool
is_given m None = m.optional
is_given m (Some d) = is_right m d

-- the first of the members that is missing or of another shape; the first of them has this place
abbrev pub first_bad : ℕ → List PlainMember → Data → Option (List ℕ)
first_bad place [] params = None
first_bad place (m ∷ members) params = if is_given m (found m place params) then first_bad (place + 1) members params else Some m.name

-- the members of the method in a row; none where there is no such row
unfoldable pub members_of_row : List Method → ℕ → List PlainMember
members_of_row table row = unwrap_or (slice_get (members_in table) row) []

-- what stands there for the member at a place
abbrev pub given : List PlainMember → Data → ℕ → Option Data
given members params place = option_and_then (λ m. found m place params) (slice_get members place)

-- what a member gives, where it is right: a text, a text that may be left out, a number, a truth that may be left out, a touch
abbrev pub text_if_any : Option Data → Option (List ℕ)
text_if_any d = option_map chars (option_and_then as_str d)

abbrev pub text : Option Data → List ℕ
text d = unwrap_or (text_if_any d) []

abbrev pub whole : Option Data → ℕ
whole d = unwrap_or (option_and_then whole_of d) 0

abbrev pub truth : Option Data → Option Bool
truth d = option_and_then as_bool d

abbrev pub touch : Option Data → Touch
touch d = unwrap_or (option_and_then touch_of d) On.Point
