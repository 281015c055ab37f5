-- Whether two lines, and two layouts, are the same.
use Rattle.std.specs.Prelude.{ℕ, Bool, true, false, ◌&&◌, ◌==◌, List, Option, Some, None}
use Rattle.std.specs.Str.{bytes_eq}
use Rattle.std.specs.Ordering.{int_eq}
use Rattle.std.specs.Cmp.Lexicographic.{pointwise}
use Rattle.plain_screen.specs.declared.screen.Triple.{Triple}
use Rattle.plain_screen.specs.declared.screen.Line.{Line}

-- two triples: start, length and id
abbrev pub is_same_triple : Triple → Triple → Bool
is_same_triple t u = int_eq t.start u.start && (t.len == u.len && t.id == u.id)

-- two numbers of lines, or two lines without one
abbrev pub is_same_number : Option ℕ → Option ℕ → Bool
is_same_number None None = true
is_same_number None (Some n) = false
is_same_number (Some m) None = false
is_same_number (Some m) (Some n) = m == n

-- two lines: text, number, carets and styles
abbrev pub is_same_line : Line → Line → Bool
is_same_line line other =
    bytes_eq line.text other.text && (is_same_number line.ln other.ln &&
    (bytes_eq line.cursor other.cursor && pointwise is_same_triple line.styles other.styles))

-- THE SAME LAYOUT: as many lines, and each the same
abbrev pub is_same_layout : List Line → List Line → Bool
is_same_layout lines others = pointwise is_same_line lines others
