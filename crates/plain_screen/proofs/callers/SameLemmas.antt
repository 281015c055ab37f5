-- Two lines, and two layouts, are the same exactly where the test says so.
use Rattle.std.proofs.Common.{◌≡◌, ℕ, List, Option, Some, None, refl, ap}
use Rattle.std.specs.Bool.{Decides}
use Rattle.std.specs.Str.{bytes_eq}
use Rattle.std.specs.Ordering.{int_eq}
use Rattle.std.specs.Prelude.{◌==◌, ◌&&◌}
use Rattle.std.specs.Cmp.Lexicographic.{pointwise}
use Rattle.std.proofs.lemmas.Bool.Decides.{Decides-and, Decides-like, Decides-eqb, Decides-int_eq}
use Rattle.std.proofs.lemmas.Slice.Eq.{bytes_eq-Decides, slice_eq-Decides}
use Rattle.plain_screen.specs.declared.screen.Triple.{Triple}
use Rattle.plain_screen.specs.declared.screen.Line.{Line}
use Rattle.plain_screen.specs.SameLayout.{is_same_triple, is_same_number, is_same_line, is_same_layout}

triple-Decides : (t u : Triple) → Decides (is_same_triple t u) (t ≡ u)
triple-Decides t u =
    Decides-like (is_same_triple t u) (λ h. λ i. record { start = h.0 i; len = h.1.0 i; id = h.1.1 i })
    (λ e. (ap (λ (t : Triple). t.start) e, (ap (λ (t : Triple). t.len) e, ap (λ (t : Triple). t.id) e)))
    (Decides-and (int_eq t.start u.start) (t.len == u.len && t.id == u.id) (Decides-int_eq t.start u.start)
    (Decides-and (t.len == u.len) (t.id == u.id) (Decides-eqb t.len u.len) (Decides-eqb t.id u.id)))

number-Decides : (m n : Option ℕ) → Decides (is_same_number m n) (m ≡ n)
number-Decides None None = (λ _. refl, λ _. refl)
number-Decides None (Some n) = (λ e. absurd cc, λ e. absurd cc)
number-Decides (Some m) None = (λ e. absurd cc, λ e. absurd cc)
number-Decides (Some m) (Some n) = Decides-like (m == n) (λ e. ap Some e) (λ e. cc) (Decides-eqb m n)

pub is_same_line-Decides : (line other : Line) → Decides (is_same_line line other) (line ≡ other)
is_same_line-Decides line other =
    let styles = slice_eq-Decides triple-Decides line.styles other.styles (pointwise is_same_triple line.styles other.styles) refl in
    let cursors =
    Decides-and (bytes_eq line.cursor other.cursor) (pointwise is_same_triple line.styles other.styles) (bytes_eq-Decides line.cursor other.cursor) styles in
    let numbers =
    Decides-and (is_same_number line.ln other.ln) (bytes_eq line.cursor other.cursor && pointwise is_same_triple line.styles other.styles)
    (number-Decides line.ln other.ln) cursors in
    Decides-like (is_same_line line other) (λ h. λ i. record { text = h.0 i; ln = h.1.0 i; cursor = h.1.1.0 i; styles = h.1.1.1 i })
    (λ e. (ap (λ (l : Line). l.text) e, (ap (λ (l : Line). l.ln) e, (ap (λ (l : Line). l.cursor) e, ap (λ (l : Line). l.styles) e))))
    (Decides-and (bytes_eq line.text other.text)
    (is_same_number line.ln other.ln && (bytes_eq line.cursor other.cursor && pointwise is_same_triple line.styles other.styles))
    (bytes_eq-Decides line.text other.text) numbers)

pub is_same_layout-Decides : (lines others : List Line) → Decides (is_same_layout lines others) (lines ≡ others)
is_same_layout-Decides lines others = slice_eq-Decides is_same_line-Decides lines others (is_same_layout lines others) refl
