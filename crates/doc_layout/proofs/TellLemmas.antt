-- What a layout tells: its text, its pieces, and the gaps of its carets.
use Rattle.std.proofs.Common.{◌≡◌, ◌≢◌, ℕ, zero, suc, ◌+◌, ◌-◌, ◌<◌, ◌≤◌, Bool, true, false, cond, List, [], ◌∷◌, length, map, Some, refl, ap, sym, subst, ◌∙◌, arith, inl, inr}
use Rattle.std.specs.Prelude.{◌||◌, option_map, slice_get, unwrap_or}
use Rattle.std.specs.List.{concat, filter, range_with_len}
use Rattle.std.proofs.lemmas.Bool.{eq-eqb, ne_eqb, cases_lt}
use Rattle.plain_text.specs.declared.run.Run.{Run}
use Rattle.plain_text.specs.declared.selection.Region.{Region}
use Rattle.plain_text.specs.Numbers.{has}
use Rattle.plain_text.specs.Text.{place_of}
use Rattle.plain_text.proofs.callers.PlaceLemmas.{place_of-rises_strictly}
use Rattle.plain_edits.specs.Styles.{Layer}
use Rattle.plain_screen.specs.declared.piece.Piece.{Piece}
use Rattle.plain_screen.specs.declared.screen.Line.{Line}
use Rattle.plain_screen.specs.View.{ArePieces, layout_line_of}
use Rattle.plain_screen.proofs.callers.ViewLemmas.{IsLayoutLineOf-layout_line_of, pieces-text}
use Rattle.line_render.specs.Rendered.{carets_of, cursor_of, is_last_piece, own_gaps, text_of_piece}
use Rattle.line_render.proofs.ForCallers.{own-layout_line_of, pieces-told}
use Rattle.doc_layout.specs.Layout.{layout, layout_line}

-- ---- the text

texts-layout : (text : List ℕ) (regions : List Region) (results : List Run) (layers : List Layer) (pieces : List Piece) →
    map (λ (line : Line). line.text) (layout text pieces regions results layers) ≡ map (text_of_piece text) pieces
texts-layout text regions results layers [] = refl
texts-layout text regions results layers (piece ∷ pieces) = ap (λ ts. text_of_piece text piece ∷ ts) (texts-layout text regions results layers pieces)

text-layout : (text : List ℕ) (pieces : List Piece) (regions : List Region) (results : List Run) (layers : List Layer) → ArePieces text pieces →
    concat (map (λ (line : Line). line.text) (layout text pieces regions results layers)) ≡ text
text-layout text pieces regions results layers are = ap concat (texts-layout text regions results layers pieces) ∙ pieces-text text pieces are

-- ---- the pieces

numbers-layout : (text : List ℕ) (regions : List Region) (results : List Run) (layers : List Layer) (pieces : List Piece) →
    map (λ (line : Line). line.ln) (layout text pieces regions results layers) ≡ map (λ (piece : Piece). piece.ln) pieces
numbers-layout text regions results layers [] = refl
numbers-layout text regions results layers (piece ∷ pieces) = ap (λ ns. piece.ln ∷ ns) (numbers-layout text regions results layers pieces)

-- ---- the carets of a line

-- two gaps of a line stand at one place only where they are one
place-apart : (line : List ℕ) (gap other : ℕ) → gap ≤ length line → other ≤ length line → gap ≢ other → place_of line gap ≢ place_of line other
place-apart line gap other inside too apart = λ same.
    elim (cases_lt gap other) [
      | inl less ↦ omega (arith, same, place_of-rises_strictly line gap other less too)
      | inr more ↦ omega (arith, same, place_of-rises_strictly line other gap (omega (arith, more, apart)) inside)
    ]

-- the places of the gaps that pass a test
abbrev places : List ℕ → (ℕ → Bool) → ℕ → ℕ → List ℕ
places line p from count = map (place_of line) (filter p (range_with_len from count))

has-first : (n m : ℕ) (ns : List ℕ) → n ≡ m → has (n ∷ ns) m ≡ true
has-first n m ns same = ap (λ b. b || has ns m) (eq-eqb n m same)

has-other : (n m : ℕ) (ns : List ℕ) → n ≢ m → has (n ∷ ns) m ≡ has ns m
has-other n m ns apart = ap (λ b. b || has ns m) (ne_eqb n m apart)

no_place : (line : List ℕ) (p : ℕ → Bool) (from count gap : ℕ) → gap < from → from + count ≤ length line + 1 → has (places line p from count) (place_of line gap) ≡ false
no_place line p from zero gap past inside = refl
no_place line p from (suc count) gap past inside = by (p from) (no_place line p (from + 1) count gap (omega arith) (omega arith))
  where
    by : (b : Bool) → has (places line p (from + 1) count) (place_of line gap) ≡ false →
        has (map (place_of line) (cond b (from ∷ filter p (range_with_len (from + 1) count)) (filter p (range_with_len (from + 1) count)))) (place_of line gap) ≡ false
    by true rest =
        has-other (place_of line from) (place_of line gap) _ (place-apart line from gap (omega arith) (omega arith) (λ same. omega arith)) ∙ rest
    by false rest = rest

place_there : (line : List ℕ) (p : ℕ → Bool) (from count gap : ℕ) → from ≤ gap → gap < from + count → from + count ≤ length line + 1 →
    has (places line p from count) (place_of line gap) ≡ p gap
place_there line p from zero gap low high inside = absurd (omega arith)
place_there line p from (suc count) gap low high inside = elim (cases_lt from gap) [
  | inl less ↦ later (p from) less (place_there line p (from + 1) count gap (omega arith) (omega arith) (omega arith))
  | inr more ↦ let same : from ≡ gap = omega arith in here (p from) same (ap p same)
]
  where
    rest : List ℕ
    rest = filter p (range_with_len (from + 1) count)

    later : (b : Bool) → from < gap → has (map (place_of line) rest) (place_of line gap) ≡ p gap →
        has (map (place_of line) (cond b (from ∷ rest) rest)) (place_of line gap) ≡ p gap
    later true less found =
        has-other (place_of line from) (place_of line gap) _ (place-apart line from gap (omega arith) (omega arith) (λ same. omega arith)) ∙ found
    later false less found = found

    here : (b : Bool) → from ≡ gap → b ≡ p gap → has (map (place_of line) (cond b (from ∷ rest) rest)) (place_of line gap) ≡ p gap
    here true same is = has-first (place_of line from) (place_of line gap) _ (ap (place_of line) same) ∙ is
    here false same is = no_place line p (from + 1) count gap (omega arith) (omega arith) ∙ is

-- a gap of the line's own is one of a caret exactly where its place is told
own-told : (carets : List ℕ) (start gaps gap : ℕ) (line : List ℕ) → start ≤ gap → gap < start + gaps → gaps ≤ length line + 1 →
    has (cursor_of carets start gaps line) (place_of line (gap - start)) ≡ has carets gap
own-told carets start gaps gap line low high inside =
    place_there line (λ g. has carets (start + g)) 0 gaps (gap - start) (omega arith) (omega arith) (omega arith) ∙
    ap (has carets) (let back : start + (gap - start) ≡ gap = omega arith in back)

-- ---- the carets of a layout

own_gaps-le : (last : Bool) (len : ℕ) → own_gaps last len ≤ len + 1
own_gaps-le true len = omega arith
own_gaps-le false len = omega arith

slice-inside : {X : Type 0} (xs : List X) (index : ℕ) → index < length xs → (x : X) × (slice_get xs index ≡ Some x)
slice-inside [] index inside = absurd (omega arith)
slice-inside (x ∷ xs) zero inside = (x, refl)
slice-inside (x ∷ xs) (suc index) inside = slice-inside xs index (omega arith)

slice-map : {X Y : Type 0} (f : X → Y) (xs : List X) (index : ℕ) → slice_get (map f xs) index ≡ option_map f (slice_get xs index)
slice-map f [] index = refl
slice-map f (x ∷ xs) zero = refl
slice-map f (x ∷ xs) (suc index) = slice-map f xs index

lines-same : (text : List ℕ) (pieces : List Piece) (regions others : List Region) (results founds : List Run) (layers styles : List Layer) (index : ℕ) (piece : Piece) →
    layout text pieces regions results layers ≡ layout text pieces others founds styles → slice_get pieces index ≡ Some piece →
    layout_line text regions results layers piece ≡ layout_line text others founds styles piece
lines-same text pieces regions others results founds layers styles index piece same is =
    let one : Piece → Line = layout_line text regions results layers in
    let other : Piece → Line = layout_line text others founds styles in
    let at : option_map one (slice_get pieces index) ≡ option_map other (slice_get pieces index) =
    sym (slice-map one pieces index) ∙ ap (λ ls. slice_get ls index) same ∙ slice-map other pieces index in
    ap (λ o. unwrap_or o (one piece)) (sym (ap (option_map one) is) ∙ at ∙ ap (option_map other) is)

carets-told : (text : List ℕ) (pieces : List Piece) (regions others : List Region) (results founds : List Run) (layers styles : List Layer) (gap : ℕ) → ArePieces text pieces →
    layout text pieces regions results layers ≡ layout text pieces others founds styles → gap ≤ length text → has (carets_of regions) gap ≡ has (carets_of others) gap
carets-told text pieces regions others results founds layers styles gap are same inside =
    let index = layout_line_of pieces gap in
    let there = slice-inside pieces index (IsLayoutLineOf-layout_line_of text pieces gap are).inside in
    let piece = there.0 in
    let line = text_of_piece text piece in
    let gaps = own_gaps (is_last_piece text piece) (length line) in
    let own = (own-layout_line_of text pieces index piece gap are there.1 inside).1 refl in
    let fits = own_gaps-le (is_last_piece text piece) (length line) in
    sym (own-told (carets_of regions) piece.start gaps gap line own.0 own.1 fits) ∙
    ap (λ (l : Line). has l.cursor (place_of line (gap - piece.start))) (lines-same text pieces regions others results founds layers styles index piece same there.1) ∙
    own-told (carets_of others) piece.start gaps gap line own.0 own.1 fits

pub layouts-tell : (text other : List ℕ) (pieces parts : List Piece) (regions others : List Region) (results founds : List Run) (layers styles : List Layer) →
    ArePieces text pieces → ArePieces other parts → layout text pieces regions results layers ≡ layout other parts others founds styles →
    (text ≡ other) × (pieces ≡ parts) × ((gap : ℕ) → gap ≤ length text → has (carets_of regions) gap ≡ has (carets_of others) gap)
layouts-tell text other pieces parts regions others results founds layers styles are cut same =
    (texts, cuts, λ gap inside. carets-told text pieces regions others results founds layers styles gap are one inside)
  where
    texts : text ≡ other
    texts =
        sym (text-layout text pieces regions results layers are) ∙
        ap (λ lines. concat (map (λ (line : Line). line.text) lines)) same ∙
        text-layout other parts others founds styles cut

    again : layout text pieces regions results layers ≡ layout text parts others founds styles
    again = same ∙ ap (λ t. layout t parts others founds styles) (sym texts)

    cuts : pieces ≡ parts
    cuts =
        pieces-told text pieces parts are (subst (λ t. ArePieces t parts) (sym texts) cut)
        (sym (texts-layout text regions results layers pieces) ∙ ap (map (λ (line : Line). line.text)) again ∙ texts-layout text others founds styles parts)
        (sym (numbers-layout text regions results layers pieces) ∙ ap (map (λ (line : Line). line.ln)) again ∙ numbers-layout text others founds styles parts)

    one : layout text pieces regions results layers ≡ layout text pieces others founds styles
    one = again ∙ ap (λ ps. layout text ps others founds styles) (sym cuts)
