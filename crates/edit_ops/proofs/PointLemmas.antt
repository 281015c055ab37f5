-- Points of a view, and the word and the line at a gap.
use Rattle.std.proofs.Common.{◌≡◌, ⊎_elim, ℕ, zero, suc, ◌+◌, ◌-◌, ◌^◌, ◌<◌, ◌≤◌, Bool, true, List, [], ◌∷◌, length, take, drop, reverse, refl, sym, ap, ap₂, subst, ◌∙◌, arith, length-drop}
use Rattle.std.specs.Prelude.{min, nat_le, ◌&&◌, if◌then◌else◌, slice_range}
use Rattle.std.specs.Char.{len_utf8}
use Rattle.std.specs.Str.{all_scalars}
use Rattle.std.proofs.lemmas.Bool.{cases_lt, le-leb, le-ltb, lt-leb, lt-ltb}
use Rattle.std.proofs.lemmas.List.{length-reverse, length-take-le, take-append-drop, take-append-le}
use Rattle.std.proofs.Math.Seq.{take-nil}
use Rattle.std.proofs.lemmas.Str.{len_utf8_bounds}
use Rattle.plain_text.specs.Text.{byte_len}
use Rattle.plain_text.specs.declared.run.Run.{Run}
use Rattle.plain_screen.specs.declared.piece.Piece.{Piece}
use Rattle.plain_screen.specs.View.{ArePieces, LogicalLine, extent_of, layout_line_of}
use Rattle.selection_core.specs.Selection.{greater_end, spanning}
use Rattle.movement_core.specs.Lines.{IsLastGap, StartAtPlaces, belongs_to, line_under, start_of}
use Rattle.movement_core.specs.Places.{IsGreatestPlace, greatest_place}
use Rattle.movement_core.specs.Words.{run_len}
use Rattle.movement_core.proofs.ForCallers.{greatest_place-within, run_len-le, under-le, under-own}
use Rattle.edit_ops.specs.Inner.{gaps_within}
use Rattle.edit_ops.specs.Points.{gap_of_point, line_around, word_around}

-- ---- the first characters that take at most so many bytes

abbrev Within : ℕ → ℕ → List ℕ → Bool → ℕ
Within bytes c characters b = if b then 0 else 1 + gaps_within (bytes - len_utf8 c) characters

pub gaps_within-stop : (bytes c : ℕ) (characters all : List ℕ) → all ≡ c ∷ characters → bytes < len_utf8 c → gaps_within bytes all ≡ 0
gaps_within-stop bytes c characters all is less = ap (gaps_within bytes) is ∙ ap (Within bytes c characters) (lt-ltb bytes (len_utf8 c) less)

pub gaps_within-step : (bytes c : ℕ) (characters all : List ℕ) → all ≡ c ∷ characters → len_utf8 c ≤ bytes →
    gaps_within bytes all ≡ 1 + gaps_within (bytes - len_utf8 c) characters
gaps_within-step bytes c characters all is fits = ap (gaps_within bytes) is ∙ ap (Within bytes c characters) (le-ltb bytes (len_utf8 c) fits)

pub gaps_within-le : (bytes : ℕ) (characters : List ℕ) → gaps_within bytes characters ≤ length characters
gaps_within-le bytes [] = omega arith
gaps_within-le bytes (c ∷ characters) =
    ⊎_elim
    (λ (less : bytes < len_utf8 c). omega (arith, gaps_within-stop bytes c characters (c ∷ characters) refl less))
    (λ (fits : len_utf8 c ≤ bytes).
    omega (arith, gaps_within-step bytes c characters (c ∷ characters) refl fits, gaps_within-le (bytes - len_utf8 c) characters))
    (cases_lt bytes (len_utf8 c))

gaps_within-fits : (n bytes : ℕ) (characters : List ℕ) → n ≤ gaps_within bytes characters → byte_len (take n characters) ≤ bytes
gaps_within-fits zero bytes characters le = omega arith
gaps_within-fits (suc n) bytes [] le = absurd (omega arith)
gaps_within-fits (suc n) bytes (c ∷ characters) le =
    ⊎_elim
    (λ (less : bytes < len_utf8 c). absurd (omega (arith, gaps_within-stop bytes c characters (c ∷ characters) refl less)))
    (λ (fits : len_utf8 c ≤ bytes).
    let is = gaps_within-step bytes c characters (c ∷ characters) refl fits in
    let rest = gaps_within-fits n (bytes - len_utf8 c) characters (omega arith) in omega arith)
    (cases_lt bytes (len_utf8 c))

gaps_within-misfits : (n bytes : ℕ) (characters : List ℕ) → gaps_within bytes characters < n → n ≤ length characters → bytes < byte_len (take n characters)
gaps_within-misfits zero bytes characters past le = absurd (omega arith)
gaps_within-misfits (suc n) bytes [] past le = absurd (omega arith)
gaps_within-misfits (suc n) bytes (c ∷ characters) past le =
    ⊎_elim
    (λ (less : bytes < len_utf8 c). omega arith)
    (λ (fits : len_utf8 c ≤ bytes).
    let is = gaps_within-step bytes c characters (c ∷ characters) refl fits in
    let rest = gaps_within-misfits n (bytes - len_utf8 c) characters (omega arith) (omega arith) in omega arith)
    (cases_lt bytes (len_utf8 c))

-- so many bytes hold no more characters than that
gaps_within-taken : (bytes n : ℕ) (characters : List ℕ) → bytes ≤ n → gaps_within bytes (take n characters) ≡ gaps_within bytes characters
gaps_within-taken bytes zero [] le = refl
gaps_within-taken bytes (suc n) [] le = refl
gaps_within-taken bytes zero (c ∷ characters) le =
    sym (gaps_within-stop bytes c characters (c ∷ characters) refl (let some = (len_utf8_bounds c).0 in omega arith))
gaps_within-taken bytes (suc n) (c ∷ characters) le =
    let some = (len_utf8_bounds c).0 in
    ⊎_elim
    (λ (less : bytes < len_utf8 c).
    gaps_within-stop bytes c (take n characters) (c ∷ take n characters) refl less ∙ sym (gaps_within-stop bytes c characters (c ∷ characters) refl less))
    (λ (fits : len_utf8 c ≤ bytes).
    gaps_within-step bytes c (take n characters) (c ∷ take n characters) refl fits ∙
    ap (λ (m : ℕ). 1 + m) (gaps_within-taken (bytes - len_utf8 c) n characters (omega arith)) ∙
    sym (gaps_within-step bytes c characters (c ∷ characters) refl fits))
    (cases_lt bytes (len_utf8 c))

-- ---- the gap of a point

take-front : (n k : ℕ) (characters : List ℕ) → n ≤ k → k ≤ length characters → take n characters ≡ take n (take k characters)
take-front n k characters le inside =
    ap (take n) (sym (take-append-drop k characters)) ∙
    take-append-le n (take k characters) (drop k characters) (omega (arith, length-take-le k characters inside))

module _ (text : List ℕ) (pieces : List Piece) (line last : ℕ) (are : ArePieces text pieces) (scalars : all_scalars text ≡ true)
    (starts : StartAtPlaces text pieces) (there : line < length pieces) (gaps : IsLastGap text pieces line last) where
  abbrev start : ℕ
  start = start_of pieces line

  abbrev part : List ℕ
  part = slice_range text start last

  part-long : length part ≡ last - start
  part-long = let inside = gaps.inside in length-take-le (last - start) (drop start text) (omega (arith, length-drop start text))

  part-front : (other : ℕ) → start ≤ other → other ≤ last → slice_range text start other ≡ take (other - start) part
  part-front other low high =
      let inside = gaps.inside in take-front (other - start) (last - start) (drop start text) (omega arith) (omega (arith, length-drop start text))

  pub point-within : (column : ℕ) → start + gaps_within column part ≤ last
  point-within column = let ordered = gaps.ordered in omega (arith, part-long, gaps_within-le column part)

  pub point-is : (column place : ℕ) → IsGreatestPlace (λ other. nat_le other (start + gaps_within column part)) text place → place ≡ gap_of_point text pieces line column
  point-is column place is =
      let ordered = gaps.ordered in
      let within = point-within column in
      let passes : ℕ → Bool = λ other. nat_le (byte_len (slice_range text start other)) column in
      greatest_place-within text pieces line last are scalars starts there gaps passes (start + gaps_within column part) place (omega arith) within
      (λ other low high.
      le-leb _ column
      (omega (arith, ap byte_len (part-front other low (omega arith)), gaps_within-fits (other - start) column part (omega arith))))
      (λ other past high.
      lt-leb _ column
      (omega (arith, ap byte_len (part-front other (omega arith) high), gaps_within-misfits (other - start) column part (omega arith) (omega (arith, part-long)))))
      is ∙
      sym (ap (λ b. if b then greatest_place (λ other. belongs_to pieces line other && passes other) text else length text) (lt-ltb line (length pieces) there))

  -- the same of what the code holds: where the piece starts, the characters of the line, and how many of them the column has room for
  part-taken : (column to : ℕ) → to ≡ min last (start + column) → gaps_within column (slice_range text start to) ≡ gaps_within column part
  part-taken column to is =
      ⊎_elim
      (λ (less : start + column < last).
      let all : to - start ≡ column = omega arith in
      let long : column ≤ length part = omega (arith, part-long) in
      let ordered = gaps.ordered in
      let inside = gaps.inside in
      ap (gaps_within column) (ap (λ (n : ℕ). take n (drop start text)) all ∙ take-front column (last - start) (drop start text) (omega arith) (omega (arith, length-drop start text))) ∙
      gaps_within-taken column column part (omega arith))
      (λ (whole : last ≤ start + column). let all : to ≡ last = omega arith in ap (λ (n : ℕ). gaps_within column (slice_range text start n)) all)
      (cases_lt (start + column) last)

  gap-is : (from to column count : ℕ) (held : List ℕ) → start ≡ from → to ≡ min last (from + column) → held ≡ slice_range text from to →
      count ≡ gaps_within column held → from + count ≡ start + gaps_within column part
  gap-is from to column count held from_is to_is held_is count_is =
      let same : gaps_within column held ≡ gaps_within column part =
      ap (gaps_within column) (held_is ∙ ap (λ (n : ℕ). slice_range text n to) (sym from_is)) ∙ part-taken column to (omega arith) in
      omega (arith, same)

  pub held-to : (from to column : ℕ) → start ≡ from → to ≡ min last (from + column) → (from ≤ to) × (to ≤ length text)
  held-to from to column from_is to_is = let ordered = gaps.ordered in let inside = gaps.inside in (omega arith, omega arith)

  pub held-inside : (from to column count : ℕ) (held : List ℕ) → start ≡ from → to ≡ min last (from + column) → held ≡ slice_range text from to →
      count ≡ gaps_within column held → from + count ≤ length text
  held-inside from to column count held from_is to_is held_is count_is =
      let inside = gaps.inside in omega (arith, gap-is from to column count held from_is to_is held_is count_is, point-within column)

  pub held-point : (from to column count : ℕ) (held : List ℕ) → start ≡ from → to ≡ min last (from + column) → held ≡ slice_range text from to →
      count ≡ gaps_within column held →
      (place : ℕ) → IsGreatestPlace (λ other. nat_le other (from + count)) text place → place ≡ gap_of_point text pieces line column
  held-point from to column count held from_is to_is held_is count_is place is =
      point-is column place
      (subst (λ (gap : ℕ). IsGreatestPlace (λ other. nat_le other gap) text place) (gap-is from to column count held from_is to_is held_is count_is) is)

-- a sum that stops at the largest number is the sum to what is no larger
pub capped : (last start column sum to : ℕ) → last < 2 ^ 64 → sum ≡ min (start + column) (2 ^ 64 - 1) → to ≡ min last sum → to ≡ min last (start + column)
capped last start column sum to bound summed is = omega arith

pub point-past : (text : List ℕ) (pieces : List Piece) (line column : ℕ) → length pieces ≤ line → length text ≡ gap_of_point text pieces line column
point-past text pieces line column past =
    sym (ap
    (λ b. if b then greatest_place (λ place. belongs_to pieces line place && nat_le (byte_len (slice_range text (start_of pieces line) place)) column) text else length text)
    (le-ltb line (length pieces) past))

-- ---- the word at a gap

take-none : (n : ℕ) → length {A = ℕ} (reverse (take n [])) - run_len (reverse (take n [])) ≡ 0
take-none n = ap (λ (cs : List ℕ). length (reverse cs) - run_len (reverse cs)) (take-nil n)

pub word_around-is : (text : List ℕ) (gap up_to : ℕ) → up_to ≡ min (gap + 1) (length text) →
    spanning true (up_to - run_len (reverse (take up_to text))) (up_to - 1 + run_len (drop (up_to - 1) text)) ≡ word_around text gap
word_around-is [] gap up_to is =
    let index : up_to - 1 ≡ min gap (0 - 1) = omega arith in
    let from : up_to - run_len (reverse (take up_to [])) ≡ length {A = ℕ} (reverse (take (min gap (0 - 1) + 1) [])) - run_len (reverse (take (min gap (0 - 1) + 1) [])) =
    omega (arith, take-none (min gap (0 - 1) + 1)) in
    ap₂ (λ low high. spanning true low high) from (ap (λ (n : ℕ). n + run_len (drop n [])) index)
word_around-is (c ∷ text) gap up_to is =
    let index : up_to - 1 ≡ min gap (length (c ∷ text) - 1) = omega arith in
    let next : up_to ≡ min gap (length (c ∷ text) - 1) + 1 = omega arith in
    let long : length (reverse (take up_to (c ∷ text))) ≡ up_to =
    length-reverse (take up_to (c ∷ text)) ∙ length-take-le up_to (c ∷ text) (omega arith) in
    ap₂ (λ low high. spanning true low high)
    (ap (λ (n : ℕ). n - run_len (reverse (take up_to (c ∷ text)))) (sym long) ∙
    ap (λ (n : ℕ). length (reverse (take n (c ∷ text))) - run_len (reverse (take n (c ∷ text)))) next)
    (ap (λ (n : ℕ). n + run_len (drop n (c ∷ text))) index)

-- a run is not longer than what it is in
pub run_left-le : (text : List ℕ) (n : ℕ) → n ≤ length text → run_len (reverse (take n text)) ≤ n
run_left-le text n inside = omega (arith, run_len-le (reverse (take n text)), length-reverse (take n text), length-take-le n text inside)

pub run_right-le : (text : List ℕ) (n : ℕ) → n ≤ length text → n + run_len (drop n text) ≤ length text
run_right-le text n inside = omega (arith, run_len-le (drop n text), length-drop n text)

pub word-inside : (text : List ℕ) (up_to : ℕ) → up_to ≤ length text →
    greater_end (spanning true (up_to - run_len (reverse (take up_to text))) (up_to - 1 + run_len (drop (up_to - 1) text))) ≤ length text
word-inside text up_to inside = omega (arith, run_right-le text (up_to - 1) (omega arith))

-- ---- the line at a gap

pub line_around-is : (text : List ℕ) (pieces : List Piece) (gap line : ℕ) (run : Run) → ArePieces text pieces → line ≡ layout_line_of pieces gap →
    run ≡ extent_of (line_under text pieces line) → spanning true run.start run.end ≡ line_around text gap
line_around-is text pieces gap line run are is told =
    ap (λ (r : Run). spanning true r.start r.end) told ∙
    ap (λ (own : LogicalLine). spanning true own.start (own.start + length own.text)) (ap (line_under text pieces) is ∙ sym (under-own text pieces gap are))

pub line-inside : (text : List ℕ) (pieces : List Piece) (line : ℕ) (run : Run) → run ≡ extent_of (line_under text pieces line) →
    (run.start ≤ run.end) × (run.end ≤ length text)
line-inside text pieces line run told =
    let start = ap (λ (r : Run). r.start) told in
    let end = ap (λ (r : Run). r.end) told in (omega arith, omega (arith, under-le text pieces line))
