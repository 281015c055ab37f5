-- Pieces of a text rise, and so a search finds the layout line of a gap.
use Rattle.std.proofs.Common.{◌≡◌, inl, inr, ℕ, zero, suc, ◌+◌, ◌-◌, ◌<◌, ◌≤◌, Bool, true, false, nat_le, List, [], ◌∷◌, ◌++◌, length, map, drop, get_or, Option, Some, None, refl, ap, ap₂, sym, subst, ◌∙◌, arith, length-append, drop-cons, length-drop}
use Rattle.std.specs.Prelude.{if◌then◌else◌, ◌==◌}
use Rattle.std.specs.List.{AllByRecursion, concat, onto_first, count_by}
use Rattle.std.specs.List.Sorted.{IsNonDecreasingBy}
use Rattle.std.specs.Char.{encode_utf8 as encode}
use Rattle.std.specs.Prelude.{encode_utf8_all}
use Rattle.std.specs.Str.{chars, IsUtf8, all_scalars}
use Rattle.std.proofs.lemmas.Bool.{eq-eqb, le-leb, ne_eqb}
use Rattle.std.proofs.lemmas.Str.{chars_past_char, chars-nil, chars-encodes, encodes-chars}
use Rattle.std.proofs.lemmas.List.{nil_from_length, drop-drop}
use Rattle.std.proofs.lemmas.Option.{slice_get_cases}
use Rattle.plain_text.specs.Text.{byte_len, place_of}
use Rattle.plain_text.proofs.callers.TextLemmas.{all_scalars-drop, length-encodes}
use Rattle.plain_text.proofs.callers.PlaceLemmas.{drop-place}
use Rattle.plain_text.proofs.callers.ListLemmas.{count_by-yes, count_by-no}
use Rattle.plain_text.specs.Lines.{logical_lines}
use Rattle.plain_screen.specs.declared.piece.Piece.{Piece}
use Rattle.plain_screen.specs.View.{RiseTo, AreEnds, pieces_of_line, pieces_from, ArePieces, whole_lines, layout_line_of, start_of}
use Rattle.plain_screen.proofs.callers.ViewLemmas.{concat-logical_lines, IsLayoutLineOf-layout_line_of}
use Rattle.plain_view.specs.Viewed.{begins_of}

-- ---- the pieces rise

-- each piece starts after the one before, the first not before `low`, and none past `len`
abbrev pub RiseWithin : ℕ → ℕ → List Piece → Type 0
RiseWithin len low [] = Unit {0}
RiseWithin len low (piece ∷ pieces) = (low ≤ piece.start) × (piece.start ≤ len) × RiseWithin len (piece.start + 1) pieces

pub RiseWithin-lower : (len low from : ℕ) (pieces : List Piece) → low ≤ from → RiseWithin len from pieces → RiseWithin len low pieces
RiseWithin-lower len low from [] lower rise = tt
RiseWithin-lower len low from (piece ∷ pieces) lower rise = (let le = rise.0 in omega arith, rise.1, rise.2)

RiseTo-le : (len from : ℕ) (ends : List ℕ) → RiseTo len from ends → from ≤ len
RiseTo-le len from [] rise = omega arith
RiseTo-le len from (end ∷ ends) rise = let le = RiseTo-le len end ends rise.1 in let lt = rise.0 in omega arith

RiseWithin-line : (len low start long : ℕ) (ln : Option ℕ) (from : ℕ) (ends : List ℕ) (rest : List Piece) → low ≤ start + from → RiseTo long from ends →
    start + long ≤ len → RiseWithin len (start + long) rest → RiseWithin len low (pieces_of_line start ln from ends ++ rest)
RiseWithin-line len low start long ln from [] rest le rise inside more = RiseWithin-lower len low (start + long) rest (omega arith) more
RiseWithin-line len low start long ln from (end ∷ ends) rest le rise inside more =
    let lt = rise.0 in
    let high = RiseTo-le long end ends rise.1 in
    (le, omega arith, RiseWithin-line len (start + from + 1) start long None end ends rest (omega arith) rise.1 inside more)

abbrev lines_of : List (List ℕ × List ℕ) → List (List ℕ)
lines_of cuts = map (λ (line, ends). line) cuts

-- no line but the last is empty
abbrev AreEnded : List (List ℕ) → Type 0
AreEnded [] = Unit {0}
AreEnded (line ∷ []) = Unit {0}
AreEnded (line ∷ next ∷ lines) = (0 < length line) × AreEnded (next ∷ lines)

AreEnded-logical_lines : (text : List ℕ) → AreEnded (logical_lines text)
AreEnded-logical_lines [] = tt
AreEnded-logical_lines (c ∷ text) = by (c == 10) (logical_lines text) (AreEnded-logical_lines text)
  where
    by : (b : Bool) (lines : List (List ℕ)) → AreEnded lines → AreEnded (if b then (c ∷ []) ∷ lines else onto_first c lines)
    by true [] ended = tt
    by true (line ∷ lines) ended = (omega arith, ended)
    by false [] ended = tt
    by false (line ∷ []) ended = tt
    by false (line ∷ next ∷ lines) ended = (omega arith, ended.1)

RiseWithin-cuts : (len number start : ℕ) (cuts : List (List ℕ × List ℕ)) → AreEnded (lines_of cuts) →
    AllByRecursion (λ (line, ends). AreEnds (length line) ends) cuts → start + length (concat (lines_of cuts)) ≤ len →
    RiseWithin len start (pieces_from number start cuts)
RiseWithin-cuts len number start [] ended are inside = tt
RiseWithin-cuts len number start (([], ends) ∷ []) ended are inside =
    let At : List ℕ → Type 0 = λ es. RiseWithin len start (pieces_of_line start (Some number) 0 es ++ []) in
    subst At (sym are.0) (omega arith, omega arith, tt)
RiseWithin-cuts len number start ((c ∷ line, ends) ∷ []) ended are inside =
    let long = length-append (c ∷ line) [] in
    RiseWithin-line len start start (length (c ∷ line)) (Some number) 0 ends [] (omega arith) are.0 (omega (arith, long)) tt
RiseWithin-cuts len number start (([], ends) ∷ next ∷ cuts) ended are inside = absurd (let lt = ended.0 in omega arith)
RiseWithin-cuts len number start ((c ∷ line, ends) ∷ next ∷ cuts) ended are inside =
    let long = length-append (c ∷ line) (concat (lines_of (next ∷ cuts))) in
    RiseWithin-line len start start (length (c ∷ line)) (Some number) 0 ends (pieces_from (number + 1) (start + length (c ∷ line)) (next ∷ cuts))
    (omega arith) are.0 (omega (arith, long))
    (RiseWithin-cuts len (number + 1) (start + length (c ∷ line)) (next ∷ cuts) ended.1 are.1 (omega (arith, long)))

-- THE PIECES OF A TEXT RISE within it
pub RiseWithin-pieces : (text : List ℕ) (pieces : List Piece) → ArePieces text pieces → RiseWithin (length text) 0 pieces
RiseWithin-pieces text pieces are =
    let ended : AreEnded (lines_of are.cuts) = subst AreEnded (sym are.lines) (AreEnded-logical_lines text) in
    let whole : concat (lines_of are.cuts) ≡ text = ap concat are.lines ∙ concat-logical_lines text in
    let long : length (concat (lines_of are.cuts)) ≡ length text = ap length whole in
    subst (RiseWithin (length text) 0) (sym are.is) (RiseWithin-cuts (length text) 1 0 are.cuts ended are.ends (omega (arith, long)))

starts_after : (len low i : ℕ) (pieces : List Piece) (d : Piece) → RiseWithin len low pieces → i < length pieces → low ≤ (get_or pieces i d).start
starts_after len low i [] d rise inside = absurd (omega arith)
starts_after len low zero (piece ∷ pieces) d rise inside = rise.0
starts_after len low (suc i) (piece ∷ pieces) d rise inside =
    let le = rise.0 in let more = starts_after len (piece.start + 1) i pieces d rise.2 (omega arith) in omega arith

pub IsNonDecreasingBy-rise : (len low : ℕ) (pieces : List Piece) → RiseWithin len low pieces → IsNonDecreasingBy (λ piece. piece.start) pieces
IsNonDecreasingBy-rise len low [] rise i j d le inside = absurd (omega arith)
IsNonDecreasingBy-rise len low (piece ∷ pieces) rise zero zero d le inside = omega arith
IsNonDecreasingBy-rise len low (piece ∷ pieces) rise zero (suc j) d le inside =
    let more = starts_after len (piece.start + 1) j pieces d rise.2 (omega arith) in omega arith
IsNonDecreasingBy-rise len low (piece ∷ pieces) rise (suc i) zero d le inside = absurd (omega arith)
IsNonDecreasingBy-rise len low (piece ∷ pieces) rise (suc i) (suc j) d le inside =
    IsNonDecreasingBy-rise len (piece.start + 1) pieces rise.2 i j d (omega arith) (omega arith)

pub start-le : (len low i : ℕ) (pieces : List Piece) (d : Piece) → RiseWithin len low pieces → i < length pieces → (get_or pieces i d).start ≤ len
start-le len low i [] d rise inside = absurd (omega arith)
start-le len low zero (piece ∷ pieces) d rise inside = rise.1
start-le len low (suc i) (piece ∷ pieces) d rise inside = start-le len (piece.start + 1) i pieces d rise.2 (omega arith)

-- ---- counting by a search

-- how many pass, where the first ones pass and the others do not
pub count_by-parted : {X : Type 0} (p : X → Bool) (xs : List X) (n : ℕ) → n ≤ length xs → ((k : ℕ) (d : X) → k < n → p (get_or xs k d) ≡ true) →
    ((k : ℕ) (d : X) → n ≤ k → k < length xs → p (get_or xs k d) ≡ false) → count_by p xs ≡ n
count_by-parted p [] n few pass fail = omega arith
count_by-parted p (x ∷ xs) zero few pass fail =
    count_by-no p x xs (fail 0 x (omega arith) (omega arith)) ∙
    count_by-parted p xs 0 (omega arith) (λ k d lt. absurd (omega arith)) (λ k d le lt. fail (suc k) d (omega arith) (omega arith))
count_by-parted p (x ∷ xs) (suc n) few pass fail =
    let first = count_by-yes p x xs (pass 0 x (omega arith)) in
    let rest = count_by-parted p xs n (omega arith) (λ k d lt. pass (suc k) d (omega arith)) (λ k d le lt. fail (suc k) d (omega arith) (omega arith)) in
    omega arith

-- ---- one piece a logical line

-- the pieces from a line on of which the part from `start` to `end` stands already
abbrev pub rest_pieces : ℕ → ℕ → ℕ → List ℕ → List Piece
rest_pieces number start end [] = record { start = start; end = end; ln = Some number } ∷ []
rest_pieces number start end (c ∷ text) =
    if c == 10 then record { start = start; end = end + 1; ln = Some number } ∷ rest_pieces (number + 1) (end + 1) (end + 1) text
    else rest_pieces number start (end + 1) text

abbrev whole_cuts : List (List ℕ) → List (List ℕ × List ℕ)
whole_cuts lines = map (λ line. (line, length line ∷ [])) lines

-- the pieces of lines, where the first of them has `more` characters at its front
abbrev whole_from : ℕ → ℕ → ℕ → List (List ℕ) → List Piece
whole_from number start more [] = []
whole_from number start more (line ∷ lines) =
    record { start = start; end = start + (more + length line); ln = Some number } ∷
    pieces_from (number + 1) (start + (more + length line)) (whole_cuts lines)

whole_from-none : (number start : ℕ) (lines : List (List ℕ)) → whole_from number start 0 lines ≡ pieces_from number start (whole_cuts lines)
whole_from-none number start [] = refl
whole_from-none number start (line ∷ lines) =
    let at : start ≡ start + 0 = omega arith in
    let end : start + (0 + length line) ≡ start + length line = omega arith in
    ap₂ (λ s e. record { start = s; end = e; ln = Some number } ∷ pieces_from (number + 1) e (whole_cuts lines)) at end

logical_lines-some : (text : List ℕ) → logical_lines text ≡ [] → ⊥
logical_lines-some [] none = cc
logical_lines-some (c ∷ text) none = by (c == 10) (logical_lines text) none
  where
    by : (b : Bool) (lines : List (List ℕ)) → (if b then (c ∷ []) ∷ lines else onto_first c lines) ≡ [] → ⊥
    by true lines none = cc
    by false [] none = cc
    by false (line ∷ lines) none = cc

rest_pieces-lines : (number start more end : ℕ) (text : List ℕ) → start + more ≡ end → rest_pieces number start end text ≡ whole_from number start more (logical_lines text)
rest_pieces-lines number start more end [] is =
    let long : end ≡ start + (more + 0) = omega arith in ap (λ e. record { start = start; end = e; ln = Some number } ∷ []) long
rest_pieces-lines number start more end (c ∷ text) is =
    by (c == 10) (logical_lines text) (logical_lines-some text) (rest_pieces-lines (number + 1) (end + 1) 0 (end + 1) text (omega arith))
    (rest_pieces-lines number start (more + 1) (end + 1) text (omega arith))
  where
    by : (b : Bool) (lines : List (List ℕ)) → (lines ≡ [] → ⊥) → rest_pieces (number + 1) (end + 1) (end + 1) text ≡ whole_from (number + 1) (end + 1) 0 lines →
        rest_pieces number start (end + 1) text ≡ whole_from number start (more + 1) lines →
        (if b then record { start = start; end = end + 1; ln = Some number } ∷ rest_pieces (number + 1) (end + 1) (end + 1) text else rest_pieces number start (end + 1) text)
        ≡ whole_from number start more (if b then (c ∷ []) ∷ lines else onto_first c lines)
    by true lines some next same =
        let long : end + 1 ≡ start + (more + length (c ∷ [])) = omega arith in
        ap (λ ps. record { start = start; end = end + 1; ln = Some number } ∷ ps) (next ∙ whole_from-none (number + 1) (end + 1) lines) ∙
        ap (λ e. record { start = start; end = e; ln = Some number } ∷ pieces_from (number + 1) e (whole_cuts lines)) long
    by false [] some next same = absurd (some refl)
    by false (line ∷ lines) some next same =
        let long : start + (more + 1 + length line) ≡ start + (more + length (c ∷ line)) = omega arith in
        same ∙ ap (λ e. record { start = start; end = e; ln = Some number } ∷ pieces_from (number + 1) e (whole_cuts lines)) long

pub rest_pieces-whole : (text : List ℕ) → rest_pieces 1 0 0 text ≡ whole_lines text
rest_pieces-whole text = rest_pieces-lines 1 0 0 0 text (omega arith) ∙ whole_from-none 1 0 (logical_lines text)

-- ---- steps of the loops

pub drop-item : {X : Type 0} (xs : List X) (i : ℕ) (x : X) → i < length xs → x ≡ get_or xs i x → drop i xs ≡ x ∷ drop (i + 1) xs
drop-item xs i x below is =
    let next : suc i ≡ i + 1 = omega arith in
    drop-cons xs i x below ∙ ap (λ k. get_or xs i x ∷ drop k xs) next ∙ ap (λ y. y ∷ drop (i + 1) xs) (sym is)

pub rest_pieces-feed : (number start end c : ℕ) (bs rest : List ℕ) → IsUtf8 bs → bs ≡ encode c ++ rest → c ≡ 10 →
    rest_pieces number start end (chars bs) ≡ record { start = start; end = end + 1; ln = Some number } ∷ rest_pieces (number + 1) (end + 1) (end + 1) (chars rest)
rest_pieces-feed number start end c bs rest is_text split feed =
    ap (rest_pieces number start end) (chars_past_char bs rest c is_text split) ∙
    ap (λ b. if b then record { start = start; end = end + 1; ln = Some number } ∷ rest_pieces (number + 1) (end + 1) (end + 1) (chars rest)
    else rest_pieces number start (end + 1) (chars rest)) (eq-eqb c 10 feed)

pub rest_pieces-other : (number start end c : ℕ) (bs rest : List ℕ) → IsUtf8 bs → bs ≡ encode c ++ rest → (c ≡ 10 → ⊥) →
    rest_pieces number start end (chars bs) ≡ rest_pieces number start (end + 1) (chars rest)
rest_pieces-other number start end c bs rest is_text split other =
    ap (rest_pieces number start end) (chars_past_char bs rest c is_text split) ∙
    ap (λ b. if b then record { start = start; end = end + 1; ln = Some number } ∷ rest_pieces (number + 1) (end + 1) (end + 1) (chars rest)
    else rest_pieces number start (end + 1) (chars rest)) (ne_eqb c 10 other)

pub rest_pieces-end : (number start end : ℕ) (bs : List ℕ) → length bs ≡ 0 →
    rest_pieces number start end (chars bs) ≡ record { start = start; end = end; ln = Some number } ∷ []
rest_pieces-end number start end bs none = ap (λ xs. rest_pieces number start end (chars xs)) (nil_from_length bs none) ∙ ap (rest_pieces number start end) chars-nil

pub rise-step : (len low i : ℕ) (pieces : List Piece) (d : Piece) → i < length pieces → RiseWithin len low (drop i pieces) →
    (low ≤ (get_or pieces i d).start) × ((get_or pieces i d).start ≤ len) × RiseWithin len (get_or pieces i d).start (drop (i + 1) pieces)
rise-step len low i pieces d below rise =
    let next : suc i ≡ i + 1 = omega arith in
    let here : RiseWithin len low (get_or pieces i d ∷ drop (i + 1) pieces) =
    subst (RiseWithin len low) (drop-cons pieces i d below ∙ ap (λ k. get_or pieces i d ∷ drop k pieces) next) rise in
    let start = (get_or pieces i d).start in
    (here.0, here.1, RiseWithin-lower len start (start + 1) (drop (i + 1) pieces) (omega arith) here.2)

pub begins_of-step : (text : List ℕ) (i : ℕ) (pieces : List Piece) (d : Piece) → i < length pieces →
    begins_of text (drop i pieces) ≡ place_of text (get_or pieces i d).start ∷ begins_of text (drop (i + 1) pieces)
begins_of-step text i pieces d below =
    let next : suc i ≡ i + 1 = omega arith in
    ap (begins_of text) (drop-cons pieces i d below ∙ ap (λ k. get_or pieces i d ∷ drop k pieces) next)

place_of-nil : (n : ℕ) → place_of [] n ≡ 0
place_of-nil zero = refl
place_of-nil (suc n) = refl

-- the place of a gap, from that of one left of it
pub place_of-from : (text : List ℕ) (gap to : ℕ) → gap ≤ to → place_of text gap + place_of (drop gap text) (to - gap) ≡ place_of text to
place_of-from text zero to le = let all : to - 0 ≡ to = omega arith in omega (arith, ap (place_of text) all)
place_of-from [] (suc gap) to le = omega (arith, place_of-nil (suc gap), place_of-nil (to - suc gap), place_of-nil to)
place_of-from (c ∷ text) (suc gap) zero le = absurd (omega arith)
place_of-from (c ∷ text) (suc gap) (suc to) le =
    let less : suc to - suc gap ≡ to - gap = omega arith in
    omega (arith, ap (place_of (drop gap text)) less, place_of-from text gap to (omega arith))

place_of-le : (text : List ℕ) (gap : ℕ) → place_of text gap ≤ byte_len text
place_of-le [] gap = omega (arith, place_of-nil gap)
place_of-le (c ∷ text) zero = omega arith
place_of-le (c ∷ text) (suc gap) = omega (arith, place_of-le text gap)

-- a place is no number of bytes that the text does not have
pub place-le-length : (bytes : List ℕ) (gap : ℕ) → IsUtf8 bytes → place_of (chars bytes) gap ≤ length bytes
place-le-length bytes gap is_text =
    omega (arith, place_of-le (chars bytes) gap, length-encodes (chars bytes), ap length (encodes-chars bytes is_text))

pub start_of-get : (pieces : List Piece) (i : ℕ) (d : Piece) → i < length pieces → start_of pieces i ≡ (get_or pieces i d).start
start_of-get [] i d below = absurd (omega arith)
start_of-get (piece ∷ pieces) zero d below = refl
start_of-get (piece ∷ pieces) (suc i) d below = start_of-get pieces i d (omega arith)

get_or-begins : (text : List ℕ) (pieces : List Piece) (i : ℕ) (d : Piece) → i < length pieces →
    get_or (begins_of text pieces) i 0 ≡ place_of text (get_or pieces i d).start
get_or-begins text [] i d below = absurd (omega arith)
get_or-begins text (piece ∷ pieces) zero d below = refl
get_or-begins text (piece ∷ pieces) (suc i) d below = get_or-begins text pieces i d (omega arith)

-- where a piece begins is the place of its start
pub begin_is : (text : List ℕ) (pieces : List Piece) (begins : List ℕ) (i : ℕ) → begins ≡ begins_of text pieces → i < length pieces →
    get_or begins i 0 ≡ place_of text (start_of pieces i)
begin_is text pieces begins i kept below =
    let d : Piece = record { start = 0; end = 0; ln = None } in
    ap (λ bs. get_or bs i 0) kept ∙ get_or-begins text pieces i d below ∙ ap (place_of text) (sym (start_of-get pieces i d below))

pub chars-from_gap : (text bytes : List ℕ) (gap : ℕ) → all_scalars text ≡ true → bytes ≡ encode_utf8_all text →
    chars (drop (place_of text gap) bytes) ≡ drop gap text
chars-from_gap text bytes gap scalars is =
    ap (λ bs. chars (drop (place_of text gap) bs)) is ∙ ap chars (drop-place text gap) ∙ chars-encodes (drop gap text) (all_scalars-drop gap text scalars)

pub drop-from : (text : List ℕ) (start from : ℕ) → start ≤ from → drop (from - start) (drop start text) ≡ drop from text
drop-from text start from le =
    let sum : start + (from - start) ≡ from = omega arith in drop-drop (from - start) start text ∙ ap (λ n. drop n text) sum

pub length-from : (text : List ℕ) (start from to : ℕ) → start ≤ from → from ≤ to → to ≤ length text → to - from ≤ length (drop (from - start) (drop start text))
length-from text start from to le ordered inside = omega (arith, ap length (drop-from text start from le), length-drop from text)

-- the layout line of a gap is there, and starts by it
pub layout_line_of-there : (text : List ℕ) (pieces : List Piece) (gap : ℕ) → ArePieces text pieces →
    (layout_line_of pieces gap < length pieces) × (start_of pieces (layout_line_of pieces gap) ≤ gap)
layout_line_of-there text pieces gap are =
    let is = IsLayoutLineOf-layout_line_of text pieces gap are in
    let line = layout_line_of pieces gap in
    let d : Piece = record { start = 0; end = 0; ln = None } in
    let start = start_of-get pieces line d is.inside in
    let by_then : (get_or pieces line d).start ≤ gap = elim (slice_get_cases pieces line).1 [
      | inl found ↦ subst (λ (p : Piece). p.start ≤ gap) (sym found.3 ∙ same_default pieces line found.0 d is.inside) (is.by_then found.0 found.2)
      | inr outside ↦ absurd (let in_list = is.inside in let past = outside.0 in omega arith)
    ] in (is.inside, omega arith)
  where
    same_default : (pieces : List Piece) (i : ℕ) (d e : Piece) → i < length pieces → get_or pieces i d ≡ get_or pieces i e
    same_default [] i d e below = absurd (omega arith)
    same_default (piece ∷ pieces) zero d e below = refl
    same_default (piece ∷ pieces) (suc i) d e below = same_default pieces i d e (omega arith)

-- a search that parts the pieces at a gap counts those that start by it
pub found-some : (text : List ℕ) (pieces : List Piece) (gap count : ℕ) → ArePieces text pieces →
    count_by (λ piece. nat_le piece.start gap) pieces ≡ count → 1 ≤ count
found-some text [] gap count are counted = absurd (let lt = (layout_line_of-there text [] gap are).0 in omega arith)
found-some text (piece ∷ pieces) gap zero are counted =
    let there = (layout_line_of-there text (piece ∷ pieces) gap are).1 in
    let by_then : piece.start ≤ gap = subst (λ n. start_of (piece ∷ pieces) (n - 1) ≤ gap) counted there in
    absurd (omega (arith, counted, count_by-yes (λ piece. nat_le piece.start gap) piece pieces (le-leb piece.start gap by_then)))
found-some text (piece ∷ pieces) gap (suc count) are counted = omega arith
