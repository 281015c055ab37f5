-- Logical lines that are the same in two texts, cut by one rule: their pieces are the same, as far from each other as the texts before them are long, and
-- their lines are partners.
use Rattle.std.proofs.Common.{◌≡◌, ◌⊎◌, inl, inr, ℕ, zero, suc, ◌+◌, ◌-◌, ◌<◌, ◌≤◌, Bool, true, false, List, [], ◌∷◌, ◌++◌, length, map, take, drop, Option, Some, None, refl, ap, ap₂, sym, subst, ◌∙◌, arith, append_assoc, length-append}
use Rattle.std.specs.Prelude.{◌&&◌, ◌==◌, not, is_some, slice_get, slice_range, unwrap_or}
use Rattle.std.specs.List.{AllByRecursion, concat}
use Rattle.std.specs.Cmp.Lexicographic.{pointwise}
use Rattle.std.proofs.lemmas.Bool.{cases_lt, eqb-true}
use Rattle.std.proofs.lemmas.Bool.Decides.{nat_tests}
use Rattle.std.proofs.lemmas.List.{length-map, map-append}
use Rattle.std.proofs.lemmas.Option.{slice_get_within}
use Rattle.std.proofs.Math.Seq.{take-append-add}
use Rattle.plain_text.specs.Lines.{logical_lines}
use Rattle.plain_text.specs.declared.run.Run.{Run}
use Rattle.plain_screen.specs.declared.piece.Piece.{Piece}
use Rattle.plain_screen.specs.declared.screen.Line.{Line}
use Rattle.plain_screen.specs.Plan.{partner_at}
use Rattle.plain_screen.specs.Touched.{are_alike, by_logical_lines, counterpart, first_of, is_same_but_number, lines_in, partners_of}
use Rattle.plain_screen.specs.View.{AreEnds, ArePieces, pieces_by, pieces_from, pieces_of_line}
use Rattle.plain_screen.proofs.callers.OwnLemmas.{get_piece, length-own, line-from, slice_get-back, slice_get-front}
use Rattle.plain_screen.proofs.callers.ViewLemmas.{concat-logical_lines}
use Rattle.line_render.specs.Rendered.{ends_in_feed, is_last_piece, own_gaps, text_of_piece}
use Rattle.line_render.proofs.ForCallers.{length-text_of_piece, own-layout_line_of, piece-inside}
use Rattle.line_stays.specs.Edges.{first_piece, past_piece}
use Rattle.line_stays.specs.Inner.{ArePartnersIn, AreTwins, AreWhole, IsSharedPart, is_same_logical}
use Rattle.line_stays.specs.Laws.{CutsLines}
use Rattle.line_stays.specs.Partners.{partner_in}
use Rattle.line_stays.proofs.GroupLemmas.{by_logical-pieces, groups_from, length-groups}
use Rattle.line_stays.proofs.PartnerLemmas.{partners-at}
use Rattle.line_stays.proofs.PlaceLemmas.{StandsIn, first-is, lines-grouped, past-is}
use Rattle.line_stays.proofs.TouchLemmas.{RiseWithin, RiseWithin-ends, RiseWithin-le, cut-lines, cuts_of, lines-cut, slice-within}
use Rattle.line_stays.proofs.WholeLemmas.{own-at}

abbrev pub Cut : Type 0
Cut = List ℕ × List ℕ

-- how many pieces cut lines have, and how many characters
abbrev pub pieces_in : List Cut → ℕ
pieces_in [] = 0
pieces_in ((line, ends) ∷ cuts) = length ends + pieces_in cuts

abbrev pub chars_in : List Cut → ℕ
chars_in [] = 0
chars_in ((line, ends) ∷ cuts) = length line + chars_in cuts

pub pieces_in-both : (xs ys : List Cut) → pieces_in (xs ++ ys) ≡ pieces_in xs + pieces_in ys
pieces_in-both [] ys = omega arith
pieces_in-both ((line, ends) ∷ xs) ys = let later = pieces_in-both xs ys in omega (arith, later)

pub length-pieces : (number start : ℕ) (cuts : List Cut) → length (pieces_from number start cuts) ≡ pieces_in cuts
length-pieces number start [] = refl
length-pieces number start ((line, ends) ∷ cuts) =
    omega (
      arith,
      length-append (pieces_of_line start (Some number) 0 ends) (pieces_from (number + 1) (start + length line) cuts),
      length-own start (Some number) 0 ends,
      length-pieces (number + 1) (start + length line) cuts,
    )

pub pieces-both : (number start : ℕ) (xs ys : List Cut) →
    pieces_from number start (xs ++ ys) ≡ pieces_from number start xs ++ pieces_from (number + length xs) (start + chars_in xs) ys
pieces-both number start [] ys =
    ap₂ (λ n s. pieces_from n s ys) (let none : number ≡ number + 0 = omega arith in none) (let nil : start ≡ start + 0 = omega arith in nil)
pieces-both number start ((line, ends) ∷ xs) ys =
    let later = pieces-both (number + 1) (start + length line) xs ys in
    let count : number + 1 + length xs ≡ number + length ((line, ends) ∷ xs) = omega arith in
    let size : start + length line + chars_in xs ≡ start + chars_in ((line, ends) ∷ xs) = omega arith in
    ap (λ ps. pieces_of_line start (Some number) 0 ends ++ ps)
    (later ∙ ap₂ (λ n s. pieces_from (number + 1) (start + length line) xs ++ pieces_from n s ys) count size) ∙
    sym (append_assoc (pieces_of_line start (Some number) 0 ends) (pieces_from (number + 1) (start + length line) xs)
    (pieces_from (number + length ((line, ends) ∷ xs)) (start + chars_in ((line, ends) ∷ xs)) ys))

-- ---- the place of a piece among cut lines

pub record IsPlaceOf (cuts : List Cut) (k i : ℕ) (cut : Cut) : Type 0 where
  pub is : slice_get cuts i ≡ Some cut
  pub low : pieces_in (take i cuts) ≤ k
  pub high : k < pieces_in (take i cuts) + length cut.1
  pub fits : pieces_in (take i cuts) + length cut.1 ≤ pieces_in cuts

pub place-of : (cuts : List Cut) (k : ℕ) → k < pieces_in cuts → (i : ℕ) × (cut : Cut) × IsPlaceOf cuts k i cut
place-of [] k less = absurd (omega (arith, less))
place-of ((line, ends) ∷ cuts) k less = elim (cases_lt k (length ends)) [
  | inl here ↦ (0, (line, ends), record { is = refl; low = omega arith; high = omega (arith, here); fits = omega arith })
  | inr past ↦
      let rest = place-of cuts (k - length ends) (omega (arith, less, past)) in (
        suc rest.0,
        rest.1,
        record {
          is = rest.2.is;
          low = omega (arith, past, rest.2.low);
          high = omega (arith, past, rest.2.high);
          fits = omega (arith, rest.2.fits);
        },
      )
]

-- the place of a cut line among others
pub cut-between : (front lines back : List Cut) (i : ℕ) (cut : Cut) → slice_get lines i ≡ Some cut →
    (slice_get (front ++ (lines ++ back)) (length front + i) ≡ Some cut) ×
    (pieces_in (take (length front + i) (front ++ (lines ++ back))) ≡ pieces_in front + pieces_in (take i lines))
cut-between front lines back i cut is =
    let there = slice_get_within lines i cut is in
    let on : length front + i - length front ≡ i = omega arith in (
      slice_get-back front (lines ++ back) (length front + i) (omega arith) ∙ ap (slice_get (lines ++ back)) on ∙ slice_get-front lines back i there ∙ is,
      ap pieces_in (take-append-add front (lines ++ back) i) ∙ pieces_in-both front (take i (lines ++ back)) ∙
          ap (λ xs. pieces_in front + pieces_in xs) (take-front lines back i (omega (arith, there))),
    )
  where
    take-front : (xs ys : List Cut) (n : ℕ) → n ≤ length xs → take n (xs ++ ys) ≡ take n xs
    take-front xs ys zero le = refl
    take-front [] ys (suc n) le = absurd (omega (arith, le))
    take-front (x ∷ xs) ys (suc n) le = ap (λ zs. x ∷ zs) (take-front xs ys n (omega (arith, le)))

-- ---- the lines that are drawn of cut lines

module _ (draw : Piece → Line) (keeps : (piece : Piece) → (draw piece).ln ≡ piece.ln) where
  pub first_of-cuts : (number start : ℕ) (cuts : List Cut) (i : ℕ) → first_of (groups_from draw keeps number start cuts) i ≡ pieces_in (take i cuts)
  first_of-cuts number start cuts zero = refl
  first_of-cuts number start [] (suc i) = refl
  first_of-cuts number start ((line, ends) ∷ cuts) (suc i) =
      omega (
        arith,
        length-append (map draw (pieces_of_line start (Some number) 0 ends)) (lines_in (take i (groups_from draw keeps (number + 1) (start + length line) cuts))),
        length-map (pieces_of_line start (Some number) 0 ends) draw,
        length-own start (Some number) 0 ends,
        first_of-cuts (number + 1) (start + length line) cuts i,
      )

  pub group-of : (number start : ℕ) (cuts : List Cut) (i : ℕ) (cut : Cut) → slice_get cuts i ≡ Some cut →
      (lines : List Line) × (slice_get (groups_from draw keeps number start cuts) i ≡ Some lines) × (length lines ≡ length cut.1)
  group-of number start [] i cut is = absurd cc
  group-of number start ((line, ends) ∷ cuts) zero cut is =
      let same : (line, ends) ≡ cut = ap (λ o. unwrap_or o (line, ends)) is in (
        map draw (pieces_of_line start (Some number) 0 ends),
        refl,
        length-map (pieces_of_line start (Some number) 0 ends) draw ∙ length-own start (Some number) 0 ends ∙ ap (λ (c : Cut). length c.1) same,
      )
  group-of number start ((line, ends) ∷ cuts) (suc i) cut is = group-of (number + 1) (start + length line) cuts i cut is

-- the lines of a group are those from its first on
group-lines : (groups : List (List Line)) (i : ℕ) (lines : List Line) → slice_get groups i ≡ Some lines →
    take (length lines) (drop (first_of groups i) (lines_in groups)) ≡ lines
group-lines [] i lines is = absurd cc
group-lines (group ∷ groups) zero lines is =
    let same : group ≡ lines = ap (λ o. unwrap_or o group) is in
    ap (λ ls. take (length ls) (group ++ lines_in groups)) (sym same) ∙ take-all group (lines_in groups) ∙ same
  where
    take-all : (xs ys : List Line) → take (length xs) (xs ++ ys) ≡ xs
    take-all [] ys = refl
    take-all (x ∷ xs) ys = ap (λ zs. x ∷ zs) (take-all xs ys)
group-lines (group ∷ groups) (suc i) lines is =
    ap (λ n. take (length lines) (drop n (group ++ lines_in groups))) (length-append group (lines_in (take i groups))) ∙
    ap (take (length lines)) (drop-past group (lines_in groups) (first_of groups i)) ∙ group-lines groups i lines is
  where
    drop-past : (xs ys : List Line) (n : ℕ) → drop (length xs + n) (xs ++ ys) ≡ drop n ys
    drop-past [] ys n = let none : 0 + n ≡ n = omega arith in ap (λ m. drop m ys) none
    drop-past (x ∷ xs) ys n = let on : length (x ∷ xs) + n ≡ suc (length xs + n) = omega arith in ap (λ m. drop m (x ∷ (xs ++ ys))) on ∙ drop-past xs ys n

-- ---- one text

module _ (ends_of : List ℕ → List ℕ) (text : List ℕ) (cuts : CutsLines ends_of text) where
  abbrev pub cut_text : List Cut
  cut_text = cuts_of ends_of (logical_lines text)

  abbrev pub cut_pieces : List Piece
  cut_pieces = pieces_by ends_of text

  abbrev pub plain-line : Piece → Line
  plain-line piece = record { text = []; ln = piece.ln; cursor = []; styles = [] }

  pub are-pieces : ArePieces text cut_pieces
  are-pieces = record {
    cuts = cut_text;
    lines = lines-cut ends_of (logical_lines text);
    ends = cut-lines ends_of plain-line (λ piece. refl) (logical_lines text) cuts;
    is = refl;
  }

  pub count-pieces : length cut_pieces ≡ pieces_in cut_text
  count-pieces = length-pieces 1 0 cut_text

  module _ (draw : Piece → Line) (keeps : (piece : Piece) → (draw piece).ln ≡ piece.ln) where
    abbrev pub cut_groups : List (List Line)
    cut_groups = by_logical_lines (map draw cut_pieces)

    groups-cut : cut_groups ≡ groups_from draw keeps 1 0 cut_text
    groups-cut = by_logical-pieces draw keeps 1 0 cut_text (cut-lines ends_of draw keeps (logical_lines text) cuts)

    pub count-groups : length cut_groups ≡ length (logical_lines text)
    count-groups = ap length groups-cut ∙ length-groups draw keeps 1 0 cut_text ∙ length-map (logical_lines text) (λ line. (line, ends_of line))

    pub first_of-groups : (i : ℕ) → first_of cut_groups i ≡ pieces_in (take i cut_text)
    first_of-groups i = ap (λ gs. first_of gs i) groups-cut ∙ first_of-cuts draw keeps 1 0 cut_text i

    -- the logical line with this index has these lines, which are its pieces
    pub record IsGroupAt (j : ℕ) (cut : Cut) : Type 0 where
      pub lines : List Line
      pub is : slice_get cut_groups j ≡ Some lines
      pub long : length lines ≡ length cut.1
      pub from : first_of cut_groups j ≡ pieces_in (take j cut_text)
      pub first : (x : ℕ) → pieces_in (take j cut_text) ≤ x → x < pieces_in (take j cut_text) + length cut.1 → first_piece text cut_pieces x ≡ pieces_in (take j cut_text)
      pub past : (x : ℕ) → pieces_in (take j cut_text) ≤ x → x < pieces_in (take j cut_text) + length cut.1 →
          past_piece cut_pieces x ≡ pieces_in (take j cut_text) + length cut.1
      pub own : take (length cut.1) (drop (pieces_in (take j cut_text)) (map draw cut_pieces)) ≡ lines

    pub group-at : (j : ℕ) (cut : Cut) → slice_get cut_text j ≡ Some cut → pieces_in (take j cut_text) + length cut.1 ≤ length cut_pieces → IsGroupAt j cut
    group-at j cut at inside =
        let found = group-of draw keeps 1 0 cut_text j cut at in
        let is = ap (λ gs. slice_get gs j) groups-cut ∙ found.1 in
        let from = first_of-groups j in
        let stands : (x : ℕ) → pieces_in (take j cut_text) ≤ x → x < pieces_in (take j cut_text) + length cut.1 → StandsIn cut_groups x j found.0 =
        (λ x low high. record { is = is; low = omega (arith, from, low); high = omega (arith, from, high, found.2) }) in
        record {
          lines = found.0;
          is = is;
          long = found.2;
          from = from;
          first = λ x low high.
              first-is draw keeps text cut_pieces x j (first_piece text cut_pieces x) (past_piece cut_pieces x) found.0 (stands x low high)
              (own-at text cut_pieces are-pieces x (omega (arith, high, inside))) ∙ from;
          past = λ x low high.
              past-is draw keeps text cut_pieces x j (first_piece text cut_pieces x) (past_piece cut_pieces x) found.0 (stands x low high)
              (own-at text cut_pieces are-pieces x (omega (arith, high, inside))) ∙ ap₂ (λ a b. a + b) from found.2;
          own =
              ap₂ (λ n m. take n (drop m (map draw cut_pieces))) (sym found.2) (sym from) ∙
              ap (λ ls. take (length found.0) (drop (first_of cut_groups j) ls)) (sym (lines-grouped (map draw cut_pieces))) ∙ group-lines cut_groups j found.0 is;
        }

-- ---- pieces of the same lines in two texts

-- one stands as far from `near` as the other from `far`, among so many characters
pub record IsMoved (near far size : ℕ) (piece twin : Piece) : Type 0 where
  pub starts : piece.start + far ≡ twin.start + near
  pub ends : piece.end + far ≡ twin.end + near
  pub numbered : is_some piece.ln ≡ is_some twin.ln
  pub low : near ≤ piece.start
  pub ordered : piece.start ≤ piece.end
  pub high : piece.end ≤ near + size

moved-line : (near far len : ℕ) (ln number : Option ℕ) → is_some ln ≡ is_some number → (from : ℕ) (ends : List ℕ) → RiseWithin len from ends → (k : ℕ) (piece twin : Piece) →
    slice_get (pieces_of_line near ln from ends) k ≡ Some piece → slice_get (pieces_of_line far number from ends) k ≡ Some twin → IsMoved near far len piece twin
moved-line near far len ln number some from [] rise k piece twin is is_twin = absurd cc
moved-line near far len ln number some from (end ∷ ends) rise zero piece twin is is_twin =
    let one : Piece = record { start = near + from; end = near + end; ln = ln } in
    let other : Piece = record { start = far + from; end = far + end; ln = number } in
    let high = RiseWithin-le len end ends rise.1 in
    let here : IsMoved near far len one other = record {
      starts = omega arith;
      ends = omega arith;
      numbered = some;
      low = omega arith;
      ordered = omega (arith, rise.0);
      high = omega (arith, high);
    } in
    subst (λ (p : Piece). IsMoved near far len p twin) (ap (λ (o : Option Piece). unwrap_or o one) is)
    (subst (λ (p : Piece). IsMoved near far len one p) (ap (λ (o : Option Piece). unwrap_or o other) is_twin) here)
moved-line near far len ln number some from (end ∷ ends) rise (suc k) piece twin is is_twin =
    moved-line near far len None None refl end ends rise.1 k piece twin is is_twin

abbrev pub AreCuts : List Cut → Type 0
AreCuts cuts = AllByRecursion (λ (line, ends). AreEnds (length line) ends) cuts

moved-pieces : (number other near far : ℕ) (cuts : List Cut) → AreCuts cuts → (k : ℕ) (piece twin : Piece) →
    slice_get (pieces_from number near cuts) k ≡ Some piece → slice_get (pieces_from other far cuts) k ≡ Some twin → IsMoved near far (chars_in cuts) piece twin
moved-pieces number other near far [] are k piece twin is is_twin = absurd cc
moved-pieces number other near far ((line, ends) ∷ cuts) are k piece twin is is_twin =
    let long = length-own near (Some number) 0 ends in
    let long_twin = length-own far (Some other) 0 ends in
    elim (cases_lt k (length ends)) [
      | inl here ↦
          let own = moved-line near far (length line) (Some number) (Some other) refl 0 ends (RiseWithin-ends (length line) ends are.0) k piece twin
          (sym (slice_get-front (pieces_of_line near (Some number) 0 ends) (pieces_from (number + 1) (near + length line) cuts) k (omega (arith, here, long))) ∙ is)
          (sym (slice_get-front (pieces_of_line far (Some other) 0 ends) (pieces_from (other + 1) (far + length line) cuts) k (omega (arith, here, long_twin))) ∙ is_twin) in
          record {
            starts = own.starts;
            ends = own.ends;
            numbered = own.numbered;
            low = own.low;
            ordered = own.ordered;
            high = omega (arith, own.high);
          }
      | inr past ↦
          let later = moved-pieces (number + 1) (other + 1) (near + length line) (far + length line) cuts are.1 (k - length ends) piece twin
          (ap (λ (n : ℕ). slice_get (pieces_from (number + 1) (near + length line) cuts) (k - n)) (sym long) ∙
          sym (slice_get-back (pieces_of_line near (Some number) 0 ends) (pieces_from (number + 1) (near + length line) cuts) k (omega (arith, past, long))) ∙ is)
          (ap (λ (n : ℕ). slice_get (pieces_from (other + 1) (far + length line) cuts) (k - n)) (sym long_twin) ∙
          sym (slice_get-back (pieces_of_line far (Some other) 0 ends) (pieces_from (other + 1) (far + length line) cuts) k (omega (arith, past, long_twin))) ∙ is_twin) in
          record {
            starts = omega (arith, later.starts);
            ends = omega (arith, later.ends);
            numbered = later.numbered;
            low = omega (arith, later.low);
            ordered = later.ordered;
            high = omega (arith, later.high);
          }
    ]

pub chars-cut : (ends_of : List ℕ → List ℕ) (lines : List (List ℕ)) → chars_in (cuts_of ends_of lines) ≡ length (concat lines)
chars-cut ends_of [] = refl
chars-cut ends_of (line ∷ lines) = omega (arith, length-append line (concat lines), chars-cut ends_of lines)

pub concat-both : (xs ys : List (List ℕ)) → concat (xs ++ ys) ≡ concat xs ++ concat ys
concat-both [] ys = refl
concat-both (x ∷ xs) ys = ap (λ zs. x ++ zs) (concat-both xs ys) ∙ sym (append_assoc x (concat xs) (concat ys))

all-right : (P : List ℕ → Type 0) (xs ys : List (List ℕ)) → AllByRecursion P (xs ++ ys) → AllByRecursion P ys
all-right P [] ys all = all
all-right P (x ∷ xs) ys all = all-right P xs ys all.1

all-left : (P : List ℕ → Type 0) (xs ys : List (List ℕ)) → AllByRecursion P (xs ++ ys) → AllByRecursion P xs
all-left P [] ys all = tt
all-left P (x ∷ xs) ys all = (all.0, all-left P xs ys all.1)

-- ---- the last piece

-- one of which another follows is not the last
not-last : (text : List ℕ) (pieces : List Piece) (y : ℕ) (piece : Piece) → ArePieces text pieces → slice_get pieces y ≡ Some piece → y + 1 < length pieces →
    is_last_piece text piece ≡ false
not-last text pieces y piece are is more = by (is_last_piece text piece) refl
  where
    by : (b : Bool) → is_last_piece text piece ≡ b → is_last_piece text piece ≡ false
    by false last = last
    by true last =
        let own = piece-inside text pieces y piece are is in
        let next = get_piece pieces (y + 1) more in
        let behind = piece-inside text pieces (y + 1) next.0 are next.1 in
        let end : piece.end ≡ length text = eqb-true piece.end (length text) (first_true (piece.end == length text) (not (ends_in_feed (text_of_piece text piece))) last) in
        let long = length-text_of_piece text piece own.0 own.1 in
        let gaps : own_gaps (is_last_piece text piece) (length (text_of_piece text piece)) ≡ length (text_of_piece text piece) + 1 =
        ap (λ (b : Bool). own_gaps b (length (text_of_piece text piece))) last in
        let here = (own-layout_line_of text pieces y piece piece.end are is own.1).0 (own.0, omega (arith, gaps, long, own.0)) in
        absurd (omega (arith, here, line-from text pieces piece.end (y + 1) next.0 are next.1 (omega (arith, behind.0, behind.1, end))))
      where
        first_true : (a b : Bool) → (a && b) ≡ true → a ≡ true
        first_true true b both = refl
        first_true false b both = both

same-end : (end twin near far size len other : ℕ) → end + far ≡ twin + near → len ≡ near + size → other ≡ far + size → (end == len) ≡ (twin == other)
same-end end twin near far size len other ends one two = grind (arith, nat_tests)

-- ---- logical lines that two texts share

module _ (ends_of : List ℕ → List ℕ) (text other : List ℕ) (was_cut : CutsLines ends_of text) (is_cut : CutsLines ends_of other)
    (front fore lines back hind : List (List ℕ)) (before : logical_lines text ≡ front ++ (lines ++ back)) (after : logical_lines other ≡ fore ++ (lines ++ hind)) where
  abbrev old : ℕ
  old = pieces_in (cuts_of ends_of front)

  abbrev new : ℕ
  new = pieces_in (cuts_of ends_of fore)

  abbrev n : ℕ
  n = pieces_in (cuts_of ends_of lines)

  parts-cut : (xs ys zs : List (List ℕ)) → cuts_of ends_of (xs ++ (ys ++ zs)) ≡ cuts_of ends_of xs ++ (cuts_of ends_of ys ++ cuts_of ends_of zs)
  parts-cut xs ys zs =
      map-append (λ line. (line, ends_of line)) xs (ys ++ zs) ∙ ap (λ cs. cuts_of ends_of xs ++ cs) (map-append (λ line. (line, ends_of line)) ys zs)

  cuts-before : cut_text ends_of text was_cut ≡ cuts_of ends_of front ++ (cuts_of ends_of lines ++ cuts_of ends_of back)
  cuts-before = ap (cuts_of ends_of) before ∙ parts-cut front lines back

  cuts-after : cut_text ends_of other is_cut ≡ cuts_of ends_of fore ++ (cuts_of ends_of lines ++ cuts_of ends_of hind)
  cuts-after = ap (cuts_of ends_of) after ∙ parts-cut fore lines hind

  pub count-before : length (pieces_by ends_of text) ≡ old + (n + pieces_in (cuts_of ends_of back))
  count-before =
      count-pieces ends_of text was_cut ∙ ap pieces_in cuts-before ∙ pieces_in-both (cuts_of ends_of front) (cuts_of ends_of lines ++ cuts_of ends_of back) ∙
      ap (λ m. old + m) (pieces_in-both (cuts_of ends_of lines) (cuts_of ends_of back))

  pub count-after : length (pieces_by ends_of other) ≡ new + (n + pieces_in (cuts_of ends_of hind))
  count-after =
      count-pieces ends_of other is_cut ∙ ap pieces_in cuts-after ∙ pieces_in-both (cuts_of ends_of fore) (cuts_of ends_of lines ++ cuts_of ends_of hind) ∙
      ap (λ m. new + m) (pieces_in-both (cuts_of ends_of lines) (cuts_of ends_of hind))

  -- a piece of theirs among all
  piece-of : (which xs zs : List (List ℕ)) (k : ℕ) → which ≡ xs ++ (lines ++ zs) → k < n →
      slice_get (pieces_from 1 0 (cuts_of ends_of which)) (pieces_in (cuts_of ends_of xs) + k) ≡
      slice_get (pieces_from (1 + length (cuts_of ends_of xs)) (0 + chars_in (cuts_of ends_of xs)) (cuts_of ends_of lines)) k
  piece-of which xs zs k is less =
      let xs_cut = cuts_of ends_of xs in
      let own_cut = cuts_of ends_of lines in
      let zs_cut = cuts_of ends_of zs in
      let number = 1 + length xs_cut in
      let start = 0 + chars_in xs_cut in
      let long = length-pieces 1 0 xs_cut in
      let on : pieces_in xs_cut + k - length (pieces_from 1 0 xs_cut) ≡ k = omega (arith, long) in
      ap (λ cs. slice_get (pieces_from 1 0 cs) (pieces_in xs_cut + k)) (ap (cuts_of ends_of) is ∙ parts-cut xs lines zs) ∙
      ap (λ ps. slice_get ps (pieces_in xs_cut + k)) (pieces-both 1 0 xs_cut (own_cut ++ zs_cut)) ∙
      slice_get-back (pieces_from 1 0 xs_cut) (pieces_from number start (own_cut ++ zs_cut)) (pieces_in xs_cut + k) (omega (arith, long)) ∙
      ap (slice_get (pieces_from number start (own_cut ++ zs_cut))) on ∙ ap (λ ps. slice_get ps k) (pieces-both number start own_cut zs_cut) ∙
      slice_get-front (pieces_from number start own_cut) (pieces_from (number + length own_cut) (start + chars_in own_cut) zs_cut) k
      (omega (arith, less, length-pieces number start own_cut))

  abbrev pub near : ℕ
  near = chars_in (cuts_of ends_of front)

  abbrev pub far : ℕ
  far = chars_in (cuts_of ends_of fore)

  abbrev pub size : ℕ
  size = chars_in (cuts_of ends_of lines)

  own-cuts : AreCuts (cuts_of ends_of lines)
  own-cuts =
      let each : AllByRecursion (λ line. AreEnds (length line) (ends_of line)) (front ++ (lines ++ back)) =
      subst (AllByRecursion (λ line. AreEnds (length line) (ends_of line))) before was_cut in
      cut-lines ends_of (plain-line ends_of text was_cut) (λ piece. refl) lines
      (all-left (λ line. AreEnds (length line) (ends_of line)) lines back (all-right (λ line. AreEnds (length line) (ends_of line)) front (lines ++ back) each))

  pub moved-at : (k : ℕ) (piece twin : Piece) → k < n → slice_get (pieces_by ends_of text) (old + k) ≡ Some piece → slice_get (pieces_by ends_of other) (new + k) ≡ Some twin →
      IsMoved (0 + near) (0 + far) size piece twin
  moved-at k piece twin less is is_twin =
      moved-pieces (1 + length (cuts_of ends_of front)) (1 + length (cuts_of ends_of fore)) (0 + near) (0 + far) (cuts_of ends_of lines) own-cuts k piece twin
      (sym (piece-of (logical_lines text) front back k before less) ∙ is) (sym (piece-of (logical_lines other) fore hind k after less) ∙ is_twin)

  pub whole-text : (which : List ℕ) (xs zs : List (List ℕ)) → logical_lines which ≡ xs ++ (lines ++ zs) → which ≡ concat xs ++ (concat lines ++ concat zs)
  whole-text which xs zs is =
      sym (concat-logical_lines which) ∙ ap concat is ∙ concat-both xs (lines ++ zs) ∙ ap (λ cs. concat xs ++ cs) (concat-both lines zs)

  characters-at : (which : List ℕ) (xs zs : List (List ℕ)) (start end : ℕ) → logical_lines which ≡ xs ++ (lines ++ zs) → chars_in (cuts_of ends_of xs) ≤ start → start ≤ end →
      end ≤ chars_in (cuts_of ends_of xs) + size →
      slice_range which start end ≡ slice_range (concat lines) (start - chars_in (cuts_of ends_of xs)) (end - chars_in (cuts_of ends_of xs))
  characters-at which xs zs start end is low ordered high =
      let at = chars-cut ends_of xs in
      let one : start ≡ length (concat xs) + (start - chars_in (cuts_of ends_of xs)) = omega (arith, at, low) in
      let two : end ≡ length (concat xs) + (end - chars_in (cuts_of ends_of xs)) = omega (arith, at, low, ordered) in
      ap (λ w. slice_range w start end) (whole-text which xs zs is) ∙ ap₂ (slice_range (concat xs ++ (concat lines ++ concat zs))) one two ∙
      slice-within (concat xs) (concat lines) (concat zs) (start - chars_in (cuts_of ends_of xs)) (end - chars_in (cuts_of ends_of xs)) (omega (arith, low, ordered))
      (omega (arith, chars-cut ends_of lines, low, ordered, high))

  module _ (tails : ((back ≡ []) × (hind ≡ [])) ⊎ ((0 < pieces_in (cuts_of ends_of back)) × (0 < pieces_in (cuts_of ends_of hind)))) where
    twins-at : (k : ℕ) (piece twin : Piece) → k < n → slice_get (pieces_by ends_of text) (old + k) ≡ Some piece → slice_get (pieces_by ends_of other) (new + k) ≡ Some twin →
        AreTwins text other near far piece twin
    twins-at k piece twin less is is_twin = record {
      characters = same_characters;
      numbered = moved.numbered;
      last = last_by tails;
      starts = omega (arith, moved.starts);
      ends = omega (arith, moved.ends);
    }
      where
        moved : IsMoved (0 + near) (0 + far) size piece twin
        moved = moved-at k piece twin less is is_twin

        same_characters : text_of_piece text piece ≡ text_of_piece other twin
        same_characters =
            characters-at text front back piece.start piece.end before (omega (arith, moved.low)) moved.ordered (omega (arith, moved.high)) ∙
            ap₂ (slice_range (concat lines)) (let one : piece.start - near ≡ twin.start - far = omega (arith, moved.starts) in one)
            (let two : piece.end - near ≡ twin.end - far = omega (arith, moved.ends) in two) ∙
            sym
            (characters-at other fore hind twin.start twin.end after (omega (arith, moved.low, moved.starts)) (omega (arith, moved.ordered, moved.starts, moved.ends))
            (omega (arith, moved.high, moved.ends)))

        long : (which : List ℕ) (xs : List (List ℕ)) → logical_lines which ≡ xs ++ (lines ++ []) → length which ≡ chars_in (cuts_of ends_of xs) + size
        long which xs is =
            ap length (whole-text which xs [] is) ∙
            omega (arith, length-append (concat xs) (concat lines ++ []), length-append (concat lines) [], chars-cut ends_of xs, chars-cut ends_of lines)

        last_by : ((back ≡ []) × (hind ≡ [])) ⊎ ((0 < pieces_in (cuts_of ends_of back)) × (0 < pieces_in (cuts_of ends_of hind))) →
            is_last_piece text piece ≡ is_last_piece other twin
        last_by (inl none) =
            ap₂ (λ (a : Bool) (cs : List ℕ). a && not (ends_in_feed cs))
            (same-end piece.end twin.end near far size (length text) (length other) (omega (arith, moved.ends))
            (long text front (before ∙ ap (λ zs. front ++ (lines ++ zs)) none.0)) (long other fore (after ∙ ap (λ zs. fore ++ (lines ++ zs)) none.1))) same_characters
        last_by (inr some) =
            not-last text (pieces_by ends_of text) (old + k) piece (are-pieces ends_of text was_cut) is (omega (arith, less, count-before, some.0)) ∙
            sym (not-last other (pieces_by ends_of other) (new + k) twin (are-pieces ends_of other is_cut) is_twin (omega (arith, less, count-after, some.1)))

    -- the logical line of a piece of theirs
    cut-before : (i : ℕ) (cut : Cut) → slice_get (cuts_of ends_of lines) i ≡ Some cut →
        (slice_get (cut_text ends_of text was_cut) (length front + i) ≡ Some cut) ×
        (pieces_in (take (length front + i) (cut_text ends_of text was_cut)) ≡ old + pieces_in (take i (cuts_of ends_of lines)))
    cut-before i cut is =
        let at = cut-between (cuts_of ends_of front) (cuts_of ends_of lines) (cuts_of ends_of back) i cut is in
        let long = length-map front (λ line. (line, ends_of line)) in (
          ap₂ (λ cs m. slice_get cs (m + i)) cuts-before (sym long) ∙ at.0,
          ap₂ (λ cs m. pieces_in (take (m + i) cs)) cuts-before (sym long) ∙ at.1,
        )

    cut-after : (i : ℕ) (cut : Cut) → slice_get (cuts_of ends_of lines) i ≡ Some cut →
        (slice_get (cut_text ends_of other is_cut) (length fore + i) ≡ Some cut) ×
        (pieces_in (take (length fore + i) (cut_text ends_of other is_cut)) ≡ new + pieces_in (take i (cuts_of ends_of lines)))
    cut-after i cut is =
        let at = cut-between (cuts_of ends_of fore) (cuts_of ends_of lines) (cuts_of ends_of hind) i cut is in
        let long = length-map fore (λ line. (line, ends_of line)) in (
          ap₂ (λ cs m. slice_get cs (m + i)) cuts-after (sym long) ∙ at.0,
          ap₂ (λ cs m. pieces_in (take (m + i) cs)) cuts-after (sym long) ∙ at.1,
        )

    module _ (draw redraw : Piece → Line) (keeps : (piece : Piece) → (draw piece).ln ≡ piece.ln) (holds : (piece : Piece) → (redraw piece).ln ≡ piece.ln) where
      abbrev lines_before : List Line
      lines_before = map draw (pieces_by ends_of text)

      abbrev lines_after : List Line
      lines_after = map redraw (pieces_by ends_of other)

      group-before : (k i : ℕ) (cut : Cut) → IsPlaceOf (cuts_of ends_of lines) k i cut → IsGroupAt ends_of text was_cut draw keeps (length front + i) cut
      group-before k i cut place =
          let at = cut-before i cut place.is in
          group-at ends_of text was_cut draw keeps (length front + i) cut at.0 (omega (arith, at.1, place.fits, count-before))

      group-after : (k i : ℕ) (cut : Cut) → IsPlaceOf (cuts_of ends_of lines) k i cut → IsGroupAt ends_of other is_cut redraw holds (length fore + i) cut
      group-after k i cut place =
          let at = cut-after i cut place.is in
          group-at ends_of other is_cut redraw holds (length fore + i) cut at.0 (omega (arith, at.1, place.fits, count-after))

      whole-lines : AreWhole text (pieces_by ends_of text) old n
      whole-lines = λ x low high.
          let place = place-of (cuts_of ends_of lines) (x - old) (omega (arith, low, high)) in
          let at = cut-before place.0 place.1 place.2.is in
          let group = group-before (x - old) place.0 place.1 place.2 in
          let from : pieces_in (take (length front + place.0) (cut_text ends_of text was_cut)) ≤ x = omega (arith, at.1, low, place.2.low) in
          let to : x < pieces_in (take (length front + place.0) (cut_text ends_of text was_cut)) + length place.1.1 = omega (arith, at.1, low, place.2.high) in
          (omega (arith, group.first x from to, at.1), omega (arith, group.past x from to, at.1, place.2.fits))

      -- THEY ARE A PART of both texts
      pub part-shared : IsSharedPart text other (pieces_by ends_of text) (pieces_by ends_of other) old new n
      part-shared = record {
        inside = omega (arith, count-before);
        too = omega (arith, count-after);
        whole = whole-lines;
        near = near;
        far = far;
        twins = twins-at;
      }

      -- AND PARTNERS, where their counterparts are
      pub partners-shared : (touched : Run) →
          ((m : ℕ) → m < length lines → counterpart touched (length (by_logical_lines lines_before)) (length (by_logical_lines lines_after)) (length fore + m) ≡ Some (length front + m)) →
          ArePartnersIn (is_same_logical text (pieces_by ends_of text) lines_before lines_after old new) old new n (partner_at (partners_of touched lines_before lines_after))
      partners-shared touched each = λ k less.
          let place = place-of (cuts_of ends_of lines) k less in
          let i = place.0 in
          let cut = place.1 in
          let f = pieces_in (take i (cuts_of ends_of lines)) in
          let at = cut-before i cut place.2.is in
          let at_twin = cut-after i cut place.2.is in
          let group = group-before k i cut place.2 in
          let twin = group-after k i cut place.2 in
          let as_many : length (cuts_of ends_of lines) ≡ length lines = length-map lines (λ line. (line, ends_of line)) in
          let there : i < length lines = omega (arith, slice_get_within (cuts_of ends_of lines) i cut place.2.is, as_many) in
          let index : new + k ≡ first_of (by_logical_lines lines_after) (length fore + i) + (k - f) = omega (arith, twin.from, at_twin.1, place.2.low) in
          let own : first_of (by_logical_lines lines_before) (length front + i) + (k - f) ≡ old + k = omega (arith, group.from, at.1, place.2.low) in
          let from : pieces_in (take (length front + i) (cut_text ends_of text was_cut)) ≤ old + k = omega (arith, at.1, place.2.low) in
          let to : old + k < pieces_in (take (length front + i) (cut_text ends_of text was_cut)) + length cut.1 = omega (arith, at.1, place.2.high) in
          let first = group.first (old + k) from to in
          let past = group.past (old + k) from to in
          let count : past_piece (pieces_by ends_of text) (old + k) - first_piece text (pieces_by ends_of text) (old + k) ≡ length cut.1 = omega (arith, first, past) in
          let moved : new + (first_piece text (pieces_by ends_of text) (old + k) - old) ≡ pieces_in (take (length fore + i) (cut_text ends_of other is_cut)) =
          omega (arith, first, at.1, at_twin.1) in
          let said : pointwise is_same_but_number group.lines twin.lines ≡ is_same_logical text (pieces_by ends_of text) lines_before lines_after old new (old + k) =
          ap₂ (pointwise is_same_but_number)
          (sym (ap₂ (λ a b. take a (drop b lines_before)) count first ∙ group.own)) (sym (ap₂ (λ a b. take a (drop b lines_after)) count moved ∙ twin.own)) in
          ap (partner_at (partners_of touched lines_before lines_after)) index ∙
          partners-at touched lines_before lines_after (length fore + i) (k - f) twin.lines twin.is (omega (arith, place.2.low, place.2.high, twin.long)) ∙
          ap (λ o. partner_in (by_logical_lines lines_before) o twin.lines (k - f)) (each i there) ∙
          ap (λ o. Some (first_of (by_logical_lines lines_before) (length front + i) + (k - f), are_alike is_same_but_number o twin.lines)) group.is ∙
          ap₂ (λ (a : ℕ) (b : Bool). Some (a, b)) own said
