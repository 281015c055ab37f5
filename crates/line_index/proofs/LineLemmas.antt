-- The logical lines of a text that is put together, and their cuts.
use Rattle.std.proofs.Common.{◌≡◌, ℕ, Bool, true, false, ◌+◌, ◌-◌, ◌<◌, ◌≤◌, List, [], ◌∷◌, ◌++◌, length, map, Option, Some, None, refl, ap, ap₂, sym, ◌∙◌, arith, add_assoc, take, drop, zero-add, add-zero}
use Rattle.std.specs.Prelude.{if◌then◌else◌, ◌==◌, ◌&&◌, cond}
use Rattle.std.specs.List.{onto_first, AllByRecursion, concat}
use Rattle.std.proofs.lemmas.List.Sums.{sum_by-append}
use Rattle.std.proofs.Math.Seq.{drop-append-add, take-append_seam, drop-append_seam}
use Rattle.std.specs.Str.{all_scalars}
use Rattle.std.proofs.lemmas.Bool.{and_parts}
use Rattle.std.proofs.lemmas.Grind.{flat_map-append}
use Rattle.plain_text.proofs.callers.ListLemmas.{count_by-yes, count_by-no}
use Rattle.plain_text.specs.Lines.{logical_lines}
use Rattle.plain_screen.specs.declared.piece.Piece.{Piece}
use Rattle.plain_screen.specs.View.{RiseTo, AreEnds, pieces_of_line, pieces_from}
use Rattle.line_break.specs.Breaks.{breaks_of}
use Rattle.line_break.proofs.ForCallers.{AreEnds-breaks_of}
use Rattle.line_break.specs.Pieces.{wrapped_pieces}
use Rattle.line_index.specs.declared.cut.Cut.{Cut}
use Rattle.line_index.specs.Cuts.{cuts_from, cuts_of, cuts_of_line, cuts_of_lines, full_lines, open_line, onto_front, onto_open, onto_some, pieces_at, firsts, span}
use Rattle.rope_node.specs.Lengths.{lf_count}
use Rattle.rope_metrics.specs.Measure.{IsCut}
use Rattle.rope_metrics.specs.declared.measure.Measure.TheVariants.{Lines}
use Rattle.line_index.specs.Laws.{EditsReplaceCuts}

-- ---- the logical lines of two texts, one after the other

onto_front-none : (lines : List (List ℕ)) → (lines ≡ [] → ⊥) → onto_front [] lines ≡ lines
onto_front-none [] some = absurd (some refl)
onto_front-none (line ∷ lines) some = refl

logical_lines-some : (text : List ℕ) → logical_lines text ≡ [] → ⊥
logical_lines-some [] none = cc
logical_lines-some (c ∷ text) none = by (c == 10) (logical_lines text) none
  where
    by : (b : Bool) (lines : List (List ℕ)) → (if b then (c ∷ []) ∷ lines else onto_first c lines) ≡ [] → ⊥
    by true lines none = cc
    by false [] none = cc
    by false (line ∷ lines) none = cc

-- THE LINES OF TWO TEXTS: those that LF ended in the first, and those of the second with what stands after the last LF of the first before it
pub logical_lines-append : (front rest : List ℕ) →
    logical_lines (front ++ rest) ≡ full_lines front ++ onto_front (open_line front) (logical_lines rest)
logical_lines-append [] rest = sym (onto_front-none (logical_lines rest) (logical_lines-some rest))
logical_lines-append (c ∷ front) rest =
    by (c == 10) (full_lines front) (open_line front) (logical_lines rest) (logical_lines (front ++ rest)) (logical_lines-append front rest)
  where
    by : (b : Bool) (full : List (List ℕ)) (last : List ℕ) (lines all : List (List ℕ)) → all ≡ full ++ onto_front last lines →
        (if b then (c ∷ []) ∷ all else onto_first c all) ≡
        (if b then (c ∷ []) ∷ full else onto_some c full) ++ onto_front (if b then last else onto_open c full last) lines
    by true full last lines all is = ap (λ ls. (c ∷ []) ∷ ls) is
    by false [] last [] all is = ap (onto_first c) is
    by false [] last (line ∷ lines) all is = ap (onto_first c) is
    by false (one ∷ full) last lines all is = ap (onto_first c) is

-- where the first text is empty or ends with LF, its lines stay and the second has its own
pub logical_lines-ended : (front rest : List ℕ) → open_line front ≡ [] → logical_lines (front ++ rest) ≡ full_lines front ++ logical_lines rest
logical_lines-ended front rest ended =
    logical_lines-append front rest ∙
    ap (λ l. full_lines front ++ onto_front l (logical_lines rest)) ended ∙
    ap (λ ls. full_lines front ++ ls) (onto_front-none (logical_lines rest) (logical_lines-some rest))

-- ---- their cuts

module _ (width tab : ℕ) where
  pub cuts_of_lines-append : (xs ys : List (List ℕ)) → cuts_of_lines width tab (xs ++ ys) ≡ cuts_of_lines width tab xs ++ cuts_of_lines width tab ys
  cuts_of_lines-append xs ys = flat_map-append (cuts_of_line width tab) xs ys

  pub cuts_of-ended : (front rest : List ℕ) → open_line front ≡ [] →
      cuts_of width tab (front ++ rest) ≡ cuts_of_lines width tab (full_lines front) ++ cuts_of width tab rest
  cuts_of-ended front rest ended =
      ap (cuts_of_lines width tab) (logical_lines-ended front rest ended) ∙ cuts_of_lines-append (full_lines front) (logical_lines rest)

  -- THE LINES LEFT AND RIGHT OF AN EDIT STAY CUT AS THEY WERE: where a text is a front that LF ended, a middle that LF ended, and a rest,
  -- another middle in its place changes the cuts of the middle alone
  pub cuts_of-edited : (front middle rest : List ℕ) → open_line front ≡ [] → open_line middle ≡ [] →
      cuts_of width tab (front ++ (middle ++ rest)) ≡
      cuts_of_lines width tab (full_lines front) ++ (cuts_of_lines width tab (full_lines middle) ++ cuts_of width tab rest)
  cuts_of-edited front middle rest front_ended middle_ended =
      cuts_of-ended front (middle ++ rest) front_ended ∙
      ap (λ cs. cuts_of_lines width tab (full_lines front) ++ cs) (cuts_of-ended middle rest middle_ended)

-- ---- each line of a text of characters is one of characters

onto_first-scalars : (c : ℕ) (lines : List (List ℕ)) → all_scalars (c ∷ []) ≡ true → AllByRecursion (λ (line : List ℕ). all_scalars line ≡ true) lines →
    AllByRecursion (λ (line : List ℕ). all_scalars line ≡ true) (onto_first c lines)
onto_first-scalars c [] first rest = (first, tt)
onto_first-scalars c (line ∷ lines) first rest = (both _ _ first rest.0, rest.1)
  where
    both : (a b : Bool) → (a && true) ≡ true → b ≡ true → (a && b) ≡ true
    both true b one other = other
    both false b one other = one

lines-scalars : (text : List ℕ) → all_scalars text ≡ true → AllByRecursion (λ (line : List ℕ). all_scalars line ≡ true) (logical_lines text)
lines-scalars [] scalars = (refl, tt)
lines-scalars (c ∷ text) scalars =
    by (c == 10) (one _ _ scalars) (lines-scalars text (and_parts _ _ scalars).1)
  where
    one : (a b : Bool) → (a && b) ≡ true → (a && true) ≡ true
    one true b both = refl
    one false b both = both

    by : (b : Bool) → all_scalars (c ∷ []) ≡ true → AllByRecursion (λ (line : List ℕ). all_scalars line ≡ true) (logical_lines text) →
        AllByRecursion (λ (line : List ℕ). all_scalars line ≡ true) (cond b ((c ∷ []) ∷ logical_lines text) (onto_first c (logical_lines text)))
    by true first rest = (first, rest)
    by false first rest = onto_first-scalars c (logical_lines text) first rest

-- ---- the pieces that cuts say are those of wrapping

step : (start from end : ℕ) → from ≤ end → start + from + (end - from) ≡ start + end
step start from end le = omega arith

same_piece : (a b c d : ℕ) (ln : Option ℕ) (ps qs : List Piece) → a ≡ b → c ≡ d → ps ≡ qs →
    record { start = a; end = c; ln = ln } ∷ ps ≡ record { start = b; end = d; ln = ln } ∷ qs
same_piece a b c d ln ps qs p q r = rw (p, q, r) refl

RiseTo-le : (len from : ℕ) (ends : List ℕ) → RiseTo len from ends → from ≤ len
RiseTo-le len from [] rise = omega arith
RiseTo-le len from (end ∷ ends) rise = let le = RiseTo-le len end ends rise.1 in let lt = rise.0 in omega arith

-- those of one line, of which the pieces up to `from` stand
pieces_at-more : (number start len from : ℕ) (ends : List ℕ) (cuts : List Cut) → RiseTo len from ends →
    pieces_at number (start + from) (cuts_from false from ends ++ cuts) ≡ pieces_of_line start None from ends ++ pieces_at number (start + len) cuts
pieces_at-more number start len from [] cuts rise = ap (λ n. pieces_at number (start + n) cuts) rise
pieces_at-more number start len from (end ∷ ends) cuts rise =
    let lt = rise.0 in
    let at : start + from + (end - from) ≡ start + end = step start from end (omega arith) in
    let same : number + 0 ≡ number = omega arith in
    same_piece (start + from) (start + from) (start + from + (end - from)) (start + end) None _ _ refl at
    (ap₂ (λ n s. pieces_at n s (cuts_from false end ends ++ cuts)) same at ∙ pieces_at-more number start len end ends cuts rise.1)

pieces_at-first : (number start len end : ℕ) (ends : List ℕ) (cuts : List Cut) → RiseTo len end ends →
    pieces_at number start (cuts_from true 0 (end ∷ ends) ++ cuts) ≡
    pieces_of_line start (Some number) 0 (end ∷ ends) ++ pieces_at (number + 1) (start + len) cuts
pieces_at-first number start len end ends cuts rise =
    let at : start ≡ start + 0 = omega arith in
    let to : start + (end - 0) ≡ start + end = omega arith in
    same_piece start (start + 0) (start + (end - 0)) (start + end) (Some number) _ _ at to
    (ap (λ s. pieces_at (number + 1) s (cuts_from false end ends ++ cuts)) to ∙ pieces_at-more (number + 1) start len end ends cuts rise)

pieces_at-line : (number start : ℕ) (line ends : List ℕ) (cuts : List Cut) → AreEnds (length line) ends →
    pieces_at number start (cuts_from true 0 ends ++ cuts) ≡
    pieces_of_line start (Some number) 0 ends ++ pieces_at (number + 1) (start + length line) cuts
pieces_at-line number start [] ends cuts are =
    ap (λ es. pieces_at number start (cuts_from true 0 es ++ cuts)) are ∙
    pieces_at-first number start 0 0 [] cuts refl ∙
    ap (λ es. pieces_of_line start (Some number) 0 es ++ pieces_at (number + 1) (start + 0) cuts) (sym are)
pieces_at-line number start (c ∷ line) [] cuts are = absurd (let none : 0 ≡ length (c ∷ line) = are in omega arith)
pieces_at-line number start (c ∷ line) (end ∷ ends) cuts are = pieces_at-first number start (length (c ∷ line)) end ends cuts are.1

-- each line is cut somewhere
abbrev pub AreCut : (List ℕ → List ℕ) → List (List ℕ) → Type 0
AreCut ends_of lines = AllByRecursion (λ line. AreEnds (length line) (ends_of line)) lines

module _ (width tab : ℕ) where
  pub pieces_at-lines : (number start : ℕ) (lines : List (List ℕ)) → AreCut (breaks_of width tab) lines →
      pieces_at number start (cuts_of_lines width tab lines) ≡ pieces_from number start (map (λ line. (line, breaks_of width tab line)) lines)
  pieces_at-lines number start [] are = refl
  pieces_at-lines number start (line ∷ lines) are =
      pieces_at-line number start line (breaks_of width tab line) (cuts_of_lines width tab lines) are.0 ∙
      ap (λ ps. pieces_of_line start (Some number) 0 (breaks_of width tab line) ++ ps) (pieces_at-lines (number + 1) (start + length line) lines are.1)

  -- THE CUTS OF A TEXT SAY ITS PIECES
  pub pieces_at-cuts : (text : List ℕ) → AreCut (breaks_of width tab) (logical_lines text) → pieces_at 1 0 (cuts_of width tab text) ≡ wrapped_pieces width tab text
  pieces_at-cuts text are = pieces_at-lines 1 0 (logical_lines text) are

  pub AreCut-lines : (lines : List (List ℕ)) → AllByRecursion (λ (line : List ℕ). all_scalars line ≡ true) lines → AreCut (breaks_of width tab) lines
  AreCut-lines [] each = tt
  AreCut-lines (line ∷ lines) each = (AreEnds-breaks_of width tab line each.0, AreCut-lines lines each.1)

  pub AreCut-text : (text : List ℕ) → all_scalars text ≡ true → AreCut (breaks_of width tab) (logical_lines text)
  AreCut-text text scalars = AreCut-lines (logical_lines text) (lines-scalars text scalars)

  pub pieces_at-text : (text : List ℕ) → all_scalars text ≡ true → pieces_at 1 0 (cuts_of width tab text) ≡ wrapped_pieces width tab text
  pieces_at-text text scalars = pieces_at-cuts text (AreCut-text text scalars)

-- ---- pieces go on

pub pieces_at-append : (number start : ℕ) (cuts others : List Cut) →
    pieces_at number start (cuts ++ others) ≡ pieces_at number start cuts ++ pieces_at (number + firsts cuts) (start + span cuts) others
pieces_at-append number start [] others = ap₂ (λ n s. pieces_at n s others) (sym (add-zero number)) (sym (add-zero start))
pieces_at-append number start (cut ∷ cuts) others =
    let piece : Piece = record { start = start; end = start + cut.len; ln = if cut.first then Some number else None } in
    ap (λ ps. piece ∷ ps)
    (pieces_at-append (number + cond cut.first 1 0) (start + cut.len) cuts others ∙
    ap₂ (λ n s. pieces_at (number + cond cut.first 1 0) (start + cut.len) cuts ++ pieces_at n s others)
    (add_assoc number (cond cut.first 1 0) (firsts cuts)) (add_assoc start cut.len (span cuts)))

-- ---- the lines left of the first gap with so many LFs before it

pub full_and_last : (text : List ℕ) → concat (full_lines text) ++ open_line text ≡ text
full_and_last [] = refl
full_and_last (c ∷ text) = by (c == 10) (full_lines text) (open_line text) (full_and_last text)
  where
    by : (b : Bool) (full : List (List ℕ)) (last : List ℕ) → concat full ++ last ≡ text →
        concat (if b then (c ∷ []) ∷ full else onto_some c full) ++ (if b then last else onto_open c full last) ≡ c ∷ text
    by true full last is = ap (λ t. c ∷ t) is
    by false [] last is = ap (λ t. c ∷ t) is
    by false (line ∷ full) last is = ap (λ t. c ∷ t) is

length-onto_some : (c : ℕ) (lines : List (List ℕ)) → length (onto_some c lines) ≡ length lines
length-onto_some c [] = refl
length-onto_some c (line ∷ lines) = refl

pub lf_count-cons : (c : ℕ) (text : List ℕ) → lf_count (c ∷ text) ≡ (if c == 10 then 1 else 0) + lf_count text
lf_count-cons c text = by (c == 10) refl
  where
    by : (b : Bool) → (c == 10) ≡ b → lf_count (c ∷ text) ≡ (if b then 1 else 0) + lf_count text
    by true is = let more : lf_count (c ∷ text) ≡ lf_count text + 1 = count_by-yes (λ x. x == 10) c text is in omega (arith, more)
    by false is = count_by-no (λ x. x == 10) c text is ∙ sym (zero-add (lf_count text))

pub count-full : (text : List ℕ) → length (full_lines text) ≡ lf_count text
count-full [] = refl
count-full (c ∷ text) = by (c == 10) (full_lines text) (count-full text) ∙ sym (lf_count-cons c text)
  where
    by : (b : Bool) (full : List (List ℕ)) → length full ≡ lf_count text →
        length (if b then (c ∷ []) ∷ full else onto_some c full) ≡ (if b then 1 else 0) + lf_count text
    by true full is = let more : length ((c ∷ []) ∷ full) ≡ 1 + length full = omega arith in more ∙ ap (λ n. 1 + n) is
    by false full is = length-onto_some c full ∙ is ∙ sym (zero-add (lf_count text))

lf_count-last : (text : List ℕ) → lf_count (open_line text) ≡ 0
lf_count-last [] = refl
lf_count-last (c ∷ text) = by (c == 10) refl (full_lines text) (open_line text) (count-full text) (full_and_last text) (lf_count-last text)
  where
    by : (b : Bool) → (c == 10) ≡ b → (full : List (List ℕ)) (last : List ℕ) → length full ≡ lf_count text → concat full ++ last ≡ text → lf_count last ≡ 0 →
        lf_count (if b then last else onto_open c full last) ≡ 0
    by true is full last many whole none = none
    by false is [] last many whole none = count_by-no (λ x. x == 10) c last is ∙ none
    by false is (line ∷ full) last many whole none = none

pub lf_count-append : (xs ys : List ℕ) → lf_count (xs ++ ys) ≡ lf_count xs + lf_count ys
lf_count-append xs ys = sum_by-append (λ c. cond (c == 10) 1 0) xs ys

pub ended-after : (text front back : List ℕ) (count : ℕ) → IsCut Lines text count front back → open_line front ≡ []
ended-after text front back count is = by (open_line front) (full_and_last front) (lf_count-last front)
  where
    by : (last : List ℕ) → concat (full_lines front) ++ last ≡ front → lf_count last ≡ 0 → last ≡ []
    by [] whole none = refl
    by (c ∷ last) whole none =
        let shorter : List ℕ = concat (full_lines front) in
        let less : lf_count shorter < count = is.first shorter last c (sym whole) in
        let all : lf_count (shorter ++ (c ∷ last)) ≡ count = ap lf_count whole ∙ is.ends in
        let parts : lf_count (shorter ++ (c ∷ last)) ≡ lf_count shorter + lf_count (c ∷ last) = lf_count-append shorter (c ∷ last) in
        absurd (omega (arith, less, all, parts, none))

pub lines-after : (text front back : List ℕ) (count : ℕ) → IsCut Lines text count front back →
    (open_line front ≡ []) × (length (full_lines front) ≡ count)
lines-after text front back count is = (ended-after text front back count is, count-full front ∙ is.ends)

-- ---- cuts are replaced

module _ (width tab : ℕ) where
  pub cuts_of-replaced : (front gone come rest : List ℕ) → open_line front ≡ [] → EditsReplaceCuts width tab front gone come rest
  cuts_of-replaced front gone come rest ended =
      let first : List Cut = cuts_of_lines width tab (full_lines front) in
      let old : List Cut = cuts_of_lines width tab (full_lines gone) in
      let new : List Cut = cuts_of_lines width tab (full_lines come) in
      let last : List Cut = cuts_of width tab rest in
      record {
        inside = λ gone_ended come_ended.
            let before : cuts_of width tab (front ++ (gone ++ rest)) ≡ first ++ (old ++ last) = cuts_of-edited width tab front gone rest ended gone_ended in
            let left : take (length first) (cuts_of width tab (front ++ (gone ++ rest))) ≡ first =
            ap (take (length first)) before ∙ take-append_seam first (old ++ last) in
            let right : drop (length first + length old) (cuts_of width tab (front ++ (gone ++ rest))) ≡ last =
            ap (drop (length first + length old)) before ∙ drop-append-add first (old ++ last) (length old) ∙ drop-append_seam old last in
            cuts_of-edited width tab front come rest ended come_ended ∙
            ap₂ (λ xs ys. xs ++ (new ++ ys)) (sym left) (sym right);
        at_end =
            let before : cuts_of width tab (front ++ gone) ≡ first ++ cuts_of width tab gone = cuts_of-ended width tab front gone ended in
            let left : take (length first) (cuts_of width tab (front ++ gone)) ≡ first =
            ap (take (length first)) before ∙ take-append_seam first (cuts_of width tab gone) in
            cuts_of-ended width tab front come ended ∙ ap (λ xs. xs ++ cuts_of width tab come) (sym left);
      }
