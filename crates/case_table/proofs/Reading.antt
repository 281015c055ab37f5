-- Reading a table from its text, one name after the other.
use Rattle.std.proofs.Common.{◌≡◌, ℕ, ◌+◌, ◌-◌, ◌<◌, ◌≤◌, true, false, List, [], ◌∷◌, ◌++◌, length, take, drop, get_or, set, Some, None, refl, sym, ◌∙◌, ap, subst, arith, below_more}
use Rattle.std.specs.Ordering.{nat_cmp, is_lt}
use Rattle.std.specs.Cmp.Lexicographic.{slice_cmp}
use Rattle.std.specs.declared.cmp.Ordering.TheVariants.{Less}
use Rattle.std.specs.Str.{IsUtf8}
use Rattle.std.proofs.lemmas.List.{length-append, length-set, get_or-set_other, get_or-set_same, get_or-drop, nil_from_length, drop-drop}
use Rattle.std.proofs.lemmas.List.Splits.{join_with_byte-slice_split}
use Rattle.std.proofs.Math.Seq.{take-append_seam, get_or-append_seam, drop-append-add}
use Rattle.std.proofs.Math.Nat.{sub_self}
use Rattle.std.proofs.lemmas.Str.{IsCharBoundary-from_drop, IsCharBoundary-before_ascii}
use Rattle.case_table.specs.Table.{pieces, piece_at, is_good, bad_case}
use Rattle.case_table.specs.Places.{ShowsPiece, ShowsBelow, IsTable}
use Rattle.case_table.proofs.Pieces.{drop-at, pieces-some}
use Rattle.case_table.proofs.Wrong.{bad_case-at, bad_case-none, is_good-true, is_good-missing, is_good-falls, is_right-below, is_right-end, is_over-left, is_over-none}
use Rattle.case_table.proofs.Laws.{names_of-count, names_of-rising}

-- so many names are read: they are good, the spans show them, and the rest of the text is still to be read
pub record IsRead (n : ℕ) (text rest before : List ℕ) (spans : List (ℕ × ℕ)) (row : ℕ) : Type 0 where
  pub place : drop (length text - length rest) text ≡ rest
  pub fits : length rest ≤ length text
  pub left : drop row (pieces text) ≡ pieces rest
  pub last : 0 < row → before ≡ piece_at (pieces text) (row - 1)
  pub good : (k : ℕ) → k < row → is_good (pieces text) k ≡ true
  pub shown : ShowsBelow text spans row
  pub room : length spans ≡ n

-- nothing is read yet
pub IsRead-start : (n : ℕ) (text : List ℕ) (spans : List (ℕ × ℕ)) → length spans ≡ n → IsRead n text text [] spans 0
IsRead-start n text spans room = record {
  place = rw (sub_self (length text));
  fits = omega arith;
  left = refl;
  last = λ h. absurd (omega arith);
  good = λ k h. absurd (omega arith);
  shown = λ k h. absurd (omega arith);
  room = room;
}

-- what stands after a name and its space
pub after-place : (text rest name after : List ℕ) → drop (length text - length rest) text ≡ rest → length rest ≤ length text → rest ≡ name ++ 32 ∷ after → (length rest ≡ length name + 1 + length after) × (drop (length text - length after) text ≡ after) × (get_or text (length text - length rest + length name) 0 ≡ 32)
after-place text rest name after place fits whole =
    let start = length text - length rest in
    let len : length rest ≡ length name + 1 + length after = omega (arith, length-append name (32 ∷ after), ap length whole) in
    let moved : length text - length after ≡ start + (length name + 1) = omega arith in (
      len,
      rw moved (sym (drop-drop (length name + 1) start text) ∙ ap (drop (length name + 1)) (place ∙ whole) ∙ drop-append-add name (32 ∷ after) 1),
      sym (get_or-drop start text (length name) 0) ∙ ap (λ bytes. get_or bytes (length name) 0) (place ∙ whole) ∙ get_or-append_seam name 32 after 0,
    )

-- the span of a name shows it
pub ShowsPiece-name : (text rest name after : List ℕ) → drop (length text - length rest) text ≡ rest → length rest ≤ length text → rest ≡ name ++ 32 ∷ after → IsUtf8 rest → ShowsPiece text (length text - length rest) (length text - length rest + length name) name
ShowsPiece-name text rest name after place fits whole utf8 =
    let start = length text - length rest in
    let moved = after-place text rest name after place fits whole in
    let gone : start + length name - start ≡ length name = omega arith in
    record {
      ordered = omega arith;
      starts = IsCharBoundary-from_drop text start (omega arith) (subst IsUtf8 (sym place) utf8);
      ends = IsCharBoundary-before_ascii text (start + length name) (omega (arith, moved.0)) (omega (arith, moved.2));
      bytes = rw gone (ap (take (length name)) (place ∙ whole) ∙ take-append_seam name (32 ∷ after));
    }

-- one name more
pub IsRead-step : (n : ℕ) (text rest before name after : List ℕ) (spans : List (ℕ × ℕ)) (row : ℕ) → IsRead n text rest before spans row → row < n → pieces rest ≡ name ∷ pieces after → rest ≡ name ++ 32 ∷ after → IsUtf8 rest → (0 < row → slice_cmp nat_cmp before name ≡ Less) → IsRead n text after name (set spans row (length text - length rest, length text - length rest + length name)) (row + 1)
IsRead-step n text rest before name after spans row read within cut whole utf8 above =
    let start = length text - length rest in
    let span : ℕ × ℕ = (start, start + length name) in
    let at = drop-at (pieces text) (pieces after) name [] row (read.left ∙ cut) in
    let some = pieces-some after in
    let moved = after-place text rest name after read.place read.fits whole in
    let back : row + 1 - 1 ≡ row = omega arith in
    let room : row < length spans = omega (arith, read.room) in
    let same = get_or-set_same spans row span (0, 0) room in
    record {
      place = moved.1;
      fits = omega (arith, moved.0, read.fits);
      left = at.2;
      last = λ _. rw back (sym at.1);
      good = below_more _ _ read.good (is_good-true (pieces text) row (omega (arith, at.0, some)) (λ later. rw (← read.last later, at.1) (above later)));
      shown = below_more _ _ (λ k h. rw (get_or-set_other spans row k span (0, 0) (omega arith)) (read.shown k h)) (rw (same, at.1) (ShowsPiece-name text rest name after read.place read.fits whole utf8));
      room = length-set spans row span ∙ read.room;
    }

-- a name is missing
pub IsRead-missing : (n : ℕ) (text rest before : List ℕ) (spans : List (ℕ × ℕ)) (row : ℕ) → IsRead n text rest before spans row → row < n → pieces rest ≡ rest ∷ [] → bad_case n text ≡ Some row
IsRead-missing n text rest before spans row read within cut =
    let at = drop-at (pieces text) [] rest [] row (read.left ∙ cut) in
    let missing = is_good-missing (pieces text) row (omega (arith, at.0)) in
    bad_case-at n row text (omega arith) (λ k h. is_right-below n (pieces text) k true (omega arith) (read.good k h)) (is_right-below n (pieces text) row false within missing)

-- a name is not above the one before it
pub IsRead-falls : (n : ℕ) (text rest before name after : List ℕ) (spans : List (ℕ × ℕ)) (row : ℕ) → IsRead n text rest before spans row → row < n → pieces rest ≡ name ∷ pieces after → 0 < row → is_lt (slice_cmp nat_cmp before name) ≡ false → bad_case n text ≡ Some row
IsRead-falls n text rest before name after spans row read within cut later falls =
    let at = drop-at (pieces text) (pieces after) name [] row (read.left ∙ cut) in
    let fall = is_good-falls (pieces text) row later (rw (← read.last later, at.1) falls) in
    bad_case-at n row text (omega arith) (λ k h. is_right-below n (pieces text) k true (omega arith) (read.good k h)) (is_right-below n (pieces text) row false within fall)

-- at the end of the loop so many names are read as the table has
IsRead-end : (n : ℕ) (text rest before : List ℕ) (spans : List (ℕ × ℕ)) (row : ℕ) → IsRead n text rest before spans row → row ≡ n → IsRead n text rest before spans n
IsRead-end n text rest before spans row read end = subst (IsRead n text rest before spans) end read

-- text is left
pub IsRead-left : (n : ℕ) (text rest before : List ℕ) (spans : List (ℕ × ℕ)) (row : ℕ) → IsRead n text rest before spans row → row ≡ n → 0 < length rest → bad_case n text ≡ Some n
IsRead-left n text rest before spans row read end some =
    let whole = IsRead-end n text rest before spans row read end in
    let over = is_over-left n (pieces text) (pieces rest) whole.left (rw (join_with_byte-slice_split 32 rest) some) in
    bad_case-at n n text (omega arith) (λ k h. is_right-below n (pieces text) k true h (whole.good k h)) (is_right-end n (pieces text) ∙ over)

-- nothing is left
pub IsRead-over : (n : ℕ) (text rest before : List ℕ) (spans : List (ℕ × ℕ)) (row : ℕ) → IsRead n text rest before spans row → row ≡ n → length rest ≡ 0 → bad_case n text ≡ None
IsRead-over n text rest before spans row read end none =
    let whole = IsRead-end n text rest before spans row read end in
    let over = is_over-none n (pieces text) (whole.left ∙ ap pieces (nil_from_length rest none)) in
    bad_case-none n text (below_more _ _ (λ k h. is_right-below n (pieces text) k true h (whole.good k h)) (is_right-end n (pieces text) ∙ over))

-- and the spans show a table
pub IsTable-over : (n : ℕ) (text rest before : List ℕ) (spans : List (ℕ × ℕ)) (row : ℕ) → IsRead n text rest before spans row → row ≡ n → length rest ≡ 0 → IsTable n text spans
IsTable-over n text rest before spans row read end none =
    let over = IsRead-over n text rest before spans row read end none in
    record {
      count = names_of-count n text over;
      rising = names_of-rising n text over;
      shown = (IsRead-end n text rest before spans row read end).shown;
    }
