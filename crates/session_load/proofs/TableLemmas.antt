-- The row of a kind, at its place and where it has none.
use Rattle.std.proofs.Common.{◌≡◌, Ok, Err, ⊎_elim, ℕ, suc, ◌+◌, ◌<◌, ◌≤◌, Bool, true, false, cond, List, [], ◌∷◌, ◌++◌, map, length, get_or, refl, ap, sym, ◌∙◌, arith}
use Rattle.std.specs.Prelude.{Result, OnOk, not, slice_set, if◌then◌else◌}
use Rattle.std.specs.List.{position_or_len}
use Rattle.std.specs.Str.{bytes_eq}
use Rattle.std.proofs.lemmas.Bool.{cases_Bool, true≢false}
use Rattle.std.proofs.lemmas.Slice.Eq.{bytes_eq-Decides}
use Rattle.session_load.specs.declared.table.Row.{Row}
use Rattle.session_load.specs.declared.table.Written.{Written}
use Rattle.session_load.specs.Table.{Line, Tally, Tallies, is_of, no_lines, with_line, rows_with, table_with, table_after, row_of, row_after, of_kind, tally_of}

-- what follows of an answer that is none of want of memory
pub on_ok : {X E P Q : Type 0} (result : Result X E) → (P → Q) → OnOk result P → OnOk result Q
on_ok (Ok x) f p = f p
on_ok (Err e) f p = p

-- the place, where the first row is of this kind, and where it is of another
place_here : (kind : List ℕ) (row : Row) (rows : List Row) → is_of kind row ≡ true → position_or_len (is_of kind) (row ∷ rows) ≡ 0
place_here kind row rows here = ap (λ (b : Bool). cond (not b) (1 + position_or_len (is_of kind) rows) 0) here

place_there : (kind : List ℕ) (row : Row) (rows : List Row) → is_of kind row ≡ false → position_or_len (is_of kind) (row ∷ rows) ≡ suc (position_or_len (is_of kind) rows)
place_there kind row rows other =
    let next : 1 + position_or_len (is_of kind) rows ≡ suc (position_or_len (is_of kind) rows) = omega arith in
    ap (λ (b : Bool). cond (not b) (1 + position_or_len (is_of kind) rows) 0) other ∙ next

-- a line more in the row at its place
pub rows_with-place : (rows : List Row) (line : Line) (place : ℕ) (d new : Row) → place ≡ position_or_len (is_of line.kind) rows → place < length rows →
    tally_of new ≡ with_line (tally_of (get_or rows place d)) line.written →
    map tally_of (slice_set rows place new) ≡ rows_with (map tally_of rows) line
rows_with-place [] line place d new is inside counted = absurd (omega (arith, inside))
rows_with-place (row ∷ rows) line place d new is inside counted =
    let Here : List Tally = with_line (tally_of row) line.written ∷ map tally_of rows in
    let There : List Tally = tally_of row ∷ rows_with (map tally_of rows) line in
    ⊎_elim
    (λ (here : is_of line.kind row ≡ true).
    let first : place ≡ 0 = is ∙ place_here line.kind row rows here in
    ap (λ i. map tally_of (slice_set (row ∷ rows) i new)) first ∙
    ap (λ tally. tally ∷ map tally_of rows) (counted ∙ ap (λ i. with_line (tally_of (get_or (row ∷ rows) i d)) line.written) first) ∙
    sym (ap (λ (b : Bool). if b then Here else There) here))
    (λ (other : is_of line.kind row ≡ false).
    let at = position_or_len (is_of line.kind) rows in
    let same : place ≡ suc at = is ∙ place_there line.kind row rows other in
    let later =
    rows_with-place rows line at d new refl (omega (arith, inside, same))
    (counted ∙ ap (λ i. with_line (tally_of (get_or (row ∷ rows) i d)) line.written) same) in
    ap (λ i. map tally_of (slice_set (row ∷ rows) i new)) same ∙ ap (λ tallies. tally_of row ∷ tallies) later ∙
    sym (ap (λ (b : Bool). if b then Here else There) other))
    (cases_Bool (is_of line.kind row))

-- a line more in a new row
pub rows_with-none : (rows : List Row) (line : Line) (place : ℕ) → place ≡ position_or_len (is_of line.kind) rows → length rows ≤ place →
    rows_with (map tally_of rows) line ≡ map tally_of rows ++ with_line (no_lines line.kind) line.written ∷ []
rows_with-none [] line place is past = refl
rows_with-none (row ∷ rows) line place is past =
    let Here : List Tally = with_line (tally_of row) line.written ∷ map tally_of rows in
    let There : List Tally = tally_of row ∷ rows_with (map tally_of rows) line in
    ⊎_elim
    (λ (here : is_of line.kind row ≡ true). absurd (omega (arith, past, is ∙ place_here line.kind row rows here)))
    (λ (other : is_of line.kind row ≡ false).
    let at = position_or_len (is_of line.kind) rows in
    let later = rows_with-none rows line at refl (omega (arith, past, is ∙ place_there line.kind row rows other)) in
    ap (λ (b : Bool). if b then Here else There) other ∙ ap (λ tallies. tally_of row ∷ tallies) later)
    (cases_Bool (is_of line.kind row))

-- a line more behind others
pub table_after-push : (table : Tallies) (lines : List Line) (line : Line) → table_after table (lines ++ line ∷ []) ≡ table_with (table_after table lines) line
table_after-push table [] line = refl
table_after-push table (first ∷ lines) line = table_after-push (table_with table first) lines line

-- ---- the row of a kind

same_tests : (one two kind : List ℕ) → bytes_eq one two ≡ true → bytes_eq one kind ≡ bytes_eq two kind
same_tests one two kind same = ap (λ bytes. bytes_eq bytes kind) ((bytes_eq-Decides one two).0 same)

one_row : (b : Bool) (new row other : Tally) (written : Written) → new ≡ with_line row written →
    (if b then new else other) ≡ (if b then with_line (if b then row else other) written else (if b then row else other))
one_row true new row other written is = is
one_row false new row other written is = refl

two_rows : (b c : Bool) (row other : Tally) (written : Written) → (b ≡ true → c ≡ true → ⊥) →
    (if b then row else (if c then with_line other written else other)) ≡
    (if c then with_line (if b then row else other) written else (if b then row else other))
two_rows true true row other written never = absurd (never refl refl)
two_rows true false row other written never = refl
two_rows false c row other written never = refl

row_after-if : (b : Bool) (row : Tally) (line : Line) (more : List Line) →
    row_after (if b then with_line row line.written else row) more ≡ row_after row (cond b (line ∷ more) more)
row_after-if true row line more = refl
row_after-if false row line more = refl

apart : (one two kind : List ℕ) → bytes_eq one two ≡ false → bytes_eq one kind ≡ true → bytes_eq two kind ≡ true → ⊥
apart one two kind other first second =
    let is : one ≡ two = (bytes_eq-Decides one kind).0 first ∙ sym ((bytes_eq-Decides two kind).0 second) in
    true≢false (sym ((bytes_eq-Decides one two).1 is) ∙ other)

-- a line more is in the row of its kind, and in no other one
pub row_of-rows_with : (kind : List ℕ) (rows : List Tally) (line : Line) →
    row_of kind (rows_with rows line) ≡ (if bytes_eq line.kind kind then with_line (row_of kind rows) line.written else row_of kind rows)
row_of-rows_with kind [] line =
    ⊎_elim
    (λ (same : bytes_eq line.kind kind ≡ true).
    let is : line.kind ≡ kind = (bytes_eq-Decides line.kind kind).0 same in
    ap (λ (k : List ℕ). if bytes_eq line.kind kind then with_line (no_lines k) line.written else no_lines kind) is)
    (λ (other : bytes_eq line.kind kind ≡ false).
    ap (λ (b : Bool). if b then with_line (no_lines line.kind) line.written else no_lines kind) other ∙
    sym (ap (λ (b : Bool). if b then with_line (no_lines kind) line.written else no_lines kind) other))
    (cases_Bool (bytes_eq line.kind kind))
row_of-rows_with kind (row ∷ rows) line =
    let w = line.written in
    let R = row_of kind rows in
    let Here : List Tally = with_line row w ∷ rows in
    let There : List Tally = row ∷ rows_with rows line in
    ⊎_elim
    (λ (here : bytes_eq row.kind line.kind ≡ true).
    let tests = same_tests row.kind line.kind kind here in
    ap (λ (b : Bool). row_of kind (if b then Here else There)) here ∙ ap (λ (b : Bool). if b then with_line row w else R) tests ∙
    one_row (bytes_eq line.kind kind) (with_line row w) row R w refl ∙
    sym (ap (λ (b : Bool). if bytes_eq line.kind kind then with_line (if b then row else R) w else (if b then row else R)) tests))
    (λ (other : bytes_eq row.kind line.kind ≡ false).
    ap (λ (b : Bool). row_of kind (if b then Here else There)) other ∙
    ap (λ later. if bytes_eq row.kind kind then row else later) (row_of-rows_with kind rows line) ∙
    two_rows (bytes_eq row.kind kind) (bytes_eq line.kind kind) row R w (λ first second. apart row.kind line.kind kind other first second))
    (cases_Bool (bytes_eq row.kind line.kind))

-- the same over more lines
pub row_of-table_after : (kind : List ℕ) (table : Tallies) (lines : List Line) →
    row_of kind (table_after table lines).rows ≡ row_after (row_of kind table.rows) (of_kind kind lines)
row_of-table_after kind table [] = refl
row_of-table_after kind table (line ∷ lines) =
    let more = of_kind kind lines in
    row_of-table_after kind (table_with table line) lines ∙ ap (λ row. row_after row more) (row_of-rows_with kind table.rows line) ∙
    row_after-if (bytes_eq line.kind kind) (row_of kind table.rows) line more

pub all-table_after : (table : Tallies) (lines : List Line) → (table_after table lines).all ≡ row_after table.all lines
all-table_after table [] = refl
all-table_after table (line ∷ lines) = all-table_after (table_with table line) lines
