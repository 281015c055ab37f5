-- Rows of tables: the one of a name, and the members of one.
use Rattle.std.proofs.Common.{◌≡◌, ℕ, zero, suc, ◌+◌, ◌<◌, ◌≤◌, Bool, true, false, List, [], ◌∷◌, length, Option, Some, None, refl, sym, ap, ◌∙◌, arith, get_or}
use Rattle.std.specs.Prelude.{◌↔◌, option_and_then, option_map, slice_get, unwrap_or, if◌then◌else◌}
use Rattle.std.specs.Str.{bytes_eq}
use Rattle.std.proofs.lemmas.Slice.Eq.{bytes_eq-Decides}
use Rattle.case_front.specs.Members.{PlainMember}
use Rattle.case_front.specs.Table.{Method as Row, members_in, member_at}
use Rattle.front_wire.specs.declared.method.Table.{Table}
use Rattle.front_wire.specs.declared.method.Method.{Method}
use Rattle.front_wire.specs.Method.{members, table_of}
use Rattle.front_wire.specs.Members.{members_of_row}
use Rattle.front_wire.specs.Front.{row_of}

cases : (members : Option (List PlainMember)) (place : ℕ) → option_and_then (λ members. slice_get members place) members ≡ slice_get (unwrap_or members []) place
cases None place = refl
cases (Some members) place = refl

-- the member at a place is that of the row's members
member_at_members : (table : List Row) (row place : ℕ) → member_at table row place ≡ slice_get (members_of_row table row) place
unfolding members_of_row
member_at_members table row place = cases (slice_get (members_in table) row) place

-- and so for a method in memory
pub member_at-method : (method : Method) (table : Table) (place : ℕ) → method.table ≡ table →
    member_at (table_of table) method.row place ≡ slice_get (members method) place
member_at-method method table place is =
    member_at_members (table_of table) method.row place ∙ ap (λ t. slice_get (members_of_row (table_of t) method.row) place) (sym is)

same_bytes : (xs ys : List ℕ) → bytes_eq xs ys ≡ true → xs ≡ ys
same_bytes xs ys same = (bytes_eq-Decides xs ys).0 same

bytes_same : (xs ys : List ℕ) → xs ≡ ys → bytes_eq xs ys ≡ true
bytes_same xs ys same = (bytes_eq-Decides xs ys).1 same

somewhere_at : (same : Bool) (rest : Option ℕ) → ((k : ℕ) × (rest ≡ Some k)) →
    (k : ℕ) × ((if same then Some 0 else option_map (λ row. row + 1) rest) ≡ Some k)
somewhere_at true rest at = (0, refl)
somewhere_at false rest at = (at.0 + 1, ap (option_map (λ row. row + 1)) at.1)

-- a name that stands somewhere is found somewhere
stands_somewhere : (names : List (List ℕ)) (name : List ℕ) (row : ℕ) → slice_get names row ≡ Some name → (k : ℕ) × (row_of names name ≡ Some k)
unfolding row_of
stands_somewhere [] name row stands = absurd cc
stands_somewhere (known ∷ names) name zero stands =
    let same : bytes_eq known name ≡ true = bytes_same known name cc in
    (0, ap (λ b. if b then Some 0 else option_map (λ row. row + 1) (row_of names name)) same)
stands_somewhere (known ∷ names) name (suc row) stands =
    somewhere_at (bytes_eq known name) (row_of names name) (stands_somewhere names name row stands)

there_at : (known name : List ℕ) (names : List (List ℕ)) (same : Bool) (rest : Option ℕ) → bytes_eq known name ≡ same →
    ((j : ℕ) → rest ≡ Some j → slice_get names j ≡ Some name) →
    (k : ℕ) → (if same then Some 0 else option_map (λ row. row + 1) rest) ≡ Some k → slice_get (known ∷ names) k ≡ Some name
there_at known name names true rest same there zero found = ap Some (same_bytes known name same)
there_at known name names true rest same there (suc k) found = absurd cc
there_at known name names false None same there k found = absurd cc
there_at known name names false (Some j) same there zero found =
    let is : j + 1 ≡ 0 = ap (λ o. unwrap_or o 0) found in
    absurd (omega (arith, is))
there_at known name names false (Some j) same there (suc k) found =
    let is : j + 1 ≡ suc k = ap (λ o. unwrap_or o 0) found in
    there k (ap Some (omega (arith, is)))

-- and stands where it is found
stands_there : (names : List (List ℕ)) (name : List ℕ) (k : ℕ) → row_of names name ≡ Some k → slice_get names k ≡ Some name
unfolding row_of
stands_there [] name k found = absurd cc
stands_there (known ∷ names) name k found =
    there_at known name names (bytes_eq known name) (row_of names name) refl (stands_there names name) k found

row_found : (names : List (List ℕ)) (name : List ℕ) (r of : Option ℕ) → ((row : ℕ) → (r ≡ Some row) ↔ (slice_get names row ≡ Some name)) →
    row_of names name ≡ of → r ≡ of
row_found names name None None own is = refl
row_found names name None (Some k) own is = (own k).1 (stands_there names name k is)
row_found names name (Some row) of own is =
    let at = stands_somewhere names name row ((own row).0 refl) in
    (own at.0).1 (stands_there names name at.0 at.1) ∙ sym at.1 ∙ is

-- so what leads each name of these to its own row, and every other to none, gives its row
pub row_of-own : (names table : List (List ℕ)) (name : List ℕ) (r : Option ℕ) → table ≡ names →
    ((row : ℕ) → (r ≡ Some row) ↔ (slice_get table row ≡ Some name)) → r ≡ row_of names name
row_of-own names table name r is own =
    row_found table name r (row_of table name) own refl ∙ ap (λ all. row_of all name) is
