-- The first member that is refused, place by place.
use Rattle.std.proofs.Common.{◌≡◌, ℕ, zero, suc, ◌+◌, ◌<◌, ◌≤◌, Bool, true, false, List, [], ◌∷◌, length, drop, Option, Some, None, refl, sym, ap, ◌∙◌, arith, get_or}
use Rattle.std.specs.Prelude.{slice_get, unwrap_or, if◌then◌else◌, nat_le, ◌&&◌}
use Rattle.std.specs.List.{list_all}
use Rattle.std.proofs.lemmas.Bool.Decides.{nat_tests}
use Rattle.std.proofs.lemmas.List.{drop_more}
use Rattle.std.proofs.lemmas.Option.{slice_get_within, get_or_from_slice_get}
use Rattle.serde_json.specs.Data.{Data}
use Rattle.case_front.specs.Members.{PlainMember}
use Rattle.case_front.specs.Table.{members_in, front_table, edit_table}
use Rattle.front_wire.specs.declared.method.Table.{Table}
use Rattle.front_wire.specs.declared.method.Table.TheVariants.{Line, Edit}
use Rattle.front_wire.specs.declared.method.Method.{Method}
use Rattle.front_wire.specs.Members.{members_of_row, first_bad, is_given, found}
use Rattle.front_wire.specs.Method.{members}

-- what is left of members from a place on: the one there, and those after it
drop-there : (ms : List PlainMember) (place : ℕ) (m : PlainMember) → slice_get ms place ≡ Some m → drop place ms ≡ m ∷ drop (place + 1) ms
drop-there ms place m there =
    drop_more ms place m (slice_get_within ms place m there) ∙
    ap (λ first. first ∷ drop (place + 1) ms) (get_or_from_slice_get ms place m m there)

drop-none : (ms : List PlainMember) (place : ℕ) → slice_get ms place ≡ None → drop place ms ≡ []
drop-none [] zero none = refl
drop-none [] (suc place) none = refl
drop-none (x ∷ ms) zero none = absurd cc
drop-none (x ∷ ms) (suc place) none = drop-none ms place none

-- no member is refused where none is left
pub first_bad-none : (ms : List PlainMember) (place : ℕ) (params : Data) → slice_get ms place ≡ None → first_bad place (drop place ms) params ≡ None
first_bad-none ms place params none = ap (λ left. first_bad place left params) (drop-none ms place none)

past_none : (ms : List PlainMember) (place : ℕ) → length ms ≤ place → slice_get ms place ≡ None
past_none [] place past = refl
past_none (x ∷ ms) zero past = absurd (omega arith)
past_none (x ∷ ms) (suc place) past = past_none ms place (omega arith)

pub first_bad-past : (ms : List PlainMember) (place : ℕ) (params : Data) → length ms ≤ place → first_bad place (drop place ms) params ≡ None
first_bad-past [] zero params past = refl
first_bad-past [] (suc place) params past = refl
first_bad-past (x ∷ ms) zero params past = absurd (omega arith)
first_bad-past (x ∷ ms) (suc place) params past = ap (λ left. first_bad (suc place) left params) (drop-none (x ∷ ms) (suc place) (past_none (x ∷ ms) (suc place) past))

-- the one there is refused, or the first is among those after it
pub first_bad-there : (ms : List PlainMember) (place : ℕ) (m : PlainMember) (params : Data) (right : Bool) → slice_get ms place ≡ Some m →
    is_given m (found m place params) ≡ right →
    first_bad place (drop place ms) params ≡ (if right then first_bad (place + 1) (drop (place + 1) ms) params else Some m.name)
first_bad-there ms place m params right there is =
    ap (λ left. first_bad place left params) (drop-there ms place m there) ∙
    ap (λ b. if b then first_bad (place + 1) (drop (place + 1) ms) params else Some m.name) is

at_most : (n : ℕ) → nat_le n 4 ≡ true → n ≤ 4
at_most n is = grind (arith, nat_tests, is)

first_of : (a b : Bool) → a && b ≡ true → a ≡ true
first_of true b is = refl
first_of false b is = absurd cc

second_of : (a b : Bool) → a && b ≡ true → b ≡ true
second_of true b is = is
second_of false b is = absurd cc

-- no method has more than four members
few : (all : List (List PlainMember)) (row : ℕ) → list_all (λ ms. nat_le (length ms) 4) all ≡ true → length (unwrap_or (slice_get all row) []) ≤ 4
few [] row each = omega arith
few (ms ∷ all) zero each = at_most (length ms) (first_of (nat_le (length ms) 4) _ each)
few (ms ∷ all) (suc row) each = few all row (second_of (nat_le (length ms) 4) _ each)

few_in : (table : Table) (row : ℕ) → length (members (record { table = table; row = row })) ≤ 4
unfolding members_of_row
few_in Line row = few (members_in front_table) row refl
few_in Edit row = few (members_in edit_table) row refl

pub members-few : (method : Method) → length (members method) ≤ 4
unfolding members_of_row
members-few method = few_in method.table method.row
