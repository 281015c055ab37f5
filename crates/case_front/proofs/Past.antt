-- Rows past a table.
use Rattle.std.proofs.Common.{◌≡◌, ℕ, ◌≤◌, length, None, ap, sym}
use Rattle.std.proofs.lemmas.Option.{slice_get_past}
use Rattle.std.specs.Prelude.{List, option_and_then, slice_get}
use Rattle.case_front.specs.Table.{Method, members_in, member_at}

-- a row past the table has no member
pub member_at-past : (table : List Method) (row place : ℕ) → length (members_in table) ≤ row → None ≡ member_at table row place
member_at-past table row place past = ap (option_and_then (λ members. slice_get members place)) (sym (slice_get_past (members_in table) row past))
