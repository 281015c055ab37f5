-- What one more edit does to each tagged character.
use Rattle.std.proofs.Common.{◌≡◌, ℕ, ◌<◌, ◌≤◌, Bool, true, false, ◌||◌, List, [], ◌∷◌, ◌++◌, take, refl, ap, ◌∙◌, arith}
use Rattle.std.specs.Prelude.{suc, zero, nat_le, nat_lt, ◌==◌}
use Rattle.std.specs.List.{AllByRecursion}
use Rattle.std.proofs.lemmas.Bool.Decides.{nat_tests}
use Rattle.std.proofs.lemmas.List.Folds.{list_any-append}
use Rattle.plain_text.specs.Numbers.{has}
use Rattle.plain_edits.specs.History.{Tagged, Revision, edit, undo, undone_after, IsTaggedBy}
use Rattle.plain_edits.specs.Edits.{with_deletion}
use Rattle.rev_list.specs.declared.edit.RevEdit.{RevEdit}
use Rattle.rev_list.specs.Edit.{edit_revision}

-- an edit undoes nothing
pub undone_after-edit : (groups : List ℕ) (revisions : List Revision) (rev : ℕ) (e : RevEdit) → undone_after groups (take rev (revisions ++ edit_revision e ∷ [])) ≡ undone_after groups (take rev revisions)
undone_after-edit groups [] zero e = refl
undone_after-edit groups [] (suc zero) e = refl
undone_after-edit groups [] (suc (suc rev)) e = refl
undone_after-edit groups (r ∷ revisions) zero e = refl
undone_after-edit groups (edit base group priority author ∷ revisions) (suc rev) e = undone_after-edit groups revisions rev e
undone_after-edit groups (undo new ∷ revisions) (suc rev) e = undone_after-edit new revisions rev e

-- ---- tests of numbers

le_true : (a b : ℕ) → a ≤ b → nat_le a b ≡ true
le_true a b h = grind (arith, nat_tests)

le_false : (a b : ℕ) → b < a → nat_le a b ≡ false
le_false a b h = grind (arith, nat_tests)

lt_true : (a b : ℕ) → a < b → nat_lt a b ≡ true
lt_true a b h = grind (arith, nat_tests)

lt_false : (a b : ℕ) → b ≤ a → nat_lt a b ≡ false
lt_false a b h = grind (arith, nat_tests)

eq_true : (a : ℕ) → (a == a) ≡ true
eq_true a = grind (arith, nat_tests)

eq_false : (a b : ℕ) → a < b → (a == b) ≡ false
eq_false a b h = grind (arith, nat_tests)

eq_false_above : (a b : ℕ) → b < a → (a == b) ≡ false
eq_false_above a b h = grind (arith, nat_tests)

-- ---- whether a character is there

pub there_new_before : (rev n : ℕ) → n < rev → nat_le rev n ≡ false
there_new_before rev n h = le_false rev n h

pub there_by : (rev n : ℕ) → n ≤ rev → nat_le n rev ≡ true
there_by rev n h = le_true n rev h

-- ---- whose insertion and whose deletion it is

pub not_inserted_later : (rev next : ℕ) (t : Tagged) → rev < next → IsTaggedBy rev t → (t.inserted == next) ≡ false
not_inserted_later rev next t h by = eq_false t.inserted next (omega (arith, by.inserted))

pub inserted_now : (rev : ℕ) → (rev == rev) ≡ true
inserted_now rev = eq_true rev

or_or_true : (x b : Bool) → b ≡ true → (x || (b || false)) ≡ true
or_or_true true b e = refl
or_or_true false b e = cc

or_or_false : (x b : Bool) → b ≡ false → (x || (b || false)) ≡ x
or_or_false true b e = refl
or_or_false false b e = cc

pub has_deleted_now : (rev : ℕ) (t : Tagged) → has (with_deletion rev t).deleted rev ≡ true
has_deleted_now rev t =
    list_any-append (λ m. m == rev) t.deleted (rev ∷ []) ∙ or_or_true (has t.deleted rev) (rev == rev) (eq_true rev)

pub has_deleted_before : (rev n : ℕ) (t : Tagged) → n < rev → has (with_deletion rev t).deleted n ≡ has t.deleted n
has_deleted_before rev n t h =
    list_any-append (λ m. m == n) t.deleted (rev ∷ []) ∙ or_or_false (has t.deleted n) (rev == n) (eq_false_above rev n h)

pub has_no_later : (rev next : ℕ) (deleted : List ℕ) → rev < next → AllByRecursion (λ k. k ≤ rev) deleted → has deleted next ≡ false
has_no_later rev next [] h by = refl
has_no_later rev next (k ∷ deleted) h by =
    ap (λ b. b || has deleted next) (eq_false k next (omega (arith, by.0))) ∙ has_no_later rev next deleted h by.1
