-- The line of an update tells what its operations do to lines.
use Rattle.std.proofs.Common.{◌≡◌, ℕ, Bool, true, false, List, ◌∷◌, length, map, codes, Option, Some, None, refl, ap, ◌∙◌, arith}
use Rattle.std.proofs.lemmas.Bool.Decides.{nat_tests}
use Rattle.std.specs.Prelude.{if◌then◌else◌, ◌==◌, option_map, option_and_then, unwrap_or}
use Rattle.std.specs.Str.{bytes_eq}
use Rattle.serde_json.specs.Data.{Data, Items, no_items, item}
use Rattle.serde_json.specs.Find.{as_array, as_bool, as_str, get}
use Rattle.json_rpc.specs.Request.{line_request}
use Rattle.plain_screen.specs.declared.screen.Line.{Line}
use Rattle.plain_screen.specs.declared.screen.Restyle.{Restyle}
use Rattle.plain_screen.specs.declared.screen.Op.{Op}
use Rattle.plain_screen.specs.declared.screen.Op.TheVariants.{Skip, Invalidate, Ins, Update as Restyling}
use Rattle.plain_screen.specs.declared.screen.Update.{Update}
use Rattle.view_update.specs.declared.note.ViewUpdate.{ViewUpdate}
use Rattle.view_update.specs.Reading.{as_chars, as_count, copy_from, each_as, if_present, ins_from, line_update, list_as, member_as, note_params, op_named, read_line_data, read_op, read_params, read_restyle_data, read_update, restyling_from, update_from, view_update_from}
use Rattle.screen_flags.specs.declared.change.Change.TheVariants.{Keeps, Skips, Loses, Gains}
use Rattle.screen_flags.specs.Flags.{change_from, change_in, change_of, changes_in, with_change}
use Rattle.screen_flags.specs.Told.{changes_told, ops_for, ops_if, ops_in}
use Rattle.screen_flags.specs.Laws.{OthersTellNone, UpdatesTellChanges}

same_some : {A : Type 0} {a b : A} → Some a ≡ Some b → a ≡ b
same_some {A} {a} {b} is = ap (λ o. unwrap_or o a) is

-- what is there, where what is made of it is
record IsThere {A B : Type 0} (made : A → Option B) (from : Option A) (b : B) : Type 0 where
  a : A
  is : from ≡ Some a
  gives : made a ≡ Some b

there : {A B : Type 0} (made : A → Option B) (from : Option A) (b : B) → option_and_then made from ≡ Some b → IsThere made from b
there made None b is = absurd cc
there made (Some a) b is = record { a = a; is = refl; gives = is }

-- ---- one operation

-- an operation by the tests of its name
op_by : (copies skips invalidates inserts updates : Bool) (n : Option ℕ) (ln : Option (Option ℕ)) (lines : Option (List Line))
    (restyles : Option (List Restyle)) (op : Op) →
    (if copies then copy_from n ln else (if skips then option_map Skip n else (if invalidates then option_map Invalidate n
    else (if inserts then ins_from n lines else (if updates then restyling_from n ln restyles else None))))) ≡ Some op →
    (k : ℕ) × (n ≡ Some k) × ((if copies then Some (Keeps k) else (if skips then Some (Skips k) else (if invalidates then Some (Loses k)
    else (if inserts then Some (Gains k) else (if updates then Some (Keeps k) else None))))) ≡ Some (change_of op))
op_by true s i g u None ln lines restyles op is = absurd cc
op_by true s i g u (Some k) None lines restyles op is = absurd cc
op_by true s i g u (Some k) (Some ln) lines restyles op is = (k, refl, ap (option_map change_of) is)
op_by false true i g u None ln lines restyles op is = absurd cc
op_by false true i g u (Some k) ln lines restyles op is = (k, refl, ap (option_map change_of) is)
op_by false false true g u None ln lines restyles op is = absurd cc
op_by false false true g u (Some k) ln lines restyles op is = (k, refl, ap (option_map change_of) is)
op_by false false false true u None ln lines restyles op is = absurd cc
op_by false false false true u (Some k) ln None restyles op is = absurd cc
op_by false false false true u (Some k) ln (Some lines) restyles op is = (k, refl, counted (k == length lines) refl is)
  where
    counted : (same : Bool) → (k == length lines) ≡ same → (if same then Some (Ins lines) else None) ≡ Some op → Some (Gains k) ≡ Some (change_of op)
    counted true same is = ap (λ n. Some (Gains n)) (grind (arith, nat_tests)) ∙ ap (option_map change_of) is
    counted false same is = absurd cc
op_by false false false false true None ln lines restyles op is = absurd cc
op_by false false false false true (Some k) None lines restyles op is = absurd cc
op_by false false false false true (Some k) (Some ln) lines None op is = absurd cc
op_by false false false false true (Some k) (Some ln) lines (Some restyles) op is = (k, refl, counted (k == length restyles) refl is)
  where
    counted : (same : Bool) → (k == length restyles) ≡ same → (if same then Some (Restyling ln restyles) else None) ≡ Some op →
        Some (Keeps k) ≡ Some (change_of op)
    counted true same is = ap (λ n. Some (Keeps n)) (grind (arith, nat_tests)) ∙ ap (option_map change_of) is
    counted false same is = absurd cc
op_by false false false false false n ln lines restyles op is = absurd cc

change-op : (d : Data) (op : Op) → read_op d ≡ Some op → change_in d ≡ Some (change_of op)
change-op d op is =
    let n = member_as as_count (codes "n") d in
    let name = there (λ name. op_named name n d) (member_as as_str (codes "op") d) op is in
    let by =
    op_by (bytes_eq name.a (codes "copy")) (bytes_eq name.a (codes "skip")) (bytes_eq name.a (codes "invalidate"))
    (bytes_eq name.a (codes "ins")) (bytes_eq name.a (codes "update")) n (if_present as_count (get (codes "ln") d))
    (member_as (list_as read_line_data) (codes "lines") d) (member_as (list_as read_restyle_data) (codes "lines") d) op name.gives in
    ap (λ o. change_from o n) name.is ∙ ap (change_from (Some name.a)) by.1 ∙ by.2

-- ---- all of them

each_change : (items : Items) (ops : List Op) → each_as read_op items ≡ Some ops → changes_in items ≡ map change_of ops
each_change no_items ops is = ap (map change_of) (same_some is)
each_change (item d items) ops is =
    let first = there (λ op. option_map (λ others. op ∷ others) (each_as read_op items)) (read_op d) ops is in
    by first.a (each_as read_op items) refl first.gives (change-op d first.a first.is) (λ more is. each_change items more is)
  where
    by : (op : Op) (others : Option (List Op)) → each_as read_op items ≡ others → option_map (λ more. op ∷ more) others ≡ Some ops →
        change_in d ≡ Some (change_of op) → ((more : List Op) → each_as read_op items ≡ Some more → changes_in items ≡ map change_of more) →
        with_change (change_in d) (changes_in items) ≡ map change_of ops
    by op None others is change later = absurd cc
    by op (Some more) others is change later =
        ap (λ c. with_change c (changes_in items)) change ∙ ap (λ changes. change_of op ∷ changes) (later more others) ∙
        ap (map change_of) (same_some is)

-- ---- a note

-- an update has its operations
record HasItems (d : Data) (update : Update) : Type 0 where
  items : Items
  is : member_as as_array (codes "ops") d ≡ Some items
  reads : each_as read_op items ≡ Some update.ops

items_of_update : (d : Data) (update : Update) → read_update d ≡ Some update → HasItems d update
items_of_update d update is = by (member_as (list_as read_op) (codes "ops") d) (member_as as_bool (codes "pristine") d) refl is
  where
    by : (ops : Option (List Op)) (pristine : Option Bool) → member_as (list_as read_op) (codes "ops") d ≡ ops →
        update_from ops pristine ≡ Some update → HasItems d update
    by None pristine ops is = absurd cc
    by (Some ops) None has is = absurd cc
    by (Some ops) (Some pristine) has is =
        let list = there (list_as read_op) (get (codes "ops") d) ops has in
        let items = there (each_as read_op) (as_array list.a) ops list.gives in
        record {
          items = items.a;
          is = ap (option_and_then as_array) list.is ∙ items.is;
          reads = items.gives ∙ ap Some (ap (λ u. u.ops) (same_some is));
        }

note_changes : (id : List ℕ) (d : Data) (note : ViewUpdate) → read_params d ≡ Some note →
    option_map changes_in (ops_for id d) ≡ (if bytes_eq note.view id then Some (map change_of note.update.ops) else None)
note_changes id d note is = by (member_as as_chars (codes "view_id") d) (member_as read_update (codes "update") d) refl refl is
  where
    held : (same : Bool) (update : Update) → member_as read_update (codes "update") d ≡ Some update →
        option_map changes_in (if same then ops_in d else None) ≡ (if same then Some (map change_of update.ops) else None)
    held false update has = refl
    held true update has =
        let value = there read_update (get (codes "update") d) update has in
        let ops = items_of_update value.a update value.gives in
        ap (λ o. option_map changes_in (option_and_then (member_as as_array (codes "ops")) o)) value.is ∙ ap (option_map changes_in) ops.is ∙
        ap Some (each_change ops.items update.ops ops.reads)

    by : (view : Option (List ℕ)) (update : Option Update) → member_as as_chars (codes "view_id") d ≡ view →
        member_as read_update (codes "update") d ≡ update → view_update_from view update ≡ Some note →
        option_map changes_in (ops_for id d) ≡ (if bytes_eq note.view id then Some (map change_of note.update.ops) else None)
    by None update view has is = absurd cc
    by (Some view) None named has is = absurd cc
    by (Some view) (Some update) named has is =
        ap (λ v. option_map changes_in (ops_if (option_map (λ view. bytes_eq view id) v) d)) named ∙
        held (bytes_eq view id) update has ∙
        ap (λ n. if bytes_eq n.view id then Some (map change_of n.update.ops) else None) (same_some is)

pub updates_tell_changes : UpdatesTellChanges
unfolding line_update
updates_tell_changes id line note is = by (note_params (codes "update") (line_request line)) refl is
  where
    by : (params : Option Data) → note_params (codes "update") (line_request line) ≡ params → option_map read_params params ≡ Some (Some note) →
        changes_told id line ≡ (if bytes_eq note.view id then Some (map change_of note.update.ops) else None)
    by None has is = absurd cc
    by (Some d) has is = ap (λ params. option_map changes_in (option_and_then (ops_for id) params)) has ∙ note_changes id d note (same_some is)

pub others_tell_none : OthersTellNone
unfolding line_update
others_tell_none id line is = by (note_params (codes "update") (line_request line)) refl is
  where
    by : (params : Option Data) → note_params (codes "update") (line_request line) ≡ params → option_map read_params params ≡ None →
        changes_told id line ≡ None
    by None has is = ap (λ params. option_map changes_in (option_and_then (ops_for id) params)) has
    by (Some d) has is = absurd cc
