-- The table of lines that are entered one after the other.
use Rattle.std.proofs.Common.{◌≡◌, ℕ, Ok, Err, List, [], ◌∷◌, ◌++◌, map, refl, ap, sym, ◌∙◌}
use Rattle.std.specs.Prelude.{Result, IfOk}
use Rattle.std.specs.Str.Lines.{lines}
use Rattle.std.proofs.lemmas.List.{map-append}
use Rattle.session_load.specs.declared.table.Table.{Table}
use Rattle.session_load.specs.declared.table.Written.{Written}
use Rattle.session_load.specs.Count.{Counts}
use Rattle.session_load.specs.Kind.{kind_of}
use Rattle.session_load.specs.Table.{Line, Tallies, no_rows, table_with, table_after, row_of, written_between, WereEntered, IsTable, IsTableOf, tallies_of}
use Rattle.session_load.proofs.TableLemmas.{table_after-push, row_of-table_after, all-table_after}

entered-push : (lines : List Line) (line : Line) (before next after : Counts) →
    WereEntered before lines next → line.written ≡ written_between next after → WereEntered before (lines ++ line ∷ []) after
entered-push [] line before next after is wrote = (after, wrote ∙ ap (λ c. written_between c after) (sym is), refl)
entered-push (first ∷ lines) line before next after are wrote = (are.0, are.1, entered-push lines line are.0 next after are.2 wrote)

-- the table of lines that were entered
table_from : (script : List (List ℕ)) (before after : Counts) (table : Tallies) (entered : List Line) →
    map (λ (line : Line). line.kind) entered ≡ map kind_of script → WereEntered before entered after → table ≡ table_after no_rows entered →
    IsTableOf script before after table
table_from script before after table entered kinds written counted = record {
  entered = entered;
  kinds = kinds;
  written = written;
  counted = counted;
  by_kind = λ kind. ap (λ (t : Tallies). row_of kind t.rows) counted ∙ row_of-table_after kind no_rows entered;
  all = ap (λ (t : Tallies). t.all) counted ∙ all-table_after no_rows entered;
}

-- no line yet
pub table_of_none : (counts : Counts) (table : Tallies) → table ≡ no_rows → IsTableOf [] counts counts table
table_of_none counts table none = table_from [] counts counts table [] refl refl none

-- a line more
pub table_of_more : (seen : List (List ℕ)) (line : List ℕ) (all : List (List ℕ)) (before next after : Counts) (old new : Tallies) (wrote : Written) →
    all ≡ seen ++ line ∷ [] → IsTableOf seen before next old → wrote ≡ written_between next after →
    new ≡ table_with old (record { kind = kind_of line; written = wrote }) → IsTableOf all before after new
table_of_more seen line all before next after old new wrote more is between counted =
    let last : Line = record { kind = kind_of line; written = wrote } in
    table_from all before after new (is.entered ++ last ∷ [])
    (map-append (λ (line : Line). line.kind) is.entered (last ∷ []) ∙ ap (λ kinds. kinds ++ kind_of line ∷ []) is.kinds ∙
    sym (map-append kind_of seen (line ∷ [])) ∙ ap (λ lines. map kind_of lines) (sym more))
    (entered-push is.entered last before next after is.written between)
    (counted ∙ ap (λ table. table_with table last) is.counted ∙ sym (table_after-push no_rows is.entered last))

-- the same lines
pub table_of_same : (seen all : List (List ℕ)) (before after : Counts) (table : Tallies) →
    seen ≡ all → IsTableOf seen before after table → IsTableOf all before after table
table_of_same seen all before after table same is =
    table_from all before after table is.entered (is.kinds ∙ ap (λ lines. map kind_of lines) same) is.written is.counted

-- the table of a script, by counts that there were
pub table_of_script : {E : Type 0} (script : List ℕ) (before after : Counts) (result : Result Table E) →
    IfOk result (λ table. IsTableOf (lines script) before after (tallies_of table)) → IfOk result (λ table. IsTable script (tallies_of table))
table_of_script script before after (Ok table) is = (before, after, is)
table_of_script script before after (Err error) is = is
