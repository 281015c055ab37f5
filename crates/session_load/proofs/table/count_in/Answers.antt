use Rattle.std.proofs.Common.{rules, ◌≡◌, ◌<◌, ◌≤◌, length, map, ◌++◌, ◌∷◌, [], arith, ap, sym, ◌∙◌, string_bytes}
use Rattle.std.specs.List.{position_or_len}
use Rattle.std.proofs.lemmas.List.{map-append}
use Rattle.session_load.specs.Table.{Line, is_of, tally_of, with_line}
use Rattle.session_load.proofs.TableLemmas.{on_ok, rows_with-place, rows_with-none}
use Rattle.session_load.proofs.table.count_in.Goals as goal

pub returns-then-place-len : goal.returns-then-place-len
returns-then-place-len c =
    let rows = c.args.rows.now.items in
    let place = c.place_of-place.result in
    let line : Line = record { kind = string_bytes c.args.kind; written = c.args.written } in
    let is : place ≡ position_or_len (is_of line.kind) rows = search (rules, arith) in
    let inside : place < length rows = search (rules, arith) in
    on_ok c.take.result
    (λ taken.
    rows_with-place rows line place c.index_mut.result.now c.take.new.self is inside (taken ∙ ap (λ row. with_line (tally_of row) line.written) c.index_mut.ensures.value)) c.take.ensures

pub returns : goal.returns
returns c =
    let rows = c.args.rows.now.items in
    let place = c.place_of-place.result in
    let line : Line = record { kind = string_bytes c.args.kind; written = c.args.written } in
    let is : place ≡ position_or_len (is_of line.kind) rows = search (rules, arith) in
    let past : length rows ≤ place = search (rules, arith) in
    let pushed : c.push.new.self.items ≡ rows ++ c.take-2.new.self ∷ [] = search rules in
    let counted : tally_of c.take-2.new.self ≡ with_line (tally_of c.new-row.result) line.written = search rules in
    ap (λ items. map tally_of items) pushed ∙ map-append tally_of rows (c.take-2.new.self ∷ []) ∙
    ap (λ row. map tally_of rows ++ row ∷ []) (counted ∙ ap (λ row. with_line row line.written) c.new-row.ensures) ∙
    sym (rows_with-none rows line place is past)
