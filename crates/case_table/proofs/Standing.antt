-- A table whose places are counted out.
use Rattle.std.proofs.Common.{◌≡◌, ℕ, zero, suc, ◌+◌, ◌-◌, ◌<◌, ◌≤◌, List, [], ◌∷◌, ◌++◌, length, drop, get_or, None, refl, sym, ◌∙◌, ap, subst, arith}
use Rattle.std.specs.Str.{IsUtf8}
use Rattle.std.proofs.lemmas.List.{append_assoc, get_or-take, length-take-le}
use Rattle.std.proofs.lemmas.Str.{IsUtf8-drop, IsCharBoundary-after_ascii}
use Rattle.std.proofs.Math.Seq.{get_or-append_seam, drop-append-add}
use Rattle.std.proofs.Math.Nat.{sub_self}
use Rattle.case_table.specs.Table.{pieces, names_of, text_of_names, piece_at, bad_case}
use Rattle.case_table.specs.Places.{ShowsPiece, IsTable, places_from, places_of}
use Rattle.case_table.proofs.Reading.{after-place, ShowsPiece-name}
use Rattle.case_table.proofs.Laws.{names_of-count, names_of-rising, text_of_names-names_of}

-- what follows a name and its space is UTF-8 where the whole is
IsUtf8-after : (rest name after : List ℕ) → rest ≡ name ++ 32 ∷ after → length rest ≡ length name + 1 + length after → IsUtf8 rest → IsUtf8 after
IsUtf8-after rest name after whole len utf8 =
    let space : get_or rest (length name) 0 ≡ 32 = ap (λ bytes. get_or bytes (length name) 0) whole ∙ get_or-append_seam name 32 after 0 in
    let left : drop (length name + 1) rest ≡ after = ap (drop (length name + 1)) whole ∙ drop-append-add name (32 ∷ after) 1 in
    subst IsUtf8 left (IsUtf8-drop rest (length name + 1) utf8 (IsCharBoundary-after_ascii rest (length name) utf8 (omega arith) (omega (arith, space))))

-- the places from where the rest of a text begins show the names of the rest
ShowsPiece-places_from : (text rest : List ℕ) (names : List (List ℕ)) → drop (length text - length rest) text ≡ rest → length rest ≤ length text → IsUtf8 rest → rest ≡ text_of_names names
    → (k : ℕ) → k < length names
    → ShowsPiece text (get_or (places_from (length text - length rest) names) k (0, 0)).0 (get_or (places_from (length text - length rest) names) k (0, 0)).1 (piece_at names k)
ShowsPiece-places_from text rest [] place fits utf8 is k within = absurd (omega arith)
ShowsPiece-places_from text rest (name ∷ names) place fits utf8 is zero within =
    ShowsPiece-name text rest name (text_of_names names) place fits (is ∙ append_assoc name (32 ∷ []) (text_of_names names)) utf8
ShowsPiece-places_from text rest (name ∷ names) place fits utf8 is (suc k) within =
    let after = text_of_names names in
    let whole : rest ≡ name ++ 32 ∷ after = is ∙ append_assoc name (32 ∷ []) after in
    let moved = after-place text rest name after place fits whole in
    let next : length text - length after ≡ length text - length rest + length name + 1 = omega (arith, moved.0, fits) in
    rw (← next) (ShowsPiece-places_from text after names moved.1 (omega (arith, moved.0, fits)) (IsUtf8-after rest name after whole moved.0 utf8) refl k (omega arith))

-- a text that is a table is one with the places of its names
pub table_at_places : (n : ℕ) (text : List ℕ) (places : List (ℕ × ℕ)) → bad_case n text ≡ None → places ≡ places_of text → IsUtf8 text → IsTable n text places
table_at_places n text places none same utf8 =
    let all = pieces text in
    let count = names_of-count n text none in
    let last : length all - 1 ≡ n = sym (length-take-le (length all - 1) all (omega arith)) ∙ count in
    let start : length text - length text ≡ 0 = sub_self (length text) in
    record {
      count = count;
      rising = names_of-rising n text none;
      shown = λ row within.
          let piece = get_or-take (length all - 1) all row [] (omega arith) in
          let from : drop (length text - length text) text ≡ text = rw start refl in
          let shows = ShowsPiece-places_from text text (names_of text) from (omega arith) utf8 (sym (text_of_names-names_of n text none)) row (omega (arith, count)) in
          rw (same, ← piece) (rw start at shows);
    }
