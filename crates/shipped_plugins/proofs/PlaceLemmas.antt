-- The spans of a chunk stand at places of each text that begins with it.
use Rattle.std.proofs.Common.{◌≡◌, ℕ, ◌+◌, ◌-◌, true, false, List, [], ◌∷◌, ◌++◌, length, map, take, drop, refl, sym, ap, subst, ◌∙◌, arith, append_assoc, length-drop, take-append-drop}
use Rattle.std.specs.Prelude.{is_some, slice_index}
use Rattle.std.specs.List.{AllByRecursion}
use Rattle.std.specs.Str.{chars, encode_utf8_all, all_scalars, IsUtf8, IsCharBoundary}
use Rattle.std.proofs.lemmas.List.{length-take}
use Rattle.std.proofs.lemmas.Str.{chars-encodes, chars-append}
use Rattle.memchr.specs.Find.{OccursAt}
use Rattle.memchr.proofs.lemmas.MatchLemmas.{OccursAt-from_part, OccursAt-split}
use Rattle.plain_text.specs.Text.{byte_len, is_place, place_of}
use Rattle.plain_text.specs.declared.run.Run.{Run}
use Rattle.plain_text.proofs.callers.TextLemmas.{all_scalars-drop}
use Rattle.plain_text.proofs.callers.PlaceLemmas.{IsPlaced-from, is_place-boundary, drop-place, gap_from-seam}
use Rattle.find_core.specs.Laws.{AreMatchesFrom, IsMatchAt}
use Rattle.find_core.proofs.ForCallers.{matches_of-are}
use Rattle.shipped_plugins.specs.Marks.{mark, marks_of, mark_span}
use Rattle.shipped_plugins.specs.Laws.{StandsIn, SpansStandInTexts}
use Rattle.shipped_plugins.proofs.MarkLemmas.{run_at}

-- the end of a text's front is a place of the text
seam : (front back : List ℕ) → is_place (front ++ back) (byte_len front) ≡ true
seam front back = ap is_some (gap_from-seam 0 front back)

byte_len-append : (front back : List ℕ) → byte_len (front ++ back) ≡ byte_len front + byte_len back
byte_len-append [] back = omega arith
byte_len-append (c ∷ front) back = omega (arith, byte_len-append front back)

mark_bytes : encode_utf8_all mark ≡ mark
unfolding lib.Utf8.encode
mark_bytes = refl

mark_utf8 : IsUtf8 mark
mark_utf8 = (mark, (refl, mark_bytes))

mark_chars : chars mark ≡ mark
mark_chars = ap chars (sym mark_bytes) ∙ chars-encodes mark refl

-- a chunk in which the mark begins behind so many bytes
pub record IsMarked (chunk : List ℕ) (at : ℕ) : Type 0 where
  pub front : List ℕ
  pub back : List ℕ
  pub parts : chunk ≡ front ++ (mark ++ back)
  pub place : byte_len front ≡ at

occurs : (bytes : List ℕ) (at : ℕ) → IsMatchAt mark bytes at → OccursAt bytes mark at
occurs bytes at is =
    let count : at + 4 - at ≡ 4 = omega arith in
    let part : take 4 (drop at bytes) ≡ mark = ap (λ n. take n (drop at bytes)) (sym count) ∙ is in
    OccursAt-from_part bytes mark at (omega (arith, ap length part, length-take 4 (drop at bytes), length-drop at bytes)) part

boundary : (bytes : List ℕ) (at : ℕ) → OccursAt bytes mark at → IsCharBoundary bytes at
boundary bytes at found =
    let plus : at + 0 ≡ at = omega arith in
    let first : slice_index bytes (at + 0) ≡ 84 = found.reads 0 (omega arith) in
    let byte : slice_index bytes at ≡ 84 = ap (slice_index bytes) (sym plus) ∙ first in
    (omega (arith, found.fits), λ below high. absurd (omega (arith, high, byte)))

marked_at : (chunk : List ℕ) (at : ℕ) → all_scalars chunk ≡ true → OccursAt (encode_utf8_all chunk) mark at → IsMarked chunk at
marked_at chunk at scalars found =
    let placed = IsPlaced-from chunk at (is_place-boundary chunk at scalars (boundary (encode_utf8_all chunk) at found)) in
    let gap = placed.0 in
    let place : place_of chunk gap ≡ at = placed.1.place in
    let rest = drop (at + 4) (encode_utf8_all chunk) in
    let split : encode_utf8_all (drop gap chunk) ≡ mark ++ rest =
    sym (drop-place chunk gap) ∙ ap (λ n. drop n (encode_utf8_all chunk)) place ∙ OccursAt-split (encode_utf8_all chunk) mark at found in
    let behind : drop gap chunk ≡ mark ++ chars rest =
    sym (chars-encodes (drop gap chunk) (all_scalars-drop gap chunk scalars)) ∙ ap chars split ∙ chars-append mark rest mark_utf8 ∙ ap (λ t. t ++ chars rest) mark_chars in
    record {
      front = take gap chunk;
      back = chars rest;
      parts = sym (take-append-drop gap chunk) ∙ ap (λ t. take gap chunk ++ t) behind;
      place = place;
    }

stands : (chunk rest : List ℕ) (at : ℕ) → IsMarked chunk at → StandsIn chunk rest (mark_span (run_at 4 at))
stands chunk rest at is =
    let start : chunk ++ rest ≡ is.front ++ ((mark ++ is.back) ++ rest) = ap (λ t. t ++ rest) is.parts ∙ append_assoc is.front (mark ++ is.back) rest in
    let end : chunk ++ rest ≡ (is.front ++ mark) ++ (is.back ++ rest) =
    start ∙ ap (λ t. is.front ++ t) (append_assoc mark is.back rest) ∙ sym (append_assoc is.front mark (is.back ++ rest)) in
    let wide : byte_len (is.front ++ mark) ≡ at + 4 = byte_len-append is.front mark ∙ ap (λ n. n + 4) is.place in
    record {
      ordered = omega arith;
      within = omega (arith, ap byte_len is.parts, byte_len-append is.front (mark ++ is.back), byte_len-append mark is.back, is.place);
      start = ap (λ t. is_place t at) start ∙ ap (is_place (is.front ++ ((mark ++ is.back) ++ rest))) (sym is.place) ∙ seam is.front ((mark ++ is.back) ++ rest);
      end = ap (λ t. is_place t (at + 4)) end ∙ ap (is_place ((is.front ++ mark) ++ (is.back ++ rest))) (sym wide) ∙ seam (is.front ++ mark) (is.back ++ rest);
    }

all_stand : (chunk rest : List ℕ) (from : ℕ) (runs : List Run) → all_scalars chunk ≡ true → AreMatchesFrom mark (encode_utf8_all chunk) from runs
    → AllByRecursion (StandsIn chunk rest) (map mark_span runs)
all_stand chunk rest from [] scalars are = tt
all_stand chunk rest from (run ∷ runs) scalars are =
    let same : run_at 4 run.start ≡ run = ap (λ end. record { start = run.start; end = end }) (sym are.0.end) in (
      subst (λ (r : Run). StandsIn chunk rest (mark_span r)) same
          (stands chunk rest run.start (marked_at chunk run.start scalars (occurs (encode_utf8_all chunk) run.start are.0.is))),
      all_stand chunk rest run.end runs scalars are.1,
    )

pub spans_stand : SpansStandInTexts
spans_stand chunk rest scalars =
    let are = matches_of-are (encode_utf8_all chunk) mark false (omega arith) in
    record { marks = are; len = seam chunk rest; spans = all_stand chunk rest 0 (marks_of chunk) scalars are }
