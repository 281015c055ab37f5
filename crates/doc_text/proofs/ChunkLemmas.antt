-- A chunk of a text: its greatest front within so many bytes.
use Rattle.std.proofs.Common.{◌≡◌, ℕ, zero, suc, ◌+◌, ◌-◌, ◌≤◌, Bool, true, false, min, List, [], ◌∷◌, ◌++◌, length, take, drop, Some, refl, ap, ap₂, sym, ◌∙◌, arith, append_assoc, length-append}
use Rattle.std.specs.Prelude.{if◌then◌else◌, nat_le, unwrap_or}
use Rattle.std.specs.Char.{len_utf8}
use Rattle.std.proofs.Math.Nat.{min-eq_left}
use Rattle.std.proofs.Math.Seq.{take-add, take-append_seam, take-length}
use Rattle.std.proofs.lemmas.Bool.{leb-false, leb-true}
use Rattle.std.proofs.lemmas.List.{length-drop, length-take-le, take-append-drop, take_all}
use Rattle.plain_text.specs.Text.{byte_len, gap_at, gap_of}
use Rattle.plain_text.proofs.callers.TextLemmas.{gap_at_iff, place_of-rises}
use Rattle.rope_metrics.proofs.ForCallers.{long-append}
use Rattle.rope_metrics.specs.Measure.{IsGapWithin}
use Rattle.rope_metrics.specs.declared.measure.Measure.TheVariants.{Bytes}
use Rattle.xi_plain.specs.Chunk.{beginning, chunk_at, most_bytes}

-- ---- the greatest front

-- it is a front of the text
pub take-beginning : (room : ℕ) (text : List ℕ) → take (length (beginning room text)) text ≡ beginning room text
take-beginning room [] = refl
take-beginning room (c ∷ text) = by (nat_le (len_utf8 c) room) (take-beginning (room - len_utf8 c) text)
  where
    by : (fits : Bool) → take (length (beginning (room - len_utf8 c) text)) text ≡ beginning (room - len_utf8 c) text →
        take (length (if fits then c ∷ beginning (room - len_utf8 c) text else [])) (c ∷ text) ≡
        (if fits then c ∷ beginning (room - len_utf8 c) text else [])
    by true rest = ap (λ t. c ∷ t) rest
    by false rest = refl

-- within the room
pub beginning-within : (room : ℕ) (text : List ℕ) → byte_len (beginning room text) ≤ room
beginning-within room [] = omega arith
beginning-within room (c ∷ text) = by (nat_le (len_utf8 c) room) refl (beginning-within (room - len_utf8 c) text)
  where
    by : (fits : Bool) → nat_le (len_utf8 c) room ≡ fits → byte_len (beginning (room - len_utf8 c) text) ≤ room - len_utf8 c →
        byte_len (if fits then c ∷ beginning (room - len_utf8 c) text else []) ≤ room
    by true is rest = omega (arith, leb-true (len_utf8 c) room is, rest)
    by false is rest = omega arith

-- and no longer one is
pub beginning-greatest : (room : ℕ) (text : List ℕ) (n : ℕ) → n ≤ length text → byte_len (take n text) ≤ room → n ≤ length (beginning room text)
beginning-greatest room text zero inside within = omega arith
beginning-greatest room [] (suc n) inside within = inside
beginning-greatest room (c ∷ text) (suc n) inside within =
    by (nat_le (len_utf8 c) room) refl
    (λ le. beginning-greatest (room - len_utf8 c) text n (omega (arith, inside)) (omega (arith, within, leb-true (len_utf8 c) room le)))
  where
    by : (fits : Bool) → nat_le (len_utf8 c) room ≡ fits → (nat_le (len_utf8 c) room ≡ true → n ≤ length (beginning (room - len_utf8 c) text)) →
        suc n ≤ length (if fits then c ∷ beginning (room - len_utf8 c) text else [])
    by true is rest = let few = rest is in omega (arith, few)
    by false is rest = absurd (omega (arith, within, leb-false (len_utf8 c) room is))

beginning-short : (room : ℕ) (text : List ℕ) → length (beginning room text) ≤ length text
beginning-short room text =
    omega (
      arith,
      ap length (sym (take-append-drop (length (beginning room text)) text)),
      length-append (take (length (beginning room text)) text) (drop (length (beginning room text)) text),
      ap length (take-beginning room text),
    )

-- where there is room for all, it is the text
pub beginning-all : (room : ℕ) (text : List ℕ) → byte_len text ≤ room → beginning room text ≡ text
beginning-all room text enough =
    let long = beginning-greatest room text (length text) (omega arith) (omega (arith, enough, ap byte_len (take-length text))) in
    sym (take-beginning room text) ∙ take_all (length (beginning room text)) text long

-- room past the end is none
beginning-min : (room : ℕ) (text : List ℕ) → beginning (min room (byte_len text)) text ≡ beginning room text
beginning-min room text = by (nat_le room (byte_len text)) refl
  where
    by : (less : Bool) → nat_le room (byte_len text) ≡ less → beginning (min room (byte_len text)) text ≡ beginning room text
    by true is = let same : min room (byte_len text) ≡ room = min-eq_left (leb-true room (byte_len text) is) in ap (λ n. beginning n text) same
    by false is =
        let past = leb-false room (byte_len text) is in
        let same : min room (byte_len text) ≡ byte_len text = omega (arith, past) in
        ap (λ n. beginning n text) same ∙ beginning-all (byte_len text) text (omega arith) ∙ sym (beginning-all room text (omega (arith, past)))

-- ---- the chunk from a place

-- the room that a chunk has
room-least : (max : ℕ) → min max most_bytes ≡ (if nat_le max most_bytes then max else most_bytes)
room-least max = by (nat_le max most_bytes) refl
  where
    by : (less : Bool) → nat_le max most_bytes ≡ less → min max most_bytes ≡ (if less then max else most_bytes)
    by true is = min-eq_left (leb-true max most_bytes is)
    by false is = omega (arith, leb-false max most_bytes is)

module _ (text : List ℕ) (start gap : ℕ) (is : gap_at text start ≡ Some gap) where
  abbrev rest : List ℕ
  rest = drop gap text

  inside : gap ≤ length text
  inside = ((gap_at_iff text start gap).0 is).0

  place : byte_len (take gap text) ≡ start
  place = ((gap_at_iff text start gap).0 is).1

  parts : text ≡ take gap text ++ rest
  parts = sym (take-append-drop gap text)

  pub start-within : start ≤ byte_len text
  start-within = omega (arith, place, place_of-rises text gap (length text) inside, ap byte_len (take-length text))

  rest-bytes : byte_len rest ≡ byte_len text - start
  rest-bytes = omega (arith, place, ap byte_len parts, long-append Bytes (take gap text) rest)

  -- the greatest gap with room for so many bytes behind the place
  module _ (room end : ℕ) (last : IsGapWithin Bytes text (start + room) end) where
    pub gap-before_end : gap ≤ end
    gap-before_end =
        omega (arith, length-take-le gap text inside, last.greatest (take gap text) rest parts (omega (arith, place)))

    pub end-inside : end ≤ length text
    end-inside = omega (arith, last.is, ap length last.cut, length-append last.front last.back)

    front-is : last.front ≡ take gap text ++ take (end - gap) rest
    front-is =
        let whole : end ≡ gap + (end - gap) = omega (arith, gap-before_end) in
        let cut : take end text ≡ last.front =
        ap₂ (λ n t. take n t) last.is last.cut ∙ take-append_seam last.front last.back in
        sym cut ∙ ap (λ n. take n text) whole ∙ take-add gap (end - gap) text

    end-low : end - gap ≤ length (beginning room rest)
    end-low =
        beginning-greatest room rest (end - gap) (omega (arith, end-inside, gap-before_end, length-drop gap text))
        (omega (arith, last.within, place, ap byte_len front-is, long-append Bytes (take gap text) (take (end - gap) rest)))

    end-high : length (beginning room rest) ≤ end - gap
    end-high =
        let own = beginning room rest in
        let more = drop (length own) rest in
        let rest_is : rest ≡ own ++ more = sym (take-append-drop (length own) rest) ∙ ap (λ t. t ++ more) (take-beginning room rest) in
        let cut : text ≡ (take gap text ++ own) ++ more = parts ∙ ap (λ t. take gap text ++ t) rest_is ∙ sym (append_assoc (take gap text) own more) in
        let few = last.greatest (take gap text ++ own) more cut
        (omega (arith, long-append Bytes (take gap text) own, place, beginning-within room rest)) in
        omega (arith, few, length-append (take gap text) own, length-take-le gap text inside)

    pub chunk-slice : (max : ℕ) → room ≡ min (min max most_bytes) (byte_len text - start) → take (end - gap) rest ≡ chunk_at text start max
    chunk-slice max room_is =
        let many : end - gap ≡ length (beginning room rest) = omega (arith, end-low, end-high) in
        let gap_is : gap_of text start ≡ gap = ap (λ found. unwrap_or found 0) is in
        ap (λ n. take n rest) many ∙ take-beginning room rest ∙
        ap (λ n. beginning n rest) (room_is ∙ ap (min (min max most_bytes)) (sym rest-bytes)) ∙ beginning-min (min max most_bytes) rest ∙
        ap₂ (λ n g. beginning n (drop g text)) (room-least max) (sym gap_is)
