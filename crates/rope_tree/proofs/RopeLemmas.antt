-- A text that is taken apart into leaves, and put together again.
use Rattle.std.proofs.Common.{◌-◌, ◌≡◌, ℕ, ◌+◌, ◌^◌, ◌<◌, ◌≤◌, IsTrue, List, [], ◌∷◌, ◌++◌, length, take, drop, refl, sym, ap, ◌∙◌, arith, append_assoc, add-one, add-zero, length-drop, take-append-drop}
use Rattle.std.specs.Str.{chars, IsUtf8}
use Rattle.std.specs.Char.{len_utf8}
use Rattle.std.proofs.Math.Seq.{drop-append-add, take-append-add}
use Rattle.std.proofs.lemmas.Grind.{common_steps}
use Rattle.std.proofs.lemmas.List.{nil_from_length, drop-drop, take-append-le}
use Rattle.std.proofs.lemmas.Str.{chars_past_char, chars-nil, len_utf8_bounds}
use lib.Utf8.{encode}
use Rattle.plain_text.specs.Text.{byte_len}
use Rattle.rope_node.specs.Lengths.{is_countable, lengths_of, byte_len-append}
use Rattle.shared_tree.specs.Replaced.{replaced}
use Rattle.rope_node.proofs.ForCallers.{length-short, text_fits}

drop-one : (text rest : List ℕ) (gap c : ℕ) → gap ≤ length text → drop gap text ≡ c ∷ rest → drop (gap + 1) text ≡ rest
drop-one text rest gap c inside is =
    let front : List ℕ = take gap text in
    let count : length front ≡ gap = grind (arith, common_steps) in
    let whole : text ≡ front ++ (c ∷ rest) = sym (take-append-drop gap text) ∙ ap (λ xs. front ++ xs) is in
    ap (drop (gap + 1)) whole ∙ rw count at (drop-append-add front (c ∷ rest) 1)

take-one : (text rest : List ℕ) (gap c : ℕ) → gap ≤ length text → drop gap text ≡ c ∷ rest → take (gap + 1) text ≡ take gap text ++ (c ∷ [])
take-one text rest gap c inside is =
    let front : List ℕ = take gap text in
    let count : length front ≡ gap = grind (arith, common_steps) in
    let whole : text ≡ front ++ (c ∷ rest) = sym (take-append-drop gap text) ∙ ap (λ xs. front ++ xs) is in
    ap (take (gap + 1)) whole ∙ rw count at (take-append-add front (c ∷ rest) 1)

-- characters taken from the front of a text, with their bytes, and what is left
pub record IsTaken (text : List ℕ) (gap place : ℕ) (rest : List ℕ) : Type 0 where
  pub left : drop gap text ≡ rest
  pub bytes : place ≡ byte_len (take gap text)
  pub inside : gap ≤ length text
  pub rises : gap ≤ place

pub taken-more : (text : List ℕ) (gap place : ℕ) (bs rest : List ℕ) (c : ℕ) → IsUtf8 bs → bs ≡ encode c ++ rest → IsTaken text gap place (chars bs) → IsTaken text (gap + 1) (place + len_utf8 c) (chars rest)
taken-more text gap place bs rest c is_text split taken =
    let inside : gap ≤ length text = taken.inside in
    let rises : gap ≤ place = taken.rises in
    let is : drop gap text ≡ c ∷ chars rest = taken.left ∙ chars_past_char bs rest c is_text split in
    let counted : length (drop gap text) ≡ length (chars rest) + 1 = ap length is ∙ sym (add-one _) in
    record {
      left = drop-one text (chars rest) gap c inside is;
      bytes = rw (take-one text (chars rest) gap c inside is, byte_len-append (take gap text) (c ∷ []), add-zero (len_utf8 c), taken.bytes) refl;
      inside = omega (arith, length-drop gap text);
      rises = omega (arith, len_utf8_bounds c);
    }

pub taken-all : (text : List ℕ) (gap place : ℕ) (bs : List ℕ) → length bs ≡ 0 → IsTaken text gap place (chars bs) → length text ≤ gap
taken-all text gap place bs none taken =
    let ended : chars bs ≡ [] = rw (nil_from_length bs none) chars-nil in
    let counted : length (drop gap text) ≡ 0 = ap length (taken.left ∙ ended) in
    omega (arith, length-drop gap text)

-- a leaf more is made of the front of what is left
pub made-more : (made rest text : List ℕ) (n : ℕ) → made ++ rest ≡ text → (made ++ take n rest) ++ drop n rest ≡ text
made-more made rest text n whole = append_assoc made (take n rest) (drop n rest) ∙ ap (λ xs. made ++ xs) (take-append-drop n rest) ∙ whole

-- the last characters of those that are wanted
pub part-ended : (made own rest all wanted : List ℕ) (left start : ℕ) → all ≡ drop start own ++ rest → left ≤ length own - start → made ++ take left all ≡ wanted → made ++ take left (drop start own) ≡ wanted
part-ended made own rest all wanted left start cut enough whole =
    ap (λ xs. made ++ xs) (sym (take-append-le left (drop start own) rest (omega (arith, length-drop start own)))) ∙ rw cut at whole

-- some characters more of those that are wanted
pub part-more : (made own rest all wanted : List ℕ) (left start : ℕ) → all ≡ drop start own ++ rest → length own - start ≤ left → made ++ take left all ≡ wanted → (made ++ drop start own) ++ take (left - (length own - start)) rest ≡ wanted
part-more made own rest all wanted left start cut few whole =
    let count : length (drop start own) + (left - (length own - start)) ≡ left = omega (arith, length-drop start own) in
    let parted = rw count at (take-append-add (drop start own) rest (left - (length own - start))) in
    append_assoc made (drop start own) (take (left - (length own - start)) rest) ∙ ap (λ xs. made ++ xs) (sym parted) ∙ rw cut at whole

pub no_characters : (text : List ℕ) → byte_len text ≡ 0 → text ≡ []
no_characters text none = nil_from_length text (omega (arith, length-short text))

-- a front of a text fits where the text does
pub front_fits : (front back text : List ℕ) → front ++ back ≡ text → byte_len text < 2 ^ 64 → IsTrue (is_countable (lengths_of front))
front_fits front back text whole few =
    let parts : byte_len front + byte_len back ≡ byte_len text = sym (byte_len-append front back) ∙ ap byte_len whole in
    text_fits front (omega arith)

-- a text with a part replaced has no more bytes than the text and what came
pub replaced_bytes : (text added : List ℕ) (from to : ℕ) → from ≤ to → byte_len (replaced text from to added) ≤ byte_len text + byte_len added
replaced_bytes text added from to ordered =
    let front : byte_len (take from text) + byte_len (drop from text) ≡ byte_len text = sym (byte_len-append (take from text) (drop from text)) ∙ ap byte_len (take-append-drop from text) in
    let whole : from + (to - from) ≡ to = omega arith in
    let step : drop (to - from) (drop from text) ≡ drop to text = rw whole at (drop-drop (to - from) from text) in
    let same : take (to - from) (drop from text) ++ drop to text ≡ drop from text = ap (λ xs. take (to - from) (drop from text) ++ xs) (sym step) ∙ take-append-drop (to - from) (drop from text) in
    let rest : byte_len (take (to - from) (drop from text)) + byte_len (drop to text) ≡ byte_len (drop from text) = sym (byte_len-append (take (to - from) (drop from text)) (drop to text)) ∙ ap byte_len same in
    let outer : byte_len (replaced text from to added) ≡ byte_len (take from text) + byte_len (added ++ drop to text) = byte_len-append (take from text) (added ++ drop to text) in
    let inner : byte_len (added ++ drop to text) ≡ byte_len added + byte_len (drop to text) = byte_len-append added (drop to text) in
    omega arith
