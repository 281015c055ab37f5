-- The length of a text in each unit.
use Rattle.std.specs.Prelude.{◌≡◌, ℕ, ◌+◌, ◌-◌, ◌≤◌, ◌^◌, max, Bool, nat_le, ◌==◌, IsTrue, List, [], ◌∷◌, ◌++◌, length, count_by, cond, refl}
use Rattle.std.specs.Char.{len_utf8}
use Rattle.std.proofs.Common.{ap, sym, ◌∙◌, ltb, arith, length-append, zero-add, add-zero, add_assoc}
use Rattle.std.proofs.lemmas.Bool.{lt-ltb, ltb-true}
use Rattle.std.proofs.lemmas.List.Sums.{sum_by-append}
use Rattle.plain_text.specs.Text.{byte_len}
use Rattle.rope_node.specs.declared.lengths.Lengths.{Lengths}
use Rattle.shared_tree.specs.Laws.{Adds, Sums}

-- how many characters take two units of UTF-16
abbrev pub wide_count : List ℕ → ℕ
wide_count text = count_by (λ c. nat_le 65536 c) text

-- how many units of UTF-16: one a character, and one more for each that takes two
abbrev pub utf16_len : List ℕ → ℕ
utf16_len text = length text + wide_count text

-- how many LFs
abbrev pub lf_count : List ℕ → ℕ
lf_count text = count_by (λ c. c == 10) text

-- these lengths
abbrev pub lengths : ℕ → ℕ → ℕ → ℕ → Lengths
lengths chars bytes utf16 lines = record { chars = chars; bytes = bytes; utf16 = utf16; lines = lines }

-- the lengths of the empty text
abbrev pub no_lengths : Lengths
no_lengths = lengths 0 0 0 0

-- the lengths of two texts side by side
abbrev pub together : Lengths → Lengths → Lengths
together a b = lengths (a.chars + b.chars) (a.bytes + b.bytes) (a.utf16 + b.utf16) (a.lines + b.lines)

-- each of the lengths fits 64 bits
abbrev pub is_countable : Lengths → Bool
is_countable a = ltb (max (max a.chars a.bytes) (max a.utf16 a.lines)) (2 ^ 64)

-- the lengths without those of what goes, and with those of what comes
abbrev pub changed : Lengths → Lengths → Lengths → Lengths
changed a gone come = lengths (a.chars - gone.chars + come.chars) (a.bytes - gone.bytes + come.bytes) (a.utf16 - gone.utf16 + come.utf16) (a.lines - gone.lines + come.lines)

-- what goes was there, and what comes fits
pub record IsChanged (a gone come : Lengths) : Type 0 where
  pub chars : gone.chars ≤ a.chars
  pub bytes : gone.bytes ≤ a.bytes
  pub utf16 : gone.utf16 ≤ a.utf16
  pub lines : gone.lines ≤ a.lines
  pub few : IsTrue (is_countable (together a come))

-- the lengths of a text
abbrev pub lengths_of : List ℕ → Lengths
lengths_of text = lengths (length text) (byte_len text) (utf16_len text) (lf_count text)

pub same_lengths : (a b c d a' b' c' d' : ℕ) → a ≡ a' → b ≡ b' → c ≡ c' → d ≡ d' → lengths a b c d ≡ lengths a' b' c' d'
same_lengths a b c d a' b' c' d' p q r s = rw (p, q, r, s) refl

pub lengths_add : Adds no_lengths together is_countable (λ a. a.chars)
lengths_add = record {
  left_zero = λ a. same_lengths _ _ _ _ a.chars a.bytes a.utf16 a.lines (zero-add _) (zero-add _) (zero-add _) (zero-add _);
  right_zero = λ a. same_lengths _ _ _ _ a.chars a.bytes a.utf16 a.lines (add-zero _) (add-zero _) (add-zero _) (add-zero _);
  grouped = λ a b c. same_lengths _ _ _ _ _ _ _ _ (add_assoc a.chars b.chars c.chars) (add_assoc a.bytes b.bytes c.bytes) (add_assoc a.utf16 b.utf16 c.utf16) (add_assoc a.lines b.lines c.lines);
  zero_fits = refl;
  left_fits = λ a b fit. lt-ltb _ _ (omega (arith, ltb-true _ (2 ^ 64) fit));
  right_fits = λ a b fit. lt-ltb _ _ (omega (arith, ltb-true _ (2 ^ 64) fit));
  none = refl;
  counts = λ a b. refl;
  small = λ a fit. omega (arith, ltb-true _ (2 ^ 64) fit);
}

pub byte_len-append : (xs ys : List ℕ) → byte_len (xs ++ ys) ≡ byte_len xs + byte_len ys
byte_len-append [] ys = sym (zero-add (byte_len ys))
byte_len-append (c ∷ xs) ys = ap (λ n. len_utf8 c + n) (byte_len-append xs ys) ∙ sym (add_assoc (len_utf8 c) (byte_len xs) (byte_len ys))

pub count_by-append : (p : ℕ → Bool) (xs ys : List ℕ) → count_by p (xs ++ ys) ≡ count_by p xs + count_by p ys
count_by-append p xs ys = sum_by-append (λ c. cond (p c) 1 0) xs ys

pub utf16_len-append : (xs ys : List ℕ) → utf16_len (xs ++ ys) ≡ utf16_len xs + utf16_len ys
utf16_len-append xs ys = omega (arith, length-append xs ys, count_by-append (λ c. nat_le 65536 c) xs ys)

pub lengths_sum : Sums lengths_of no_lengths together (λ a. a.chars)
lengths_sum = record {
  empty = refl;
  joined = λ xs ys. same_lengths _ _ _ _ _ _ _ _ (length-append xs ys) (byte_len-append xs ys) (utf16_len-append xs ys) (count_by-append (λ c. c == 10) xs ys);
  counts = λ xs. refl;
}
