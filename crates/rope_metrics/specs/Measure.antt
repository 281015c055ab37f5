-- How long a text is in a measure, and the front of a text that an offset ends.
use Rattle.std.specs.Prelude.{◌≡◌, ◌≢◌, ℕ, ◌<◌, ◌≤◌, Bool, true, false, List, ◌∷◌, ◌++◌, length, refl}
use Rattle.rope_metrics.specs.declared.measure.Measure.{Measure}
use Rattle.rope_metrics.specs.declared.measure.Measure.TheVariants.{Chars, Bytes, Utf16, Lines}
use Rattle.rope_node.specs.declared.lengths.Lengths.{Lengths}
use Rattle.rope_node.specs.Lengths.{lengths_of, no_lengths}

-- whether it is one of characters, of bytes or of units of UTF-16, which are the same where each character takes one byte
abbrev pub is_plain : Measure → Bool
is_plain Chars = true
is_plain Bytes = true
is_plain Utf16 = true
is_plain Lines = false

-- the length in this measure
abbrev pub long_by : Measure → Lengths → ℕ
long_by Chars lengths = lengths.chars
long_by Bytes lengths = lengths.bytes
long_by Utf16 lengths = lengths.utf16
long_by Lines lengths = lengths.lines

-- how long a text is in this measure
abbrev pub long : Measure → List ℕ → ℕ
long measure text = long_by measure (lengths_of text)

pub starts_at_none : (measure : Measure) → long_by measure no_lengths ≡ 0
starts_at_none Chars = refl
starts_at_none Bytes = refl
starts_at_none Utf16 = refl
starts_at_none Lines = refl

-- the text is cut at the first gap with this offset: its front is as long, and no front of that is
pub record IsCut (measure : Measure) (text : List ℕ) (at : ℕ) (front back : List ℕ) : Type 0 where
  pub cut : text ≡ front ++ back
  pub ends : long measure front ≡ at
  pub first : (shorter longer : List ℕ) (c : ℕ) → front ≡ shorter ++ c ∷ longer → long measure shorter < at

-- the gap with this offset in the one measure has that offset in the other
pub record IsConverted (from to : Measure) (text : List ℕ) (at offset : ℕ) : Type 0 where
  pub front : List ℕ
  pub back : List ℕ
  pub cut : IsCut from text at front back
  pub is : offset ≡ long to front

-- no gap of the text has this offset
abbrev pub HasNone : Measure → List ℕ → ℕ → Type 0
HasNone measure text at = (front back : List ℕ) → text ≡ front ++ back → long measure front ≢ at

-- THE GREATEST GAP of the text whose offset in this measure is at most `at`: the front up to it is no longer than that, and so is none that
-- ends behind it
pub record IsGapWithin (measure : Measure) (text : List ℕ) (at gap : ℕ) : Type 0 where
  pub front : List ℕ
  pub back : List ℕ
  pub cut : text ≡ front ++ back
  pub is : gap ≡ length front
  pub within : long measure front ≤ at
  pub greatest : (other rest : List ℕ) → text ≡ other ++ rest → long measure other ≤ at → length other ≤ gap
