-- What private functions say: a leaf on the way to an offset, and an offset in a leaf.
use Rattle.std.specs.Prelude.{◌≡◌, ◌≢◌, ℕ, ◌+◌, ◌<◌, ◌≤◌, IsTrue, List, [], ◌∷◌, ◌++◌, length}
use Rattle.rope_metrics.specs.declared.measure.Measure.{Measure}
use Rattle.rope_metrics.specs.Measure.{long, long_by}
use Rattle.rope_node.specs.declared.lengths.Lengths.{Lengths}
use Rattle.rope_node.specs.Lengths.{is_countable, lengths_of, lf_count, together}

-- the leaf of the text in which the measure passes `at`, with the lengths of all before it
pub record IsChunkAt (measure : Measure) (text : List ℕ) (at : ℕ) (own : List ℕ) (before : Lengths) : Type 0 where
  pub front : List ℕ
  pub back : List ℕ
  pub cut : text ≡ front ++ (own ++ back)
  pub total : before ≡ lengths_of front
  pub passed : long_by measure before < at
  pub reached : at ≤ long_by measure (together before (lengths_of own))
  pub fits : IsTrue (is_countable (together before (lengths_of own)))

-- the first gap of a leaf that has this offset, where `before` are the lengths of all before the leaf, has that offset in the other measure
pub record IsConvertedIn (from to : Measure) (before : Lengths) (own : List ℕ) (at offset : ℕ) : Type 0 where
  pub seen : List ℕ
  pub rest : List ℕ
  pub cut : own ≡ seen ++ rest
  pub ends : long_by from before + long from seen ≡ at
  pub first : (shorter longer : List ℕ) (c : ℕ) → seen ≡ shorter ++ c ∷ longer → long_by from before + long from shorter < at
  pub is : offset ≡ long_by to before + long to seen

-- no gap of the leaf has this offset
abbrev pub HasNoneIn : Measure → Lengths → List ℕ → ℕ → Type 0
HasNoneIn measure before own at = (seen rest : List ℕ) → own ≡ seen ++ rest → long_by measure before + long measure seen ≢ at

-- the greatest gap of a leaf whose offset is at most `at`, where `before` are the lengths of all before the leaf, which goes on behind it
pub record IsGapWithinIn (measure : Measure) (before : Lengths) (own : List ℕ) (at gap : ℕ) : Type 0 where
  pub seen : List ℕ
  pub next : ℕ
  pub rest : List ℕ
  pub cut : own ≡ seen ++ next ∷ rest
  pub is : gap ≡ before.chars + length seen
  pub within : long_by measure before + long measure seen ≤ at
  pub past : at < long_by measure before + long measure (seen ++ next ∷ [])

-- what stands behind the first LF of a text
pub record IsPastLf (text rest : List ℕ) : Type 0 where
  pub front : List ℕ
  pub cut : text ≡ (front ++ 10 ∷ []) ++ rest
  pub none : lf_count front ≡ 0
