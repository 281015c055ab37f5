-- Stretches of a logical line, with the line's own clusters.
use Rattle.std.specs.Prelude.{◌≡◌, ◌⊎◌, ℕ, ◌+◌, ◌<◌, ◌≤◌, ◌&&◌, Bool, true, false, if◌then◌else◌, List, [], ◌∷◌, ◌++◌, length, Option, Some, None}
use Rattle.std.specs.List.{concat}
use Rattle.plain_screen.specs.View.{LogicalLine}
use Rattle.cluster_core.specs.Boundaries.{clusters_in}
use Rattle.cluster_core.specs.Plain.{is_apart, is_plain_character}
use Rattle.movement_core.specs.declared.nearby.Stretch.{Stretch}

-- whether a cluster ends between two characters, whatever stands beside them: behind a plain one, where what is apart from it comes next
abbrev pub are_apart : Option ℕ → ℕ → Bool
are_apart None c = false
are_apart (Some last) c = is_plain_character last && is_apart c

-- the first gap between two that are apart, counted on from `at`, where `last` stands in front
abbrev pub first_apart : Option ℕ → ℕ → List ℕ → Option ℕ
first_apart last at [] = None
first_apart last at (c ∷ characters) = if are_apart last c then Some at else first_apart (Some c) (at + 1) characters

-- a gap of a text between two characters that are apart
pub record IsApartAt (text : List ℕ) (gap : ℕ) : Type 0 where
  pub front : List ℕ
  pub back : List ℕ
  pub last : ℕ
  pub next : ℕ
  pub parts : text ≡ front ++ last ∷ next ∷ back
  pub long : gap ≡ length front + 1
  pub plain : is_plain_character last ≡ true
  pub apart : is_apart next ≡ true

-- a stretch that covers a gap begins here: where its line starts, or where two characters are apart
pub record StartsBy (text : List ℕ) (start gap from : ℕ) : Type 0 where
  pub low : start ≤ from
  pub high : from ≤ gap
  pub apart : (from ≡ start) ⊎ ((from < gap) × IsApartAt text from)

-- and it ends here, past the gap
pub record EndsPast (text : List ℕ) (gap end to : ℕ) : Type 0 where
  pub low : gap ≤ to
  pub high : to ≤ end
  pub apart : (to ≡ end) ⊎ ((gap < to) × IsApartAt text to)

-- A STRETCH OF A LINE that covers two gaps: its clusters are clusters of the line, and it goes on past the second gap, or to the line's end
pub record IsStretchOf (line : LogicalLine) (from to : ℕ) (held : Stretch) : Type 0 where
  pub front : List (List ℕ)
  pub back : List (List ℕ)
  pub text : line.text ≡ concat front ++ (held.text ++ concat back)
  pub clusters : clusters_in line.text ≡ front ++ (clusters_in held.text ++ back)
  pub start : held.start ≡ line.start + length (concat front)
  pub before : held.start ≤ from
  pub past : (to < held.start + length held.text) ⊎ (back ≡ [])
