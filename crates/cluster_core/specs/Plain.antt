-- Plain characters, which stand alone beside each other.
use Rattle.std.specs.Prelude.{◌≡◌, ℕ, ◌≤◌, ◌==◌, ◌||◌, ◌&&◌, nat_le, Bool, true, List, [], ◌∷◌, ◌++◌, length, map, drop}
use Rattle.std.specs.Str.{all_scalars, chars}
use Rattle.cluster_core.specs.Boundaries.{clusters_in}

-- A PLAIN CHARACTER is a tab, or one from a space to `~`
abbrev pub is_plain_character : ℕ → Bool
is_plain_character c = (c == 9) || (nat_le 32 c && nat_le c 126)

-- one from a space to `~`, which takes one column
abbrev pub is_printable_character : ℕ → Bool
is_printable_character c = nat_le 32 c && nat_le c 126

-- what begins a cluster behind a plain character: another one, LF or CR
abbrev pub is_apart : ℕ → Bool
is_apart c = is_plain_character c || (c == 10) || (c == 13)

-- the line begins with a plain character that is a cluster
abbrev pub StandsAlone : List ℕ → Type 0
StandsAlone [] = ⊥
StandsAlone (c ∷ []) = is_plain_character c ≡ true
StandsAlone (c ∷ d ∷ line) = (is_plain_character c ≡ true) × (is_apart d ≡ true)

-- a line begins with these printable characters, each of which stands alone
abbrev pub BeginsAlone : List ℕ → List ℕ → Type 0
BeginsAlone line [] = Unit {0}
BeginsAlone [] (c ∷ run) = ⊥
BeginsAlone (d ∷ line) (c ∷ run) = (d ≡ c) × (is_printable_character c ≡ true) × StandsAlone (d ∷ line) × BeginsAlone line run

-- its first clusters are these characters, one by one
abbrev pub BeginsByClusters : List ℕ → List ℕ → Type 0
BeginsByClusters line run = clusters_in (chars line) ≡ map (λ c. c ∷ []) run ++ clusters_in (chars (drop (length run) line))

-- what comes next is apart from a plain character before it
abbrev pub ComesApart : List ℕ → Type 0
ComesApart [] = Unit {0}
ComesApart (d ∷ line) = is_apart d ≡ true

-- PLAIN CHARACTERS STAND ALONE: between one and what is apart from it a cluster ends, and the clusters of a line are those of its part up to
-- there and of its part from there on
pub record PlainStandAlone : Type 0 where
  pub parted : (front back : List ℕ) (c d : ℕ) → all_scalars (front ++ c ∷ d ∷ back) ≡ true → is_plain_character c ≡ true → is_apart d ≡ true →
      clusters_in (front ++ c ∷ d ∷ back) ≡ clusters_in (front ++ c ∷ []) ++ clusters_in (d ∷ back)
  pub alone : (line : List ℕ) (c : ℕ) → all_scalars (c ∷ line) ≡ true → StandsAlone (c ∷ line) → clusters_in (c ∷ line) ≡ (c ∷ []) ∷ clusters_in line

-- a line is its first cluster and what stands behind it, all three as bytes
pub record IsFirstCluster (line cluster rest : List ℕ) : Type 0 where
  pub bytes : line ≡ cluster ++ rest
  pub clusters : clusters_in (chars line) ≡ chars cluster ∷ clusters_in (chars rest)

-- one character from a space to `~`
abbrev pub IsPrintable : List ℕ → Type 0
IsPrintable line = (c : ℕ) × (line ≡ c ∷ []) × (32 ≤ c) × (c ≤ 126)
