-- Where a piece ends that begins with printable characters, each of which is a cluster of one column.
use Rattle.std.specs.Prelude.{◌≡◌, ◌⊎◌, ℕ, ◌-◌, ◌<◌, ◌≤◌, true, false, List, length, slice_index}
use Rattle.line_break.specs.Breaks.{is_breaking, is_space_or_tab}

-- from this gap on only blanks stand before a character that is none
pub record IsFirstShown (run : List ℕ) (from stop : ℕ) : Type 0 where
  pub past : from ≤ stop
  pub inside : stop < length run
  pub shown : is_space_or_tab (slice_index run stop) ≡ false
  pub blank : (i : ℕ) → from ≤ i → i < stop → is_space_or_tab (slice_index run i) ≡ true

-- none of the gaps after `low` and up to `high` stands directly after a character that breaks
abbrev pub BreaksNowhere : List ℕ → ℕ → ℕ → Type 0
BreaksNowhere run low high = (i : ℕ) → low < i → i ≤ high → is_breaking (slice_index run (i - 1)) ≡ false

-- the last gap up to `stop` that stands after a character that breaks, or else `stop`
pub record IsLastBreak (run : List ℕ) (stop len : ℕ) : Type 0 where
  pub some : 0 < len
  pub few : len ≤ stop
  pub last : ((is_breaking (slice_index run (len - 1)) ≡ true) × BreaksNowhere run len stop) ⊎ ((len ≡ stop) × BreaksNowhere run 0 stop)

-- the length of the piece
pub record IsPlainEnd (width : ℕ) (run : List ℕ) (len : ℕ) : Type 0 where
  pub stop : ℕ
  pub some : 0 < stop
  pub shown : IsFirstShown run width stop
  pub last : IsLastBreak run stop len
