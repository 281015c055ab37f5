-- What a counting sink keeps of the pieces that it took.
use Rattle.std.specs.Prelude.{ℕ, ◌+◌, ◌^◌, ◌==◌, max, nat_le, nat_lt, ◌&&◌, Bool, true, false, if◌then◌else◌, ◌||◌, List, codes, length, Option, Some, None}
use Rattle.std.specs.List.{starts_with}
use Rattle.outside.specs.declared.sink.Pushed.{Pushed}
use Rattle.outside.specs.declared.sink.Pushed.TheVariants.{Took, Failed}
use Rattle.outside.specs.Faults.{counted}
use Rattle.session_load.specs.declared.count.Count.{Count}

-- WHAT PIECES CAME TO: how many they were, how many of them tell a refusal, their bytes, and those of the greatest
pub record Counts : Type 0 where
  pub pieces : ℕ
  pub refusals : ℕ
  pub bytes : ℕ
  pub greatest : ℕ

abbrev pub no_pieces : Counts
no_pieces = record { pieces = 0; refusals = 0; bytes = 0; greatest = 0 }

-- one, where it is so
abbrev pub one_if : Bool → ℕ
one_if true = 1
one_if false = 0

-- with one piece more of this length
abbrev pub counted_piece : Counts → ℕ → Bool → Counts
counted_piece counts len is_refusal = record {
  pieces = counts.pieces + 1;
  refusals = counts.refusals + one_if is_refusal;
  bytes = counts.bytes + len;
  greatest = max counts.greatest len;
}

-- no number passes 2^40 by such a piece
abbrev pub has_room : Counts → ℕ → Bool
has_room counts len = nat_lt counts.pieces (2 ^ 40) && nat_lt counts.refusals (2 ^ 40) && nat_le (counts.bytes + len) (2 ^ 40)

-- the same, where there is room
abbrev pub with_piece : Counts → ℕ → Bool → Option Counts
with_piece counts len is_refusal = if has_room counts len then Some (counted_piece counts len is_refusal) else None

-- what a count says
abbrev pub counts_of : Count → Counts
counts_of count = record { pieces = count.pieces; refusals = count.refusals; bytes = count.bytes; greatest = count.greatest }

-- A COUNTING SINK: what it took, and how many pieces it failed to take
pub record Counting : Type 0 where
  pub counts : Counts
  pub failures : ℕ

-- a piece tells a refusal where it begins as an answer with an error does, or as an alert
abbrev pub is_refusal : List ℕ → Bool
is_refusal piece = starts_with ◌==◌ piece (codes "{\"error\":") || starts_with ◌==◌ piece (codes "{\"method\":\"alert\"")

-- what a call answers at a piece: it is taken whole, or not at all
abbrev pub answered : Option Counts → ℕ → Pushed
answered None len = Failed
answered (Some counts) len = Took len

-- the sink after that call
abbrev pub counting_after : Counting → Option Counts → Counting
counting_after sink None = record sink { failures = counted sink.failures }
counting_after sink (Some counts) = record sink { counts = counts }

-- what the counts come to with this piece, where it is taken
abbrev pub counts_with : Counting → List ℕ → Option Counts
counts_with sink piece = with_piece sink.counts (length piece) (is_refusal piece)
