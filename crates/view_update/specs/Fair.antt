-- The updates that a line of JSON can hold: their texts are characters of Unicode, and their numbers are in range.
use Rattle.std.specs.Prelude.{◌≡◌, ℕ, ◌^◌, ◌<◌, ◌-◌, pos, negsuc, ◌≤ℤ◌, List, length, true, Option, Some, None, ⊤}
use Rattle.std.specs.List.{AllByRecursion}
use Rattle.std.specs.Str.{all_scalars}
use Rattle.plain_edits.specs.declared.style.Style.{Style}
use Rattle.plain_screen.specs.declared.screen.Triple.{Triple}
use Rattle.plain_screen.specs.declared.screen.Line.{Line}
use Rattle.plain_screen.specs.declared.screen.Restyle.{Restyle}
use Rattle.plain_screen.specs.declared.screen.Op.{Op}
use Rattle.plain_screen.specs.declared.screen.Op.TheVariants.{Copy, Skip, Invalidate, Ins, Update as Restyling}
use Rattle.plain_screen.specs.declared.screen.Update.{Update}

-- a number of at most 64 bits
abbrev pub IsCount : ℕ → Type 0
IsCount n = n < 2 ^ 64

-- a number of at most 64 bits, where there is one
abbrev pub IsLn : Option ℕ → Type 0
IsLn None = ⊤
IsLn (Some n) = IsCount n

-- a triple: its start is from -2^63 to 2^63 - 1, its length and its id are of at most 64 bits
pub record IsFairTriple (t : Triple) : Type 0 where
  pub low : negsuc (2 ^ 63 - 1) ≤ℤ t.start
  pub high : t.start ≤ℤ pos (2 ^ 63 - 1)
  pub len : IsCount t.len
  pub id : IsCount t.id

-- a line: its text is one of Unicode, and its number, the offsets of its carets and its styles are in range
pub record IsFairLine (line : Line) : Type 0 where
  pub text : all_scalars line.text ≡ true
  pub ln : IsLn line.ln
  pub cursor : AllByRecursion IsCount line.cursor
  pub styles : AllByRecursion IsFairTriple line.styles

-- what becomes of an old line: the offsets of its carets and its styles are in range
pub record IsFairRestyle (restyle : Restyle) : Type 0 where
  pub cursor : AllByRecursion IsCount restyle.cursor
  pub styles : AllByRecursion IsFairTriple restyle.styles

-- an operation: its numbers are in range, and its lines are fair and no more than 64 bits count
abbrev pub IsFairOp : Op → Type 0
IsFairOp (Copy n ln) = IsCount n × IsLn ln
IsFairOp (Skip n) = IsCount n
IsFairOp (Invalidate n) = IsCount n
IsFairOp (Ins lines) = IsCount (length lines) × AllByRecursion IsFairLine lines
IsFairOp (Restyling ln restyles) = IsCount (length restyles) × IsLn ln × AllByRecursion IsFairRestyle restyles

-- an update, and the id of the view that it is for: a text of Unicode
pub record IsFairUpdate (view : List ℕ) (update : Update) : Type 0 where
  pub id : all_scalars view ≡ true
  pub ops : AllByRecursion IsFairOp update.ops

-- a style: its numbers are in range
pub record IsFairStyle (style : Style) : Type 0 where
  pub fg_color : IsLn style.fg_color
  pub bg_color : IsLn style.bg_color
  pub weight : IsLn style.weight
