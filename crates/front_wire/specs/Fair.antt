-- Commands as lines give them: their texts are characters of Unicode, and their numbers are those of JSON.
use Rattle.std.specs.Prelude.{◌≡◌, ℕ, ◌≤◌, ◌<◌, true, List, Option, Some, None, ⊤}
use Rattle.std.specs.Str.{all_scalars}
use Rattle.xi_plain.specs.declared.command.Fault.TheVariants.{NoMethod, BadParams}
use Rattle.xi_plain.specs.declared.command.EditAct.{EditAct}
use Rattle.xi_plain.specs.declared.command.EditAct.TheVariants.{Insert, Paste, Find, Scroll, RequestLines, Click, Drag, Gesture, GotoLine}
use Rattle.xi_plain.specs.declared.command.Act.{Act}
use Rattle.xi_plain.specs.declared.command.Act.TheVariants.{Bad, Configure, NewView, CloseView, Save, Edit}
use Rattle.xi_plain.specs.declared.command.Command.{Command}
use Rattle.xi_plain.specs.declared.config.Changes.{Changes}
use Rattle.json_rpc.specs.Request.{IsWireId, IsTextId}
use Rattle.front_wire.specs.Members.{most}
use Rattle.front_wire.specs.declared.edit.EditMethod.{EditMethod}
use Rattle.front_wire.specs.declared.edit.EditMethod.TheVariants.{Row, Unknown}

-- each character of the text is one of Unicode
abbrev pub IsText : List ℕ → Type 0
IsText text = all_scalars text ≡ true

-- the same of a text that may be left out
abbrev pub IsTextIfAny : Option (List ℕ) → Type 0
IsTextIfAny None = ⊤
IsTextIfAny (Some text) = IsText text

-- the texts of what is asked of a view are texts
abbrev pub HasChars : EditAct → Type 0
HasChars (Insert chars) = IsText chars
HasChars (Paste chars) = IsText chars
HasChars (Find chars case_sensitive regex whole_words) = IsText chars
HasChars act = ⊤

-- the method is in its table, and its name is a text
abbrev pub IsMethod : EditMethod → Type 0
IsMethod (Row row) = row < 45
IsMethod (Unknown name) = IsText name
IsMethod method = ⊤

-- no number is beyond the greatest
abbrev pub HasSmall : EditAct → Type 0
HasSmall (Scroll first last) = (first ≤ most) × (last ≤ most)
HasSmall (RequestLines first last) = (first ≤ most) × (last ≤ most)
HasSmall (Click line col modifiers count) = (line ≤ most) × (col ≤ most) × (modifiers ≤ most) × (count ≤ most)
HasSmall (Drag line col modifiers) = (line ≤ most) × (col ≤ most) × (modifiers ≤ most)
HasSmall (Gesture line col ty) = (line ≤ most) × (col ≤ most)
HasSmall (GotoLine line) = line ≤ most
HasSmall act = ⊤

-- and no last line is below its first
abbrev pub IsInOrder : EditAct → Type 0
IsInOrder (Scroll first last) = first ≤ last
IsInOrder (RequestLines first last) = first ≤ last
IsInOrder act = ⊤

-- what is asked of a view is as a line may ask it
pub record IsFairEdit (act : EditAct) : Type 0 where
  pub texts : HasChars act
  pub small : HasSmall act
  pub order : IsInOrder act

-- a number of a change, where it says one, is in its range
abbrev pub IsBetween : ℕ → ℕ → Option ℕ → Type 0
IsBetween least greatest None = ⊤
IsBetween least greatest (Some n) = (least ≤ n) × (n ≤ greatest)

-- the numbers of a change are in their ranges
pub record AreFairChanges (changes : Changes) : Type 0 where
  pub tab : IsBetween 1 16 changes.tab
  pub width : IsBetween 0 10000 changes.width

-- what an act names is as a line may name it
abbrev pub IsFairAct : Act → Type 0
IsFairAct (Bad (NoMethod name)) = IsText name
IsFairAct (Bad (BadParams name)) = IsText name
IsFairAct (Configure changes) = AreFairChanges changes
IsFairAct (NewView path) = IsTextIfAny path
IsFairAct (CloseView view) = IsText view
IsFairAct (Save view path) = IsText view × IsText path
IsFairAct (Edit view act) = IsText view × IsFairEdit act
IsFairAct act = ⊤

-- THE COMMAND IS AS A LINE MAY GIVE IT
pub record IsFair (command : Command) : Type 0 where
  pub number : IsWireId command.id
  pub word : IsTextId command.id
  pub act : IsFairAct command.act
