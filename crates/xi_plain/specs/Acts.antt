-- Kinds of acts.
use Rattle.std.specs.Prelude.{⊤}
use Rattle.xi_plain.specs.declared.command.EditAct.{EditAct}
use Rattle.xi_plain.specs.declared.command.EditAct.TheVariants as Edit
use Rattle.xi_plain.specs.declared.command.Act.{Act}
use Rattle.xi_plain.specs.declared.command.Act.TheVariants.{PluginEdit, GetData, UpdateSpans, LineCount, Alert, Ack, Ended}

-- the act of a view has no text
abbrev pub HasNoText : EditAct → Type 0
HasNoText (Edit.Insert chars) = ⊥
HasNoText (Edit.Paste chars) = ⊥
HasNoText (Edit.Find chars case_sensitive regex whole_words) = ⊥
HasNoText act = ⊤

-- nor is it a click, a drag or a step of a search
abbrev pub IsSimple : EditAct → Type 0
IsSimple (Edit.Insert chars) = ⊥
IsSimple (Edit.Paste chars) = ⊥
IsSimple (Edit.Find chars case_sensitive regex whole_words) = ⊥
IsSimple (Edit.Click line col modifiers count) = ⊥
IsSimple (Edit.Drag line col modifiers) = ⊥
IsSimple (Edit.FindNext wrap_around allow_same) = ⊥
IsSimple (Edit.FindPrevious wrap_around allow_same) = ⊥
IsSimple act = ⊤

-- the act is one that plugins ask
abbrev pub IsOfPlugin : Act → Type 0
IsOfPlugin (PluginEdit view rev delta priority after_cursor author named) = ⊤
IsOfPlugin (GetData view rev start max) = ⊤
IsOfPlugin (UpdateSpans view rev start len spans) = ⊤
IsOfPlugin (LineCount view) = ⊤
IsOfPlugin (Alert msg) = ⊤
IsOfPlugin (Ack view rev) = ⊤
IsOfPlugin Ended = ⊤
IsOfPlugin act = ⊥

-- and has a delta or spans
abbrev pub HasList : Act → Type 0
HasList (PluginEdit view rev delta priority after_cursor author named) = ⊤
HasList (UpdateSpans view rev start len spans) = ⊤
HasList act = ⊥
