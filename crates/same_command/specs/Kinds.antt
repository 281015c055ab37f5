-- Kinds of edits and acts.
use Rattle.std.specs.Prelude.{⊤}
use Rattle.xi_plain.specs.declared.command.Act.{Act}
use Rattle.xi_plain.specs.declared.command.EditAct.{EditAct}
use Rattle.xi_plain.specs.declared.command.EditAct.TheVariants as Edit

-- the edit is its name alone
abbrev pub IsName : EditAct → Type 0
IsName Edit.InsertNewline = ⊤
IsName Edit.InsertTab = ⊤
IsName Edit.DeleteBackward = ⊤
IsName Edit.DeleteForward = ⊤
IsName Edit.DeleteWordBackward = ⊤
IsName Edit.DeleteWordForward = ⊤
IsName Edit.Cut = ⊤
IsName Edit.Copy = ⊤
IsName Edit.Undo = ⊤
IsName Edit.Redo = ⊤
IsName Edit.SelectAll = ⊤
IsName Edit.Collapse = ⊤
IsName Edit.Nothing = ⊤
IsName act = ⊥

-- it has neither a text nor a place where a button was pressed or held
abbrev pub HasNoPoint : EditAct → Type 0
HasNoPoint (Edit.Insert chars) = ⊥
HasNoPoint (Edit.Paste chars) = ⊥
HasNoPoint (Edit.Find chars case_sensitive regex whole_words) = ⊥
HasNoPoint (Edit.Click line col modifiers count) = ⊥
HasNoPoint (Edit.Drag line col modifiers) = ⊥
HasNoPoint act = ⊤

-- the act is an edit of a plugin
abbrev pub IsChange : Act → Type 0
IsChange (Act.PluginEdit view rev delta priority after_cursor author named) = ⊤
IsChange act = ⊥
