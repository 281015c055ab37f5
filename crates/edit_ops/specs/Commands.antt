-- What each command does to a text and to its selection.
use Rattle.std.specs.Prelude.{⊤, ◌≡◌, ℕ, ◌-◌, not, true, if◌then◌else◌, List, [], ◌∷◌, length, map, replicate, slice_range}
use Rattle.std.specs.List.{filter, join_by}
use Rattle.plain_text.specs.declared.selection.Region.{Region}
use Rattle.plain_screen.specs.declared.piece.Piece.{Piece}
use Rattle.plain_edits.specs.declared.delta.UnitDelta.{UnitDelta}
use Rattle.xi_plain.specs.declared.config.Config.{Config}
use Rattle.xi_plain.specs.declared.command.EditAct.{EditAct}
use Rattle.xi_plain.specs.declared.command.EditAct.TheVariants.{Insert, Paste, InsertNewline, InsertTab, DeleteBackward, DeleteForward, DeleteWordBackward, DeleteWordForward, Cut, Undo, Redo, SelectAll, Collapse, Move, Scroll, RequestLines, Click, Drag, Gesture, GotoLine, Find, FindNext, FindPrevious}
use Rattle.cluster_core.specs.Columns.{tab_stop}
use Rattle.selection_core.specs.Selection.{IsSelection, caret_of, greater_end, is_caret, last_caret, lesser_end, spanning}
use Rattle.selection_core.specs.Mapped.{AreWithin}
use Rattle.movement_core.specs.Lines.{column_of}
use Rattle.movement_core.specs.Motions.{regions_after}
use Rattle.movement_core.specs.Places.{left_of, right_of}
use Rattle.movement_core.specs.Words.{word_left, word_right}
use Rattle.edit_ops.specs.declared.replacement.Replacement.{Replacement}
use Rattle.edit_ops.specs.Points.{gap_of_point, start_of_numbered}
use Rattle.edit_ops.specs.Regions.{dragged, touch_of_click, regions_touched, without_goal}
use Rattle.edit_ops.specs.Replacements.{IsEditOf, carets_with, deleted_to, replaced_by, text_with}

-- what a command comes to: the replacements, and the regions after
pub record Effect : Type 0 where
  pub replacements : List Replacement
  pub regions : List Region

-- these replacements, and the carets after them
abbrev pub editing : List Replacement → Effect
editing replacements = record { replacements = replacements; regions = carets_with replacements }

-- no edit, and these regions
abbrev pub selecting : List Region → Effect
selecting regions = record { replacements = []; regions = regions }

-- THE TEXT OF A TAB at a gap: a tab, or the spaces from the column of the gap up to the next multiple of the tab width
abbrev pub tab_text : Config → List ℕ → List Piece → ℕ → List ℕ
tab_text config text pieces gap =
    let column = column_of config.tab text pieces gap in
    if config.spaces then replicate (tab_stop config.tab column - column) 32 else 9 ∷ []

-- THE EFFECT OF A COMMAND on a text that is cut into pieces, and its regions
abbrev pub effect_of : Config → List ℕ → List Piece → List Region → EditAct → Effect
effect_of config text pieces regions (Insert chars) = editing (map (replaced_by chars) regions)
effect_of config text pieces regions (Paste chars) = editing (map (replaced_by chars) regions)
effect_of config text pieces regions InsertNewline = editing (map (replaced_by (10 ∷ [])) regions)
effect_of config text pieces regions InsertTab =
    editing (map (λ region. replaced_by (tab_text config text pieces (lesser_end region)) region) regions)
effect_of config text pieces regions DeleteBackward = editing (map (λ region. deleted_to (left_of text region.caret) region) regions)
effect_of config text pieces regions DeleteForward = editing (map (λ region. deleted_to (right_of text region.caret) region) regions)
effect_of config text pieces regions DeleteWordBackward = editing (map (λ region. deleted_to (word_left text region.caret) region) regions)
effect_of config text pieces regions DeleteWordForward = editing (map (λ region. deleted_to (word_right text region.caret) region) regions)
effect_of config text pieces regions Cut = editing (map (replaced_by []) regions)
effect_of config text pieces regions SelectAll = selecting (spanning true 0 (length text) ∷ [])
effect_of config text pieces regions Collapse = selecting (caret_of (last_caret regions) ∷ [])
effect_of config text pieces regions (Move motion extend) = selecting (regions_after config.tab text pieces motion extend regions)
effect_of config text pieces regions (Click line col modifiers count) =
    selecting (regions_touched text (touch_of_click count) (gap_of_point text pieces line col) (map without_goal regions))
effect_of config text pieces regions (Drag line col modifiers) = selecting (dragged (gap_of_point text pieces line col) regions)
effect_of config text pieces regions (Gesture line col ty) =
    selecting (regions_touched text ty (gap_of_point text pieces line col) (map without_goal regions))
effect_of config text pieces regions (GotoLine line) = selecting (caret_of (start_of_numbered text line) ∷ [])
effect_of config text pieces regions act = selecting regions

-- THE TEXT OF A COPY: the texts of the regions that are no carets, in order, with an LF between each two
abbrev pub copied_text : List ℕ → List Region → List ℕ
copied_text text regions =
    join_by (λ region. slice_range text (lesser_end region) (greater_end region)) (10 ∷ []) (filter (λ region. not (is_caret region)) regions)

-- the command is done on a text and its regions alone; the others are done by a document
abbrev pub IsDoneOnText : EditAct → Type 0
IsDoneOnText Undo = ⊥
IsDoneOnText Redo = ⊥
IsDoneOnText (Scroll first last) = ⊥
IsDoneOnText (RequestLines first last) = ⊥
IsDoneOnText (Find chars case_sensitive regex whole_words) = ⊥
IsDoneOnText (FindNext wrap_around allow_same) = ⊥
IsDoneOnText (FindPrevious wrap_around allow_same) = ⊥
IsDoneOnText act = ⊤

-- an edit and regions are those of an effect: the regions are sorted, no two meet, and they lie in the text after
pub record IsEffect (text : List ℕ) (effect : Effect) (units : UnitDelta) (after : List Region) : Type 0 where
  pub edit : IsEditOf (length text) effect.replacements units
  pub regions : after ≡ effect.regions
  pub sound : IsSelection after
  pub inside : AreWithin (length (text_with effect.replacements text)) after
