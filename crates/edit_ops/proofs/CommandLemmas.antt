-- The effects of commands: what replacements come to, where deletions reach, and what edits nothing.
use Rattle.std.proofs.Common.{◌≡◌, ⊎_elim, ℕ, true, false, List, [], ◌∷◌, length, map, replicate, Result, Ok, Err, refl, sym, ap, ap₂, subst, ◌∙◌}
use Rattle.std.specs.Prelude.{◌||◌, if◌then◌else◌, IfOk}
use Rattle.std.proofs.lemmas.Bool.{cases_Bool}
use Rattle.std.proofs.lemmas.List.{length-replicate}
use Rattle.plain_text.specs.declared.selection.Region.{Region}
use Rattle.plain_text.specs.declared.selection.Sel.{Sel}
use Rattle.plain_screen.specs.declared.piece.Piece.{Piece}
use Rattle.plain_edits.specs.declared.delta.UnitDelta.{UnitDelta}
use Rattle.xi_plain.specs.declared.command.EditAct.{EditAct}
use Rattle.xi_plain.specs.declared.command.EditAct.TheVariants.{Insert, Paste, InsertNewline, InsertTab, DeleteBackward, DeleteForward, DeleteWordBackward, DeleteWordForward, Cut, Copy, Undo, Redo, SelectAll, Collapse, Move, Scroll, RequestLines, Click, Drag, Gesture, GotoLine, Find, FindNext, FindPrevious, Nothing}
use Rattle.xi_plain.specs.declared.config.Config.{Config}
use Rattle.xi_plain.specs.declared.motion.Motion.{Motion}
use Rattle.xi_plain.specs.declared.motion.Motion.TheVariants as To
use Rattle.selection_core.specs.Mapped.{AreWithin}
use Rattle.selection_core.specs.Selection.{IsSelection, greater_end, is_caret, lesser_end}
use Rattle.movement_core.specs.Motions.{target}
use Rattle.movement_core.specs.Places.{left_of, right_of}
use Rattle.edit_ops.specs.declared.replacement.Replacement.{Replacement}
use Rattle.edit_ops.specs.Commands.{IsEffect, editing, effect_of}
use Rattle.edit_ops.specs.Inner.{AreSelected, IsSelecting, IsSideward, reached, selected_by}
use Rattle.edit_ops.specs.Replacements.{IsEditOf, carets_with, deleted_range, deleted_to, deletion_of, gap_with, text_with}
use Rattle.edit_ops.proofs.LawLemmas.{length-text_with, text_with-empty}

-- ---- what replacements come to

pub IsEffect-made : (text : List ℕ) (rs : List Replacement) (units : UnitDelta) (after : List Region) → IsEditOf (length text) rs units → after ≡ carets_with rs →
    IsSelection after → AreWithin (gap_with rs (length text)) after → IsEffect text (editing rs) units after
IsEffect-made text rs units after edit regions sound inside = record {
  edit = edit;
  regions = regions;
  sound = sound;
  inside = subst (λ (len : ℕ). AreWithin len after) (sym (length-text_with text rs)) inside;
}

-- the same of an answer, over a base that is as long as the text
pub IsEffect-told : {E : Type 0} (text : List ℕ) (rs : List Replacement) (base : ℕ) (result : Result (UnitDelta × Sel) E) → base ≡ length text →
    IfOk result (λ made. IsEditOf base rs made.0) → IfOk result (λ made. made.1.regions ≡ carets_with rs) → IfOk result (λ made. IsSelection made.1.regions) →
    IfOk result (λ made. AreWithin (gap_with rs base) made.1.regions) → IfOk result (λ made. IsEffect text (editing rs) made.0 made.1.regions)
IsEffect-told text rs base (Ok made) is edit regions sound inside =
    IsEffect-made text rs made.0 made.1.regions (subst (λ (len : ℕ). IsEditOf len rs made.0) is edit) regions sound
    (subst (λ (len : ℕ). AreWithin (gap_with rs len) made.1.regions) is inside)
IsEffect-told text rs base (Err e) is edit regions sound inside = tt

-- ---- where deletions reach

deleted_range-same : (gap other : ℕ) (region : Region) → (is_caret region ≡ true → gap ≡ other) → deleted_range gap region ≡ deleted_range other region
deleted_range-same gap other region same =
    ⊎_elim
    (λ (one : is_caret region ≡ true). ap (λ (n : ℕ). deleted_range n region) (same one))
    (λ (more : is_caret region ≡ false). rw more refl)
    (cases_Bool (is_caret region))

target-reached : (tab : ℕ) (text : List ℕ) (pieces : List Piece) (motion : Motion) (region : Region) → IsSideward motion → is_caret region ≡ true →
    target tab text pieces motion false region ≡ reached text motion region.caret
target-reached tab text pieces To.Left region sideward one = ap (λ b. if false || b then left_of text region.caret else lesser_end region) one
target-reached tab text pieces To.Right region sideward one = ap (λ b. if false || b then right_of text region.caret else greater_end region) one
target-reached tab text pieces To.Up region sideward one = absurd sideward
target-reached tab text pieces To.Down region sideward one = absurd sideward
target-reached tab text pieces To.WordLeft region sideward one = refl
target-reached tab text pieces To.WordRight region sideward one = refl
target-reached tab text pieces To.LineStart region sideward one = absurd sideward
target-reached tab text pieces To.LineEnd region sideward one = absurd sideward
target-reached tab text pieces To.TextStart region sideward one = absurd sideward
target-reached tab text pieces To.TextEnd region sideward one = absurd sideward

pub deletions-reached : (tab : ℕ) (text : List ℕ) (pieces : List Piece) (motion : Motion) (regions : List Region) → IsSideward motion →
    map deletion_of (map (λ region. deleted_range (target tab text pieces motion false region) region) regions) ≡
    map (λ region. deleted_to (reached text motion region.caret) region) regions
deletions-reached tab text pieces motion [] sideward = refl
deletions-reached tab text pieces motion (region ∷ regions) sideward =
    ap₂ (λ r rs. r ∷ rs)
    (ap deletion_of (deleted_range-same _ _ region (target-reached tab text pieces motion region sideward)))
    (deletions-reached tab text pieces motion regions sideward)

-- ---- what edits nothing

regions-selecting : (config : Config) (text : List ℕ) (pieces : List Piece) (regions : List Region) (act : EditAct) → IsSelecting act →
    (effect_of config text pieces regions act).regions ≡ selected_by config.tab text pieces regions act
regions-selecting config text pieces regions (Insert chars) is = absurd is
regions-selecting config text pieces regions (Paste chars) is = absurd is
regions-selecting config text pieces regions InsertNewline is = absurd is
regions-selecting config text pieces regions InsertTab is = absurd is
regions-selecting config text pieces regions DeleteBackward is = absurd is
regions-selecting config text pieces regions DeleteForward is = absurd is
regions-selecting config text pieces regions DeleteWordBackward is = absurd is
regions-selecting config text pieces regions DeleteWordForward is = absurd is
regions-selecting config text pieces regions Cut is = absurd is
regions-selecting config text pieces regions Copy is = refl
regions-selecting config text pieces regions Undo is = refl
regions-selecting config text pieces regions Redo is = refl
regions-selecting config text pieces regions SelectAll is = refl
regions-selecting config text pieces regions Collapse is = refl
regions-selecting config text pieces regions (Move motion extend) is = refl
regions-selecting config text pieces regions (Scroll first last) is = refl
regions-selecting config text pieces regions (RequestLines first last) is = refl
regions-selecting config text pieces regions (Click line col modifiers count) is = refl
regions-selecting config text pieces regions (Drag line col modifiers) is = refl
regions-selecting config text pieces regions (Gesture line col ty) is = refl
regions-selecting config text pieces regions (GotoLine line) is = refl
regions-selecting config text pieces regions (Find chars case_sensitive regex whole_words) is = refl
regions-selecting config text pieces regions (FindNext wrap_around allow_same) is = refl
regions-selecting config text pieces regions (FindPrevious wrap_around allow_same) is = refl
regions-selecting config text pieces regions Nothing is = refl

replacements-selecting : (config : Config) (text : List ℕ) (pieces : List Piece) (regions : List Region) (act : EditAct) → IsSelecting act →
    (effect_of config text pieces regions act).replacements ≡ []
replacements-selecting config text pieces regions (Insert chars) is = absurd is
replacements-selecting config text pieces regions (Paste chars) is = absurd is
replacements-selecting config text pieces regions InsertNewline is = absurd is
replacements-selecting config text pieces regions InsertTab is = absurd is
replacements-selecting config text pieces regions DeleteBackward is = absurd is
replacements-selecting config text pieces regions DeleteForward is = absurd is
replacements-selecting config text pieces regions DeleteWordBackward is = absurd is
replacements-selecting config text pieces regions DeleteWordForward is = absurd is
replacements-selecting config text pieces regions Cut is = absurd is
replacements-selecting config text pieces regions Copy is = refl
replacements-selecting config text pieces regions Undo is = refl
replacements-selecting config text pieces regions Redo is = refl
replacements-selecting config text pieces regions SelectAll is = refl
replacements-selecting config text pieces regions Collapse is = refl
replacements-selecting config text pieces regions (Move motion extend) is = refl
replacements-selecting config text pieces regions (Scroll first last) is = refl
replacements-selecting config text pieces regions (RequestLines first last) is = refl
replacements-selecting config text pieces regions (Click line col modifiers count) is = refl
replacements-selecting config text pieces regions (Drag line col modifiers) is = refl
replacements-selecting config text pieces regions (Gesture line col ty) is = refl
replacements-selecting config text pieces regions (GotoLine line) is = refl
replacements-selecting config text pieces regions (Find chars case_sensitive regex whole_words) is = refl
replacements-selecting config text pieces regions (FindNext wrap_around allow_same) is = refl
replacements-selecting config text pieces regions (FindPrevious wrap_around allow_same) is = refl
replacements-selecting config text pieces regions Nothing is = refl

pub IsEffect-selected : (config : Config) (text : List ℕ) (pieces : List Piece) (regions : List Region) (act : EditAct) (units : UnitDelta) (after : List Region) →
    IsSelecting act → IsEditOf (length text) [] units → AreSelected text (selected_by config.tab text pieces regions act) after →
    IsEffect text (effect_of config text pieces regions act) units after
IsEffect-selected config text pieces regions act units after selecting edit are =
    let none = replacements-selecting config text pieces regions act selecting in record {
      edit = subst (λ rs. IsEditOf (length text) rs units) (sym none) edit;
      regions = are.is ∙ sym (regions-selecting config text pieces regions act selecting);
      sound = are.sound;
      inside = subst (λ t. AreWithin (length t) after) (sym (ap (λ rs. text_with rs text) none ∙ text_with-empty text [] tt)) are.inside;
    }

pub gap_with-none : (base : ℕ) → gap_with [] base ≡ base
gap_with-none base =
    let text = replicate base 0 in
    let long : length text ≡ base = length-replicate base 0 in
    subst (λ (n : ℕ). gap_with [] n ≡ n) long (sym (length-text_with text []) ∙ ap length (text_with-empty text [] tt))
