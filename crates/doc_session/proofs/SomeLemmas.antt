-- There is always a region: after a command, and after a revision that is none.
use Rattle.std.proofs.Common.{◌≢◌, ℕ, zero, suc, ◌-◌, ◌<◌, Bool, true, false, List, [], ◌∷◌, ◌++◌, length, map, drop, refl, arith}
use Rattle.std.specs.Prelude.{if◌then◌else◌, not}
use Rattle.std.specs.List.{filter, list_any}
use Rattle.plain_text.specs.declared.selection.Region.{Region}
use Rattle.plain_edits.specs.Caret.{moved_region}
use Rattle.plain_edits.specs.History.{History}
use Rattle.plain_screen.specs.declared.piece.Piece.{Piece}
use Rattle.xi_plain.specs.declared.config.Config.{Config}
use Rattle.xi_plain.specs.declared.command.EditAct.{EditAct}
use Rattle.xi_plain.specs.declared.command.EditAct.TheVariants as Acts
use Rattle.xi_plain.specs.declared.motion.Touch.{Touch}
use Rattle.xi_plain.specs.declared.motion.Touch.TheVariants.{Point, Toggle, Range, Word, Line}
use Rattle.selection_core.specs.Selection.{caret_of, comes_before, joined, lesser_end, meets, merged_from, merged_regions, selection_of, sorted_regions, with_in_order, with_region}
use Rattle.movement_core.specs.Motions.{region_after}
use Rattle.movement_core.specs.Places.{left_of, right_of}
use Rattle.movement_core.specs.Words.{word_left, word_right}
use Rattle.edit_ops.specs.declared.replacement.Replacement.{Replacement}
use Rattle.edit_ops.specs.Commands.{effect_of, tab_text}
use Rattle.edit_ops.specs.Points.{gap_of_point}
use Rattle.edit_ops.specs.Regions.{all_but_last, dragged, has_gap, last_region, or_last, regions_touched, touch_of_click, with_caret, without_goal}
use Rattle.edit_ops.specs.Replacements.{carets_with, deleted_to, gap_with, replaced_by}
use Rattle.doc_session.specs.Document.{Document}
use Rattle.doc_session.specs.Step.{regions_by}

-- ---- lists that have an item

pub map-some : {X Y : Type 0} (f : X → Y) (xs : List X) → xs ≢ [] → map f xs ≢ []
map-some f [] some = λ none. some refl
map-some f (x ∷ xs) some = λ none. cc

append-some : {X : Type 0} (xs ys : List X) → ys ≢ [] → xs ++ ys ≢ []
append-some [] ys some = some
append-some (x ∷ xs) ys some = λ none. cc

drop-some : {X : Type 0} (n : ℕ) (xs : List X) → n < length xs → drop n xs ≢ []
drop-some n [] inside = absurd (omega arith)
drop-some zero (x ∷ xs) inside = λ none. cc
drop-some (suc n) (x ∷ xs) inside = drop-some n xs (omega (arith, inside))

last-some : (regions : List Region) → regions ≢ [] → last_region regions ≢ []
last-some [] some = λ none. some refl
last-some (region ∷ regions) some = drop-some (length (region ∷ regions) - 1) (region ∷ regions) (omega arith)

-- ---- regions in order, and merged

in_order-some : (region : Region) (regions : List Region) → with_in_order region regions ≢ []
in_order-some region [] = λ none. cc
in_order-some region (first ∷ regions) = by (comes_before first region)
  where
    by : (b : Bool) → (if b then first ∷ with_in_order region regions else region ∷ first ∷ regions) ≢ []
    by true = λ none. cc
    by false = λ none. cc

merged_from-some : (last : Region) (regions : List Region) → merged_from last regions ≢ []
merged_from-some last [] = λ none. cc
merged_from-some last (region ∷ regions) = by (meets last region) (merged_from-some (joined last region) regions)
  where
    by : (b : Bool) → merged_from (joined last region) regions ≢ [] →
        (if b then merged_from (joined last region) regions else last ∷ merged_from region regions) ≢ []
    by true some = some
    by false some = λ none. cc

merged-some : (regions : List Region) → regions ≢ [] → merged_regions regions ≢ []
merged-some [] some = λ none. some refl
merged-some (region ∷ regions) some = merged_from-some region regions

sorted-some : (regions : List Region) → regions ≢ [] → sorted_regions regions ≢ []
sorted-some [] some = λ none. some refl
sorted-some (region ∷ regions) some = in_order-some region (sorted_regions regions)

selection-some : (regions : List Region) → regions ≢ [] → selection_of regions ≢ []
selection-some regions some = merged-some (sorted_regions regions) (sorted-some regions some)

-- ---- after gestures and replacements

carets-some : (replacements : List Replacement) → replacements ≢ [] → carets_with replacements ≢ []
carets-some replacements some =
    let each : Replacement → Region = λ r. caret_of (gap_with replacements r.range.start) in
    selection-some (map each replacements) (map-some each replacements some)

dragged-some : (gap : ℕ) (regions : List Region) → regions ≢ [] → dragged gap regions ≢ []
dragged-some gap regions some = map-some (with_caret gap) (last_region regions) (last-some regions some)

or_last-some : (regions left : List Region) → regions ≢ [] → or_last regions left ≢ []
or_last-some regions [] some = last-some regions some
or_last-some regions (first ∷ left) some = λ none. cc

touched-some : (text : List ℕ) (touch : Touch) (gap : ℕ) (regions : List Region) → regions ≢ [] → regions_touched text touch gap regions ≢ []
touched-some text Point gap regions some = λ none. cc
touched-some text Toggle gap regions some = by (list_any (has_gap gap) regions)
  where
    by : (b : Bool) → (if b then or_last regions (filter (λ region. not (has_gap gap region)) regions) else with_region (caret_of gap) regions) ≢ []
    by true = or_last-some regions (filter (λ region. not (has_gap gap region)) regions) some
    by false = merged-some (with_in_order (caret_of gap) regions) (in_order-some (caret_of gap) regions)
touched-some text Range gap regions some =
    selection-some (all_but_last regions ++ dragged gap regions) (append-some (all_but_last regions) (dragged gap regions) (dragged-some gap regions some))
touched-some text Word gap regions some = λ none. cc
touched-some text Line gap regions some = λ none. cc

module _ (config : Config) (text : List ℕ) (pieces : List Piece) (regions : List Region) (some : regions ≢ []) where
  editing-some : (f : Region → Replacement) → carets_with (map f regions) ≢ []
  editing-some f = carets-some (map f regions) (map-some f regions some)

  -- THERE IS A REGION AFTER A COMMAND
  pub effect-some : (act : EditAct) → (effect_of config text pieces regions act).regions ≢ []
  effect-some (Acts.Insert chars) = editing-some (replaced_by chars)
  effect-some (Acts.Paste chars) = editing-some (replaced_by chars)
  effect-some Acts.InsertNewline = editing-some (replaced_by (10 ∷ []))
  effect-some Acts.InsertTab = editing-some (λ region. replaced_by (tab_text config text pieces (lesser_end region)) region)
  effect-some Acts.DeleteBackward = editing-some (λ region. deleted_to (left_of text region.caret) region)
  effect-some Acts.DeleteForward = editing-some (λ region. deleted_to (right_of text region.caret) region)
  effect-some Acts.DeleteWordBackward = editing-some (λ region. deleted_to (word_left text region.caret) region)
  effect-some Acts.DeleteWordForward = editing-some (λ region. deleted_to (word_right text region.caret) region)
  effect-some Acts.Cut = editing-some (replaced_by [])
  effect-some Acts.Copy = some
  effect-some Acts.Undo = some
  effect-some Acts.Redo = some
  effect-some Acts.SelectAll = λ none. cc
  effect-some Acts.Collapse = λ none. cc
  effect-some (Acts.Move motion extend) =
      selection-some (map (region_after config.tab text pieces motion extend) regions) (map-some (region_after config.tab text pieces motion extend) regions some)
  effect-some (Acts.Scroll first last) = some
  effect-some (Acts.RequestLines first last) = some
  effect-some (Acts.Click line col modifiers count) =
      touched-some text (touch_of_click count) (gap_of_point text pieces line col) (map without_goal regions) (map-some without_goal regions some)
  effect-some (Acts.Drag line col modifiers) = dragged-some (gap_of_point text pieces line col) regions some
  effect-some (Acts.Gesture line col ty) =
      touched-some text ty (gap_of_point text pieces line col) (map without_goal regions) (map-some without_goal regions some)
  effect-some (Acts.GotoLine line) = λ none. cc
  effect-some (Acts.Find chars case_sensitive regex whole_words) = some
  effect-some (Acts.FindNext wrap_around allow_same) = some
  effect-some (Acts.FindPrevious wrap_around allow_same) = some
  effect-some Acts.Nothing = some

-- and where the caret rule takes them
pub regions_by-some : (plain : Document) (next : History) (after_cursor : Bool) (regions : List Region) → regions ≢ [] →
    regions_by plain next after_cursor regions ≢ []
regions_by-some plain next after_cursor regions some =
    merged-some (map (moved_region plain.text.history next after_cursor) regions) (map-some (moved_region plain.text.history next after_cursor) regions some)
