-- Laws of undo, collection, change, carets and styles, whatever the histories.
use Rattle.std.specs.Prelude.{◌≡◌, ◌≢◌, ℕ, ◌+◌, ◌≤◌, ◌↔◌, Bool, true, false, not, if◌then◌else◌, List, ◌++◌, length, None, IfSome}
use Rattle.std.specs.List.{list_all, AllByRecursion}
use Rattle.plain_text.specs.Numbers.{has, IsRising, flipped}
use Rattle.plain_text.specs.declared.run.Run.{Run}
use Rattle.plain_edits.specs.declared.style.Span.{Span}
use Rattle.plain_edits.specs.declared.delta.UnitDelta.{UnitDelta}
use Rattle.plain_edits.specs.declared.rank.Rank.{Rank}
use Rattle.plain_edits.specs.Rank.{is_lower}
use Rattle.plain_edits.specs.Delta.{applied}
use Rattle.plain_edits.specs.UnitDelta.{IsCanonical, unit_keeps, unit_adds}
use Rattle.plain_edits.specs.History.{Revision, History, head, loaded, undone, is_visible, visible_at, text_at, IsSound}
use Rattle.plain_edits.specs.Edits.{PlainEdit, edited, undid}
use Rattle.plain_edits.specs.Collection.{is_clean, clean_floor, IsAtRest, is_at_rest, collected_at, Qualifies, MayCollect, resting_groups, collection_of, is_dropped}
use Rattle.plain_edits.specs.Change.{passes_at, change_keeps, change_adds}
use Rattle.plain_edits.specs.Blocks.{edited_by_blocks}
use Rattle.plain_edits.specs.Caret.{index_after, moved_caret, mapped_gap}
use Rattle.plain_edits.specs.Styles.{Layer, style_of, is_shown_at, carried_layer, mapped_layer, layer_after_steps, number_at, spanned_style, with_spans}
use Rattle.plain_edits.specs.HistorySteps.{Step, after_step, after_steps, heads_after, MayCome, IsWellFormed}

-- the order of ranks: of two distinct ranks one is lower, and only one, and it passes on
pub record RanksAreOrdered : Type 0 where
  pub one : (rank other : Rank) → rank ≢ other → is_lower rank other ≡ false → is_lower other rank ≡ true
  pub only_one : (rank other : Rank) → is_lower rank other ≡ true → is_lower other rank ≡ false
  pub passes : (rank other last : Rank) → is_lower rank other ≡ true → is_lower other last ≡ true → is_lower rank last ≡ true

-- the edit step goes by blocks: each insertion goes into the block of its gap
abbrev pub EditsGoByBlocks : Type 0
EditsGoByBlocks = (history : History) (e : PlainEdit) → (edited history e).characters ≡ edited_by_blocks history e

-- two canonical deltas that keep and add the same are one
abbrev pub CanonicalDeltasAreOne : Type 0
CanonicalDeltasAreOne = (units others : UnitDelta) → IsCanonical units → IsCanonical others → units.base ≡ others.base →
    ((index : ℕ) → unit_keeps units index ≡ unit_keeps others index) → ((gap : ℕ) → unit_adds units gap ≡ unit_adds others gap) → units ≡ others

-- of two undos, one after the other, the last one alone counts
abbrev pub LastUndoCounts : Type 0
LastUndoCounts = (history : History) (groups others : List ℕ) → IsSound history →
    text_at (undid (undid history groups) others) (head history + 2) ≡ text_at (undid history others) (head history + 1)

-- an edit in a group that is undone is hidden on arrival, and hides nothing
abbrev pub UndoneEditsHide : Type 0
UndoneEditsHide = (history : History) (e : PlainEdit) → IsSound history → has (undone history.revisions (head history)) e.group ≡ true →
    text_at (edited history e) (head history + 1) ≡ text_at history (head history)

-- a collection changes no text of any revision
abbrev pub CollectionsChangeNoText : Type 0
CollectionsChangeNoText = (history : History) (floor : ℕ) (groups : List ℕ) (rev : ℕ) →
    text_at (collected_at history floor groups) rev ≡ text_at history rev

-- no step that may come lowers the floor or gives a collected group back
pub record StepsGiveNothingBack : Type 0 where
  pub floor : (history : History) (step : Step) → MayCome history step → history.floor ≤ (after_step history step).floor
  pub collected : (history : History) (step : Step) (group : ℕ) → has history.collected group ≡ true →
      has (after_step history step).collected group ≡ true

-- the character with this index is dropped
abbrev pub IsDroppedAt : History → ℕ → Type 0
IsDroppedAt history index = passes_at (is_dropped history) index history.characters ≡ true

-- a history is well formed when it is loaded, and stays so by each step that may come
pub record HistoriesStayWellFormed : Type 0 where
  pub at_loading : (text : List ℕ) → IsWellFormed (loaded text)
  pub by_steps : (history : History) (step : Step) → IsWellFormed history → MayCome history step → IsWellFormed (after_step history step)

-- what is collected after an entry may be collected, where the sessions have acknowledged the floor, and nothing past the head
abbrev pub CollectionsMayCome : Type 0
CollectionsMayCome = (history : History) (retired : List ℕ) (most : ℕ) → IsWellFormed history → history.floor ≤ most → most ≤ head history →
    IfSome (collection_of history retired most) (λ collection. MayCollect history collection.floor collection.groups)

-- where nothing is collected, nothing is after more revisions, while no session acknowledges more and no group retires
abbrev pub LaterRevisionsGiveNothing : Type 0
LaterRevisionsGiveNothing = (history next : History) (more : List Revision) (retired : List ℕ) (most : ℕ) → most ≤ head history →
    next.revisions ≡ history.revisions ++ more → next.collected ≡ history.collected →
    collection_of history retired most ≡ None → collection_of next retired most ≡ None

-- no revision from the floor to the head shows a dropped character
abbrev pub DroppedIsHidden : Type 0
DroppedIsHidden = (history : History) (rev : ℕ) → IsWellFormed history → history.floor ≤ rev → rev ≤ head history →
    AllByRecursion (λ tagged. is_dropped history tagged ≡ true → is_visible history.revisions rev tagged ≡ false) history.characters

-- what is dropped stays dropped, by each step that may come
abbrev pub DroppedStays : Type 0
DroppedStays = (history : History) (step : Step) (index : ℕ) → IsSound history → MayCome history step → IsDroppedAt history index →
    IsDroppedAt (after_step history step) (index_after history (after_step history step) index)

-- a change leads from the text of the one revision to that of the other
abbrev pub ChangesLead : Type 0
ChangesLead = (history : History) (from to : ℕ) →
    applied (change_keeps history from to) (change_adds history from to) (text_at history from) ≡ text_at history to

-- over the change from the head before a step to that after it, the caret rule of edits is that of histories
abbrev pub CaretsFollowChanges : Type 0
CaretsFollowChanges = (history : History) (step : Step) (stays_left : Bool) (gap : ℕ) → IsSound history →
    moved_caret history (after_step history step) stays_left gap ≡
    mapped_gap (change_keeps (after_step history step) (head history) (head (after_step history step)))
    (change_adds (after_step history step) (head history) (head (after_step history step))) stays_left gap

-- and so is the style rule, between any two revisions
abbrev pub StylesFollowChanges : Type 0
StylesFollowChanges = (history : History) (from to : ℕ) (layer : Layer) → length layer ≡ length (visible_at history from) →
    mapped_layer (change_keeps history from to) (change_adds history from to) layer ≡ carried_layer history from to layer

-- a style never moves to another character: after some steps, what each of them shows has the style that it had, and the rest has none
abbrev pub StylesStay : Type 0
StylesStay = (history : History) (steps : List Step) (layer : Layer) (index : ℕ) → IsSound history →
    length layer ≡ length (visible_at history (head history)) →
    style_of (after_steps history steps) (head (after_steps history steps)) (layer_after_steps history steps layer) index ≡
    (if list_all (λ rev. is_shown_at (after_steps history steps) rev index) (heads_after history steps)
    then style_of (after_steps history steps) (head history) layer index else None)

-- SPANS REACH THEIR CHARACTERS: of what the head shows, a character that the revision shows gets what the spans make of its style, by where it
-- stood in the text of the revision; and every other one keeps its style, also one that came between them since
abbrev pub SpansReachTheirCharacters : Type 0
SpansReachTheirCharacters = (history : History) (rev : ℕ) (range : Run) (spans : List Span) (layer : Layer) (index : ℕ) →
    is_shown_at history (head history) index ≡ true →
    style_of history (head history) (with_spans history rev range spans layer) index ≡
    (if is_shown_at history rev index
    then spanned_style range spans (number_at history rev index) (style_of history (head history) layer index)
    else style_of history (head history) layer index)

-- the test of rest finds the groups at rest
abbrev pub RestIsTested : Type 0
RestIsTested = (history : History) (floor group : ℕ) → (is_at_rest history floor group ≡ true) ↔ IsAtRest history floor group

-- the resting groups are those that qualify and are not collected
abbrev pub RestingGroupsQualify : Type 0
RestingGroupsQualify = (history : History) (retired : List ℕ) (floor group : ℕ) →
    (has (resting_groups history retired floor) group ≡ true) ↔
    (Qualifies history retired floor group × (has history.collected group ≡ false))

-- of two sets, the flipped one has what is in exactly one of them
abbrev pub FlippedIsExclusive : Type 0
FlippedIsExclusive = (numbers others : List ℕ) (n : ℕ) → IsRising numbers → IsRising others →
    has (flipped numbers others) n ≡ (if has others n then not (has numbers n) else has numbers n)

-- the clean floor up to a revision is the greatest one
pub record CleanFloorsAreGreatest : Type 0 where
  pub is_within : (history : History) (most : ℕ) → clean_floor history.revisions most ≤ most
  pub clean : (history : History) (most : ℕ) → is_clean history.revisions (clean_floor history.revisions most) ≡ true
  pub greatest : (history : History) (most other : ℕ) → other ≤ most → is_clean history.revisions other ≡ true →
      other ≤ clean_floor history.revisions most
