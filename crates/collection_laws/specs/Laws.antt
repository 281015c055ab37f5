-- The laws of collection, whatever the histories.
use Rattle.std.specs.Prelude.{◌≡◌, ℕ, ◌<◌, ◌≤◌, true, false, List, [], ◌∷◌, ◌++◌, length, map}
use Rattle.std.specs.List.{AllByRecursion}
use Rattle.plain_edits.specs.History.{Tagged, History, head, loaded, is_visible, visible_at, text_at}
use Rattle.plain_edits.specs.Place.{later_run}
use Rattle.plain_edits.specs.Edits.{PlainEdit, edited, undid}
use Rattle.plain_edits.specs.Collection.{collected_at, MayCollect, collection_of, is_collected, is_dropped, kept}
use Rattle.plain_edits.specs.Change.{change_keeps, change_adds}
use Rattle.plain_edits.specs.HistorySteps.{Step, after_step, after_steps, MayCome, MayEdit, MayUndoSet, IsWellFormed}
use Rattle.collection_laws.specs.MayForget.{MayForget}
use Rattle.collection_laws.specs.Left.{without_dropped, settled, left_of}
use Rattle.collection_laws.specs.Forgetful.{forgetful_steps, MayComeInTurn}

-- a revision is from the floor to the head
pub record IsKeptRev (history : History) (rev : ℕ) : Type 0 where
  pub reached : history.floor ≤ rev
  pub known : rev ≤ head history

-- ---- the invariant

-- a loaded text may forget
abbrev pub LoadedMayForget : Type 0
LoadedMayForget = (text : List ℕ) → MayForget (loaded text)

-- and so may each history that a step that may come gives
abbrev pub StepsKeepForgetting : Type 0
StepsKeepForgetting = (history : History) (step : Step) → MayForget history → MayCome history step → MayForget (after_step history step)

-- ---- what follows for dropped characters

-- a dropped character was inserted by the floor
abbrev pub DroppedIsOld : Type 0
DroppedIsOld = (history : History) → MayForget history →
    AllByRecursion (λ tagged. is_dropped history tagged ≡ true → tagged.inserted ≤ history.floor) history.characters

-- no kept revision shows it
abbrev pub DroppedIsUnseen : Type 0
DroppedIsUnseen = (history : History) (rev : ℕ) → MayForget history → IsKeptRev history rev →
    AllByRecursion (λ tagged. is_dropped history tagged ≡ true → is_visible history.revisions rev tagged ≡ false) history.characters

-- it never stands directly right of a character that came after the floor
abbrev pub DroppedStandsApart : Type 0
DroppedStandsApart = (history : History) (left : List Tagged) (tagged next : Tagged) (right : List Tagged) → MayForget history →
    history.characters ≡ left ++ tagged ∷ next ∷ right → history.floor < tagged.inserted → is_dropped history next ≡ false

-- so the run that decides an insertion place is the same with the dropped characters in the list and without them
abbrev pub RunsStay : Type 0
RunsStay = (history : History) (base gap : ℕ) → MayForget history → IsKeptRev history base →
    later_run (without_dropped history) base gap ≡ later_run history base gap

-- ---- what is left

-- each kept revision shows the same characters in what is left, in the same order
abbrev pub CharactersStay : Type 0
CharactersStay = (history : History) (rev : ℕ) → MayForget history → IsKeptRev history rev →
    visible_at (left_of history) rev ≡ map (settled history) (visible_at history rev)

-- and the same text
abbrev pub TextsStay : Type 0
TextsStay = (history : History) (rev : ℕ) → MayForget history → IsKeptRev history rev → text_at (left_of history) rev ≡ text_at history rev

-- as many characters are left as are kept
abbrev pub KeptAreLeft : Type 0
KeptAreLeft = (history : History) → length (left_of history).characters ≡ kept history

-- a character that was inserted after loading was not by a collected group, and it is deleted by none
pub record IsUncollected (history : History) (tagged : Tagged) : Type 0 where
  pub inserted : 0 < tagged.inserted → is_collected history tagged.inserted ≡ false
  pub deleted : AllByRecursion (λ rev. is_collected history rev ≡ false) tagged.deleted

-- of a character that is left nothing is collected
abbrev pub NothingCollectedIsLeft : Type 0
NothingCollectedIsLeft = (history : History) → MayForget history → AllByRecursion (IsUncollected (left_of history)) (left_of history).characters

-- so no character that is left is dropped
abbrev pub NothingDroppedIsLeft : Type 0
NothingDroppedIsLeft = (history : History) → MayForget history →
    AllByRecursion (λ tagged. is_dropped (left_of history) tagged ≡ false) (left_of history).characters

-- what is left has as many revisions
abbrev pub HeadsStay : Type 0
HeadsStay = (history : History) → MayForget history → head (left_of history) ≡ head history

-- what is left is well formed
abbrev pub LeftIsWellFormed : Type 0
LeftIsWellFormed = (history : History) → MayForget history → IsWellFormed (left_of history)

-- what is left after an edit is that edit of what was left
abbrev pub EditsGoAlong : Type 0
EditsGoAlong = (history : History) (e : PlainEdit) → MayForget history → MayEdit history e →
    left_of (edited history e) ≡ edited (left_of history) e

-- what is left after an undo is that undo of what was left
abbrev pub UndosGoAlong : Type 0
UndosGoAlong = (history : History) (groups : List ℕ) → MayForget history → MayUndoSet history groups →
    left_of (undid history groups) ≡ undid (left_of history) groups

-- what is left after a collection is what is left, once more, after that collection of what was left
abbrev pub CollectionsGoAlong : Type 0
CollectionsGoAlong = (history : History) (floor : ℕ) (groups : List ℕ) → MayForget history → MayCollect history floor groups →
    left_of (collected_at history floor groups) ≡ left_of (collected_at (left_of history) floor groups)

-- and asked of what is left, the same is collected after an entry
abbrev pub CollectionsStay : Type 0
CollectionsStay = (history : History) (retired : List ℕ) (most : ℕ) → MayForget history → history.floor ≤ most →
    collection_of (left_of history) retired most ≡ collection_of history retired most

-- of a history that never collected, and has its floor at the start, all is left
abbrev pub NothingIsLost : Type 0
NothingIsLost = (history : History) → MayForget history → history.floor ≡ 0 → history.collected ≡ [] → left_of history ≡ history

-- a change between two kept revisions keeps the same characters in what is left
abbrev pub ChangesKeepTheSame : Type 0
ChangesKeepTheSame = (history : History) (from to index : ℕ) → MayForget history → IsKeptRev history from → IsKeptRev history to →
    change_keeps (left_of history) from to index ≡ change_keeps history from to index

-- and adds the same
abbrev pub ChangesAddTheSame : Type 0
ChangesAddTheSame = (history : History) (from to gap : ℕ) → MayForget history → IsKeptRev history from → IsKeptRev history to →
    change_adds (left_of history) from to gap ≡ change_adds history from to gap

-- ---- whole runs

-- from a loaded text, over any steps that may come, one that forgets at each collection holds what is left
abbrev pub ForgettingHoldsWhatIsLeft : Type 0
ForgettingHoldsWhatIsLeft = (text : List ℕ) (steps : List Step) → MayComeInTurn (loaded text) steps →
    forgetful_steps (loaded text) steps ≡ left_of (after_steps (loaded text) steps)

-- FORGETTING CAN'T BE SEEN: it shows at each kept revision the text of one that forgot nothing
abbrev pub ForgettingIsUnseen : Type 0
ForgettingIsUnseen = (text : List ℕ) (steps : List Step) (rev : ℕ) → MayComeInTurn (loaded text) steps →
    IsKeptRev (after_steps (loaded text) steps) rev →
    text_at (forgetful_steps (loaded text) steps) rev ≡ text_at (after_steps (loaded text) steps) rev
