-- Laws: what the definitions come to, whatever the texts, histories and screens.
use Rattle.std.specs.Prelude.{◌≡◌, ℕ, ◌+◌, ◌<◌, ◌≤◌, ◌↔◌, false, List, [], ◌∷◌, ◌++◌, length, Some, None, IfSome}
use Rattle.std.specs.List.{concat}
use Rattle.plain_text.specs.declared.run.Run.{Run}
use Rattle.plain_screen.specs.declared.screen.Line.{Line}
use Rattle.plain_screen.specs.declared.screen.Op.{Op}
use Rattle.plain_screen.specs.declared.screen.Op.TheVariants.{Copy}
use Rattle.plain_text.specs.Numbers.{has}
use Rattle.plain_text.specs.Text.{place_of, gap_at}
use Rattle.plain_edits.specs.declared.rank.Rank.{Rank}
use Rattle.plain_edits.specs.Delta.{applied}
use Rattle.plain_edits.specs.History.{History, head, undone, visible_at, text_at, loaded, IsSound}
use Rattle.plain_edits.specs.Place.{insertion_place}
use Rattle.plain_edits.specs.Edits.{PlainEdit, edited, undid}
use Rattle.plain_screen.specs.Screen.{Screen, screen_after, line_count}
use Rattle.plain_screen.specs.Plan.{shown_lines, update_plan}
use Rattle.plain_text.specs.InputLines.{ended_lines, unended, lines_of}

-- an offset is the place of a gap exactly where `gap_at` gives that gap
abbrev pub GapsHavePlaces : Type 0
GapsHavePlaces = (text : List ℕ) (at gap : ℕ) → (gap_at text at ≡ Some gap) ↔ ((gap ≤ length text) × (place_of text gap ≡ at))

-- each revision of each character is there: of a loaded text, and after each step
pub record HistoriesAreSound : Type 0 where
  pub at_loading : (text : List ℕ) → IsSound (loaded text)
  pub after_edit : (history : History) (e : PlainEdit) → IsSound history → IsSound (edited history e)
  pub after_undo : (history : History) (groups : List ℕ) → IsSound history → IsSound (undid history groups)

-- an edit against the head, in a group that is not undone, makes of the head text what it keeps and adds
abbrev pub EditsApply : Type 0
EditsApply = (history : History) (e : PlainEdit) → IsSound history → e.base ≡ head history →
    has (undone history.revisions (head history)) e.group ≡ false →
    text_at (edited history e) (head history + 1) ≡ applied e.kept e.added (text_at history (head history))

-- what a revision shows never changes
pub record RevisionsStay : Type 0 where
  pub after_edit : (history : History) (e : PlainEdit) (rev : ℕ) → IsSound history → rev ≤ head history →
      text_at (edited history e) rev ≡ text_at history rev
  pub after_undo : (history : History) (groups : List ℕ) (rev : ℕ) → IsSound history → rev ≤ head history →
      text_at (undid history groups) rev ≡ text_at history rev

-- undoing a set, and then the set that was undone before, shows the former text
abbrev pub UndoGoesBack : Type 0
UndoGoesBack = (history : History) (groups : List ℕ) → IsSound history →
    text_at (undid (undid history groups) (undone history.revisions (head history))) (head history + 2) ≡ text_at history (head history)

-- the places of two gaps differ: they stand in the order of the gaps
abbrev pub PlacesRise : Type 0
PlacesRise = (history : History) (base : ℕ) (rank : Rank) (gap later : ℕ) → gap < later → later ≤ length (visible_at history base) →
    insertion_place history base rank gap < insertion_place history base rank later

-- one copy of a whole screen leaves it
abbrev pub WholeCopyStays : Type 0
WholeCopyStays = (screen : Screen) → screen_after screen (Copy (length screen) None ∷ []) ≡ Some screen

-- operations make as many lines as they say
abbrev pub LinesAddUp : Type 0
LinesAddUp = (screen : Screen) (ops : List Op) → IfSome (screen_after screen ops) (λ lines. length lines ≡ line_count ops)

-- where no line has a partner, the plan shows the lines of the window and the request on whatever screen there was
abbrev pub PlansShow : Type 0
PlansShow = (window request : Run) (lines : List Line) (screen : Screen) →
    screen_after screen (update_plan window request lines []) ≡ Some (shown_lines window request lines)

-- the lines of an input, one after the other, are the input; and they may be cut in any pieces
pub record InputsAreLines : Type 0 where
  pub whole : (bytes : List ℕ) → concat (lines_of bytes) ≡ bytes
  pub ended : (begun front back : List ℕ) →
      ended_lines begun (front ++ back) ≡ ended_lines begun front ++ ended_lines (unended begun front) back
  pub rest : (begun front back : List ℕ) → unended begun (front ++ back) ≡ unended (unended begun front) back
