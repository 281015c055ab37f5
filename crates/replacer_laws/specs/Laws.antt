-- The laws of a replacer, on data alone.
use Rattle.std.specs.Prelude.{◌≡◌, ◌≢◌, ◌^◌, ◌≤◌, ℕ, true, false, Bool, List, [], ◌∷◌, ◌++◌, length, None, Ok, ⊤}
use Rattle.std.specs.List.{AllByRecursion, count_by}
use Rattle.std.specs.Str.{bytes_eq, encode_utf8_all}
use Rattle.plain_text.specs.declared.run.Run.{Run}
use Rattle.plain_edits.specs.Delta.{Fits}
use Rattle.xi_plain.specs.declared.command.Act.{Act}
use Rattle.xi_plain.specs.declared.command.Act.TheVariants.{PluginEdit}
use Rattle.xi_plain.specs.declared.command.Command.{Command}
use Rattle.regex_find.specs.Spots.{AreSpots}
use Rattle.regex_find.specs.Replaced.{replaced}
use Rattle.plugin_side.specs.declared.heard.Heard.{Heard}
use Rattle.plugin_mirror.specs.declared.leaf.Leaf.{Leaf}
use Rattle.plugin_mirror.specs.Leaf.{text_by, is_of}
use Rattle.plugin_mirror.specs.Book.{taken}
use Rattle.plugin_mirror.specs.Teller.{Tales}
use Rattle.plugin_mirror.specs.Laws.{Event, Telling, start, AreSteps}
use Rattle.plugin_replacer.specs.Replacing.{Replacing, Course, is_one_of, edit_ask, replacing_start, unless_fault, line_course, course}

-- ---- edits are true

-- where the act is an edit, it fits the teller's text of the revision that it names, and leads to that text with each spot replaced
abbrev pub ReplacesTruly : Tales → (List ℕ → List Run) → List ℕ → Act → Type 0
ReplacesTruly tales found new (PluginEdit view rev delta priority after_cursor author named) =
    Fits (tales view rev) delta × (text_by (tales view rev) delta ≡ replaced (tales view rev) (found (tales view rev)) new)
ReplacesTruly tales found new act = ⊤

-- no fault ended the course, it left this book's texts, and each of its edits is true
pub record GoesTruly (tales : Tales) (found : List ℕ → List Run) (new : List ℕ) (now : Telling) (gone : Course) : Type 0 where
  pub goes_on : gone.fault ≡ None
  pub book : gone.after.book ≡ now.book
  pub edits : AllByRecursion (λ command. ReplacesTruly tales found new command.act) gone.asks

-- EDITS ARE TRUE: over the lines of a teller no fault ends the replacer, and each edit fits the text of the revision that it names and
-- leads to that text with each spot replaced
abbrev pub EditsAreTrue : Type 0
EditsAreTrue =
    (tales : Tales) (found : List ℕ → List Run) (new : List ℕ) (events : List Event) (now : Telling) →
    ((text : List ℕ) → AreSpots (length text) 0 (found text)) → AreSteps tales (start (2 ^ 20)) events now →
    GoesTruly tales found new now (course found new replacing_start events)

-- ---- no view is edited twice

-- whether the act edits the view
abbrev pub edits_view : List ℕ → Act → Bool
edits_view view (PluginEdit other rev delta priority after_cursor author named) = bytes_eq (encode_utf8_all other) (encode_utf8_all view)
edits_view view act = false

-- how many of the commands edit the view
abbrev pub edits_in : List ℕ → List Command → ℕ
edits_in view commands = count_by (λ command. edits_view view command.act) commands

-- NO VIEW IS EDITED TWICE, whatever the lines are
abbrev pub EditsComeOnce : Type 0
EditsComeOnce =
    (found : List ℕ → List Run) (new : List ℕ) (events : List Event) (view : List ℕ) → edits_in view (course found new replacing_start events).asks ≤ 1

-- ---- whole texts are searched

-- the page's view was searched, where the page is whole
abbrev pub IsLookedAt : List (List ℕ) → Leaf → Type 0
IsLookedAt searched leaf = leaf.page.whole ≡ true → is_one_of searched leaf.view ≡ true

-- EACH WHOLE TEXT WAS SEARCHED, after any lines
abbrev pub WholeTextsAreSearched : Type 0
WholeTextsAreSearched =
    (found : List ℕ → List Run) (new : List ℕ) (events : List Event) →
    let after = (course found new replacing_start events).after in
    AllByRecursion (IsLookedAt after.searched) after.book.leaves

-- EACH TEXT IS EDITED: where the first page of a view is whole after a line, the view was not searched before, and its text has a spot,
-- its edit is asked
abbrev pub EachTextIsEdited : Type 0
EachTextIsEdited =
    (found : List ℕ → List Run) (new : List ℕ) (state : Replacing) (heard : Heard) (front back : List Leaf) (leaf : Leaf) →
    taken heard state.book.leaves ≡ Ok (front ++ leaf ∷ back) → AllByRecursion (λ other. is_of leaf.view other ≡ false) front →
    leaf.page.whole ≡ true → is_one_of state.searched leaf.view ≡ false → found leaf.page.text ≢ [] →
    (before after : List Command) × ((line_course found new state heard).asks ≡ before ++ edit_ask leaf (found leaf.page.text) new ∷ after)

-- the command is the edit of one of these pages, which is whole, of a view that was not searched before, and has a spot in its text
pub record EditsNewText (found : List ℕ → List Run) (new : List ℕ) (searched : List (List ℕ)) (leaves : List Leaf) (command : Command) : Type 0 where
  pub front : List Leaf
  pub leaf : Leaf
  pub back : List Leaf
  pub stands : leaves ≡ front ++ leaf ∷ back
  pub whole : leaf.page.whole ≡ true
  pub first : is_one_of searched leaf.view ≡ false
  pub some : found leaf.page.text ≢ []
  pub is : command ≡ edit_ask leaf (found leaf.page.text) new

-- NO OTHER TEXT IS EDITED: all that a line asks is the edit of a page that is whole after it, of a view that was not searched before
abbrev pub NoOtherTextIsEdited : Type 0
NoOtherTextIsEdited =
    (found : List ℕ → List Run) (new : List ℕ) (state : Replacing) (heard : Heard) (leaves : List Leaf) → taken heard state.book.leaves ≡ Ok leaves →
    AllByRecursion (EditsNewText found new state.searched leaves) (line_course found new state heard).asks

-- ---- turns

-- TURNS FOLLOW EACH OTHER: events come to what the first of them come to, and behind it, unless a fault ended these, to what the others
-- come to from there
abbrev pub TurnsFollow : Type 0
TurnsFollow =
    (found : List ℕ → List Run) (new : List ℕ) (state : Replacing) (first later : List Event) →
    let begun = course found new state first in
    course found new state (first ++ later) ≡ unless_fault begun.fault begun (course found new begun.after later)
