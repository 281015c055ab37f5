-- LINES THAT LEAVE THE TEXT AS IT IS: what a view shows, what is looked for, and how the text is laid out and edited.
use Rattle.std.specs.Prelude.{◌≡◌, ℕ, ◌<◌, Bool, true, false, map, Option, Some, None, Result, Ok, Err, ⊤}
use Rattle.plain_text.specs.declared.run.Run.{Run}
use Rattle.xi_plain.specs.declared.command.EditAct.{EditAct}
use Rattle.xi_plain.specs.declared.command.EditAct.TheVariants.{Copy, Cut, Find, FindNext, FindPrevious, RequestLines, Scroll, SelectAll}
use Rattle.edit_ops.specs.Regions.{without_goal}
use Rattle.doc_layout.specs.Told.{no_request}
use Rattle.doc_view.specs.Search.{next_found, previous_found, search_for}
use Rattle.doc_view.specs.View.{View, config_ticks}
use Rattle.doc_view.specs.declared.looking.Scrolling.{Scrolling}
use Rattle.doc_view.specs.declared.looking.Scrolling.TheVariants.{Nowhere, ToCaret}
use Rattle.doc_view.specs.declared.looking.Viewing.{Viewing}
use Rattle.doc_view.specs.declared.looking.Viewing.TheVariants.{Layout, Lines, Next, Other, Previous, Seek, Window}

-- WHAT SUCH A LINE MAKES OF A VIEW: it shows other lines, requests lines, looks for other characters, selects the next match or the previous
-- one, or is laid out and edited so. The goals go, but where a match is looked for and there is none, where the text is laid out, and at
-- a line that is no command
abbrev pub viewed : View → Viewing → View
viewed view (Window lines) = record view { regions = map without_goal view.regions; window = lines }
viewed view (Lines lines) = record view { regions = map without_goal view.regions }
viewed view (Seek chars case_counts) =
    record view { regions = map without_goal view.regions; query = search_for view.query chars case_counts }
viewed view (Next wrap_around) = record view { regions = next_found view.text view.query wrap_around view.regions }
viewed view (Previous wrap_around) = record view { regions = previous_found view.text view.query wrap_around view.regions }
viewed view (Layout config) = record view { config = config }
viewed view Other = view

-- the lines that it requests, and whether the front end scrolls to the last caret, where that stands elsewhere then: not where nothing is
-- shown or sought
abbrev pub viewed_lines : Viewing → Run
viewed_lines (Lines lines) = lines
viewed_lines viewing = no_request

abbrev pub scrolls_at : Viewing → Bool
scrolls_at (Layout config) = false
scrolls_at Other = false
scrolls_at viewing = true

-- THE COMMANDS THAT ONLY LOOK
abbrev pub viewing_of : EditAct → Option Viewing
viewing_of (Scroll first last) = Some (Window (record { start = first; end = last }))
viewing_of (RequestLines first last) = Some (Lines (record { start = first; end = last }))
viewing_of (Find chars case_sensitive regex whole_words) = Some (Seek chars case_sensitive)
viewing_of (FindNext wrap_around allow_same) = Some (Next wrap_around)
viewing_of (FindPrevious wrap_around allow_same) = Some (Previous wrap_around)
viewing_of act = None

-- a configuration has a tab width
abbrev pub MayView : Viewing → Type 0
MayView (Layout config) = 0 < config.tab
MayView viewing = ⊤

-- a command as one that only looks, or the same command
abbrev pub IsViewingOf : EditAct → Result Viewing EditAct → Type 0
IsViewingOf act (Ok viewing) = viewing_of act ≡ Some viewing
IsViewingOf act (Err same) = (viewing_of act ≡ None) × (act ≡ same)

-- at a line that leaves the text as it is no step is taken, but where another configuration cuts the text otherwise
abbrev pub viewing_ticks : View → Viewing → ℕ
viewing_ticks view (Layout config) = config_ticks view config
viewing_ticks view viewing = 0

-- ---- what all commands say to the front end

-- whether a command copies what is selected
abbrev pub copies : EditAct → Bool
copies Cut = true
copies Copy = true
copies act = false

-- whether it scrolls to the last caret where that stands elsewhere then: one that selects all does not
abbrev pub scrolls : EditAct → Bool
scrolls SelectAll = false
scrolls act = true

-- whether the front end scrolls to the last caret, where that stands elsewhere then
abbrev pub is_scrolling : Scrolling → Bool
is_scrolling ToCaret = true
is_scrolling Nowhere = false
