-- WHAT A REPLACER DOES: it keeps a copy of each text, and sends one edit as soon as a text is whole, which replaces all spots in it.
use Rattle.std.specs.Prelude.{ℕ, ◌^◌, Bool, false, not, ◌&&◌, if◌then◌else◌, List, [], ◌∷◌, ◌++◌, map, codes, Option, Some, None, Result, Ok, Err}
use Rattle.std.specs.List.{list_any}
use Rattle.std.specs.Str.{bytes_eq, encode_utf8_all}
use Rattle.plain_text.specs.declared.run.Run.{Run}
use Rattle.plain_edits.specs.declared.delta.Delta.{Delta}
use Rattle.plain_edits.specs.Delta.{is_in_runs}
use Rattle.xi_plain.specs.declared.command.Id.TheVariants.{NoId}
use Rattle.xi_plain.specs.declared.command.Act.TheVariants.{PluginEdit}
use Rattle.xi_plain.specs.declared.command.Command.{Command}
use Rattle.delta_core.specs.Elements.{delta_by}
use Rattle.regex_find.specs.Replaced.{is_start}
use Rattle.plugin_side.specs.declared.heard.Heard.{Heard}
use Rattle.plugin_side.specs.Heard.{heard_in}
use Rattle.plugin_mirror.specs.declared.fault.BookFault.{BookFault}
use Rattle.plugin_mirror.specs.declared.leaf.Leaf.{Leaf}
use Rattle.plugin_mirror.specs.Book.{Pages, with_leaves, taken}
use Rattle.plugin_mirror.specs.Asks.{asked, after_asks}
use Rattle.plugin_mirror.specs.Laws.{Event, line, asking}

-- how far it is: its book, and the views whose texts it searched
pub record Replacing : Type 0 where
  pub book : Pages
  pub searched : List (List ℕ)

-- at first; its book asks for 2^20 bytes at a time
abbrev pub replacing_start : Replacing
replacing_start = record { book = record { piece = 2 ^ 20; next = 0; leaves = [] }; searched = [] }

-- ---- the edit of a text

-- what stands in a run is dropped, and the new text is added where a run starts
abbrev pub replacement_delta : List ℕ → List Run → List ℕ → Delta
replacement_delta text runs new = delta_by (λ index. not (is_in_runs runs index)) (λ gap. if is_start runs gap then new else []) text

-- the edit that replaces these runs of a page's text, at the revision of the page
abbrev pub edit_ask : Leaf → List Run → List ℕ → Command
edit_ask leaf runs new = record {
  id = NoId;
  act = PluginEdit leaf.view leaf.page.rev (replacement_delta leaf.page.text runs new) 0 false (codes "replacer") None;
}

-- the same, unless there is no run
abbrev pub edits_by : Leaf → List Run → List ℕ → List Command
edits_by leaf [] new = []
edits_by leaf (run ∷ runs) new = edit_ask leaf (run ∷ runs) new ∷ []

-- ---- which texts are searched

-- the view is one of these
abbrev pub is_one_of : List (List ℕ) → List ℕ → Bool
is_one_of views view = list_any (λ other. bytes_eq (encode_utf8_all other) (encode_utf8_all view)) views

-- the page is whole, and its view was not searched
abbrev pub is_to_search : List (List ℕ) → Leaf → Bool
is_to_search searched leaf = leaf.page.whole && not (is_one_of searched leaf.view)

-- the views that were searched, with that of the page where it is due
abbrev pub searched_with : List (List ℕ) → Leaf → List (List ℕ)
searched_with searched leaf = if is_to_search searched leaf then searched ++ leaf.view ∷ [] else searched

-- and with those of pages, one after the other
abbrev pub searched_all : List (List ℕ) → List Leaf → List (List ℕ)
searched_all searched [] = searched
searched_all searched (leaf ∷ leaves) = searched_all (searched_with searched leaf) leaves

-- ---- what it comes to

-- what something comes to: how far the replacer is then, what is asked, and the fault that ended it, if one did
pub record Course : Type 0 where
  pub after : Replacing
  pub asks : List Command
  pub fault : Option BookFault

-- nothing changes, and nothing is asked
abbrev pub nothing_comes : Replacing → Course
nothing_comes state = record { after = state; asks = []; fault = None }

-- a fault ends it here
abbrev pub ended : Replacing → BookFault → Course
ended state fault = record { after = state; asks = []; fault = Some fault }

-- the course with these asks before its own
abbrev pub behind : List Command → Course → Course
behind asks course = record { after = course.after; asks = asks ++ course.asks; fault = course.fault }

-- the first of two, and behind it the other where no fault ended the first
abbrev pub unless_fault : Option BookFault → Course → Course → Course
unless_fault (Some fault) first next = first
unless_fault None first next = behind first.asks next

-- the book asks
abbrev pub book_asks : Replacing → Course
book_asks state = record {
  after = record { book = after_asks state.book; searched = state.searched };
  asks = asked state.book;
  fault = None;
}

-- the events of a turn: its lines, and then the book asks
abbrev pub events_of : List (List ℕ) → List Event
events_of lines = map (λ given. line (heard_in given)) lines ++ asking ∷ []

module _ (found : List ℕ → List Run) (new : List ℕ) where
  -- what is asked for a page: its edit, where it is due and has a spot
  abbrev pub edits_of : List (List ℕ) → Leaf → List Command
  edits_of searched leaf = if is_to_search searched leaf then edits_by leaf (found leaf.page.text) new else []

  -- and for pages, one after the other
  abbrev pub edits : List (List ℕ) → List Leaf → List Command
  edits searched [] = []
  edits searched (leaf ∷ leaves) = edits_of searched leaf ++ edits (searched_with searched leaf) leaves

  -- the pages that are due are searched
  abbrev pub looked_over : Replacing → List Leaf → Course
  looked_over state leaves = record {
    after = record { book = with_leaves state.book leaves; searched = searched_all state.searched leaves };
    asks = edits state.searched leaves;
    fault = None;
  }

  -- the same, where the book took a line
  abbrev pub looked_if : Replacing → Result (List Leaf) BookFault → Course
  looked_if state (Ok leaves) = looked_over state leaves
  looked_if state (Err fault) = ended state fault

  -- what a line comes to
  abbrev pub line_course : Replacing → Heard → Course
  line_course state heard = looked_if state (taken heard state.book.leaves)

  -- what an event comes to
  abbrev pub event_course : Replacing → Event → Course
  event_course state (line heard) = line_course state heard
  event_course state asking = book_asks state

  -- WHAT EVENTS COME TO, one after the other, up to the first fault
  abbrev pub course : Replacing → List Event → Course
  course state [] = nothing_comes state
  course state (event ∷ events) =
      let first = event_course state event in
      unless_fault first.fault first (course first.after events)

  -- WHAT A TURN COMES TO
  abbrev pub turn_course : Replacing → List (List ℕ) → Course
  turn_course state lines = course state (events_of lines)
