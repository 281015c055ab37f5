-- THE SIX NUMBERS of a storm, as its journal defines them.
use Rattle.std.specs.Prelude.{◌≡◌, ℕ, List, length, codes, Some}
use Rattle.xi_plain.specs.declared.entry.Entry.{Entry}
use Rattle.plain_edits.specs.History.{head}
use Rattle.plain_edits.specs.Collection.{kept}
use Rattle.plain_screen.specs.Screen.{Screen}
use Rattle.doc_text.specs.Writing.{head_text}
use Rattle.doc_session.specs.Document.{layout_of}
use Rattle.session_step.specs.declared.terms.Terms.{Terms}
use Rattle.session_step.specs.Session.{OpenView, named_view, views_of}
use Rattle.core_session.specs.Shows.{rebuilt}
use Rattle.screen_flags.specs.Flags.{valid_lines}
use Rattle.storm_lines.specs.declared.summary.Summary.{Summary}

-- the id of the view that the lines of a storm edit
abbrev pub storm_view : List ℕ
storm_view = codes "view-id-1"

-- THE SUMMARY of a journal and of the bytes that were written: how many entries there are; of the document of the view the number of its head, the
-- characters of the head text, those that some revision can still show, and the lines of the layout; and how many lines are valid of the
-- screen that is rebuilt from the bytes
pub record IsSummaryOf (terms : Terms) (journal : List Entry) (bytes : List ℕ) (summary : Summary) : Type 0 where
  pub view : OpenView
  pub is_open : named_view (views_of terms journal) storm_view ≡ Some view
  pub entries : summary.entries ≡ length journal
  pub revision : summary.revision ≡ head view.document.text.history
  pub characters : summary.characters ≡ length (head_text view.document.text)
  pub kept : summary.kept ≡ kept view.document.text.history
  pub lines : summary.lines ≡ length (layout_of view.document)
  pub valid : (screen : Screen) → rebuilt storm_view bytes ≡ Some screen → summary.valid ≡ valid_lines screen
