-- What a session in memory is: its journal, its sink, its shelf and its documents.
use Rattle.session_step.specs.declared.terms.Terms.{Terms}
use Rattle.std.specs.Prelude.{ℕ, List, Option, Some, None}
use Rattle.xi_plain.specs.declared.entry.Entry.{Entry}
use Rattle.doc_session.specs.InMemory.{Doc}
use Rattle.doc_session.specs.Stands.{DocStandsFor}
use Rattle.session_step.specs.Session.{OpenView, piece_of, session_of}
use Rattle.core_session.specs.declared.session.Core.{Core}

-- THE JOURNAL of a session
abbrev pub journal_of : {K H : Type 0} → Core K H → List Entry
journal_of core = core.journal.items

-- its sink
abbrev pub sink_of : {K H : Type 0} → Core K H → K
sink_of core = core.sink

-- and its shelf
abbrev pub shelf_of : {K H : Type 0} → Core K H → H
shelf_of core = core.shelf

-- what it was made with
abbrev pub terms_of : {K H : Type 0} → Core K H → Terms
terms_of core = core.terms

-- the piece that an entry writes after these entries
abbrev pub piece_after : Terms → List Entry → Entry → List ℕ
piece_after terms journal entry = piece_of (session_of terms journal) entry

-- the document in memory stands for that of the view
abbrev pub IsDocOf : Doc → Option OpenView → Type 0
IsDocOf doc None = ⊥
IsDocOf doc (Some view) = DocStandsFor doc view.document
