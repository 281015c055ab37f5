-- What a document in memory stands for.
use Rattle.std.specs.Prelude.{◌≡◌, ◌≢◌, ℕ, List, [], length}
use Rattle.plain_text.specs.declared.selection.Region.{Region}
use Rattle.selection_core.specs.Mapped.{AreWithin}
use Rattle.selection_core.specs.Selection.{IsSelection}
use Rattle.doc_layout.specs.Told.{screen_of}
use Rattle.doc_text.specs.Stands.{TextStandsFor}
use Rattle.doc_text.specs.Writing.{head_text}
use Rattle.doc_session.specs.InMemory.{Doc}
use Rattle.doc_session.specs.Document.{Document, layout_of}

-- the regions of a document: there is one at least, they are sorted, no two meet, and they lie in its text
pub record AreRegionsOf (text : List ℕ) (regions : List Region) : Type 0 where
  pub some : regions ≢ []
  pub sound : IsSelection regions
  pub inside : AreWithin (length text) regions

-- the view of a document is of its head text
abbrev pub IsOfHead : Document → Type 0
IsOfHead document = document.view.text ≡ head_text document.text

-- the screen of a document is as the last update left it, or empty where there was none
abbrev pub IsLastTold : Document → Type 0
IsLastTold document = document.screen ≡ screen_of document.view.shown (layout_of document)

-- THE DOCUMENT IN MEMORY STANDS FOR THE PLAIN ONE: so does its text, and they have the same view, which is of the head text; and the front
-- end's screen is as the last update left it
pub record DocStandsFor (doc : Doc) (plain : Document) : Type 0 where
  pub text : TextStandsFor doc.text plain.text
  pub view : doc.view ≡ plain.view
  pub of_head : IsOfHead plain
  pub regions_are : AreRegionsOf plain.view.text plain.view.regions
  pub screen : IsLastTold plain
