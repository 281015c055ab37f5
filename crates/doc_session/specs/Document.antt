-- THE PLAIN DOCUMENT: a text, and a view of it.
use Rattle.std.specs.Prelude.{ℕ, List, [], ◌∷◌, length, None}
use Rattle.plain_text.specs.declared.run.Run.{Run}
use Rattle.xi_plain.specs.declared.config.Config.{Config}
use Rattle.plain_screen.specs.declared.screen.Line.{Line}
use Rattle.selection_core.specs.Selection.{caret_of}
use Rattle.span_styles.specs.Layers.{new_layers}
pub use Rattle.doc_layout.specs.Told.{no_request}
use Rattle.plain_screen.specs.Screen.{Screen}
use Rattle.doc_text.specs.Writing.{Writing, loaded_text}
use Rattle.doc_view.specs.Search.{no_search}
use Rattle.doc_view.specs.View.{View, layout_in}

-- a document: its text, its view on the head text, and the screen that its front end has
pub record Document : Type 0 where
  pub text : Writing
  pub view : View
  pub screen : Screen

-- the layout of the view
abbrev pub layout_of : Document → List Line
layout_of document = layout_in document.view

-- the window of a view that was just opened
abbrev pub first_window : Run
first_window = record { start = 0; end = 10 }

-- the view of a text that was just opened, with so many plugins: one caret at the start, no styles, no search, and its front end was told
-- nothing
abbrev pub opened_view : List ℕ → ℕ → Config → View
opened_view text plugins config = record {
  text = text;
  config = config;
  regions = caret_of 0 ∷ [];
  layers = new_layers plugins (length text);
  window = first_window;
  query = no_search;
  shown = None;
}

-- a document on a text that was just loaded, with so many plugins: the screen of its front end is empty
abbrev pub loaded_document : List ℕ → ℕ → ℕ → Config → Document
loaded_document text plugins limit config = record {
  text = loaded_text text plugins limit;
  view = opened_view text plugins config;
  screen = [];
}
