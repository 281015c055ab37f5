-- What contracts see of a document in memory.
use Rattle.std.specs.Prelude.{Bool, not, ◌&&◌}
use Rattle.std.specs.Option.{is_some}
use Rattle.doc_layout.specs.Told.{no_request}
use Rattle.doc_text.specs.InMemory.{TextState}
use Rattle.doc_view.specs.Told.{has_asked}
use Rattle.doc_view.specs.View.{View}

-- its text, and its view on the head text, with its configuration
pub record Doc : Type 0 where
  pub text : TextState
  pub view : View

-- whether it rests: no run of typing is open, and the front end has the lines of the window
abbrev pub is_resting : Doc → Bool
is_resting doc = not (is_some doc.text.typing) && has_asked doc.view no_request
