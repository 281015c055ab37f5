-- What the parts of a document in memory keep.
use Rattle.std.specs.Prelude.{◌≡◌, length}
use Rattle.span_styles.specs.Layers.{AreOver}
use Rattle.doc_text.specs.InMemory.{text_in}
use Rattle.doc_session.specs.InMemory.{Doc}

-- THE INVARIANT of a document in memory: its view is of the head text, and for each of its plugins there is a layer over that
pub record IsKept (doc : Doc) : Type 0 where
  pub shown_is : doc.view.text ≡ text_in doc.text
  pub over : AreOver (length doc.view.text) doc.view.layers
  pub as_many : length doc.view.layers ≡ length doc.text.sessions
