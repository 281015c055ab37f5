-- THE VIEWS THAT ARE OPEN, and what steps make of them.
use Rattle.std.specs.Prelude.{ℕ, if◌then◌else◌, List, [], ◌∷◌, ◌++◌, map, Option, Some, None}
use Rattle.std.specs.Str.{bytes_eq, encode_utf8_all}
use Rattle.xi_plain.specs.declared.config.Notice.{Notice}
use Rattle.plain_screen.specs.declared.screen.Update.{Update}
use Rattle.view_update.specs.declared.note.ViewUpdate.{ViewUpdate}
use Rattle.plugin_wire.specs.Told.{Told, changed}
use Rattle.doc_session.specs.Document.{Document}
use Rattle.doc_session.specs.Step.{EventStep}

-- A VIEW that is open: its id, which is of ASCII, and its document
pub record OpenView : Type 0 where
  pub id : List ℕ
  pub document : Document

-- the view with this id, where it is open
abbrev pub view_of : List OpenView → List ℕ → Option OpenView
view_of [] id = None
view_of (view ∷ views) id = if bytes_eq id view.id then Some view else view_of views id

-- the view that a text names, in bytes, where it is open
abbrev pub named_view : List OpenView → List ℕ → Option OpenView
named_view views name = view_of views (encode_utf8_all name)

-- the update, as it is told of the view with this id, where there is one
abbrev pub updates_for : List ℕ → Option Update → List ViewUpdate
updates_for id None = []
updates_for id (Some update) = record { view = id; update = update } ∷ []

-- the views after each of them took its step, and the updates of these steps in the order of the views
abbrev pub stepped : (OpenView → EventStep) → List OpenView → List OpenView
stepped steps views = map (λ (view : OpenView). record view { document = (steps view).document }) views

abbrev pub told : (OpenView → EventStep) → List OpenView → List ViewUpdate
told steps [] = []
told steps (view ∷ views) = updates_for view.id (steps view).update ++ told steps views

-- the change of the view with this id, as plugins are told it, where there is one. (A document does not know the id.)
abbrev pub news_for : List ℕ → Option Notice → List Told
news_for id None = []
news_for id (Some notice) = changed (record notice { view = id }) ∷ []
