-- THE VIEWS IN MEMORY: what stands for the views of a plain session, and what a command comes to beside them.
use Rattle.doc_session.specs.Document.{Document}
use Rattle.doc_session.specs.InMemory.{Doc}
use Rattle.doc_session.specs.Stands.{DocStandsFor}
use Rattle.entry_lines.specs.Notices.{AreNoticeTexts}
use Rattle.entry_lines.specs.Piece.{AreLinesOf, UpdatesReadBack}
use Rattle.entry_lines.specs.ViewId.{view_id_of}
use Rattle.plain_edits.specs.History.{head}
use Rattle.session_step.specs.Session.{OpenView, Session, messages, outcome}
use Rattle.session_step.specs.News.{front_news}
use Rattle.session_step.specs.declared.command.CommandEffects.{CommandEffects}
use Rattle.session_step.specs.declared.given.Given.{Given}
use Rattle.session_step.specs.declared.opened.Opened.{Opened}
use Rattle.std.specs.Arc.{arc_value}
use Rattle.std.specs.List.{AllByRecursion}
use Rattle.std.specs.Prelude.{◌≡◌, ℕ, ◌+◌, ◌<◌, ◌≤◌, true, false, List, [], ◌∷◌, ◌++◌, length, Option, Some, ⊤, ◌^◌, ◌-◌, None}
use Rattle.std.specs.Str.{bytes_eq, encode_utf8_all}
use Rattle.xi_plain.specs.Journal.{closes}
use Rattle.xi_plain.specs.declared.command.Act.{Act}
use Rattle.xi_plain.specs.declared.command.Command.{Command}

-- a line of the front end asks so: it closes nothing
abbrev pub IsOfLine : Act → Type 0
IsOfLine act = closes act ≡ false

-- the document may take one more edit
abbrev pub TakesEvents : Doc → Type 0
TakesEvents doc = head doc.text.engine.revisions < 2 ^ 63 - 1

-- each document takes events, and stands for a plain one
abbrev pub MayBeAsked : List Opened → Type 0
MayBeAsked held = AllByRecursion (λ (kept : Opened). TakesEvents (arc_value kept.doc) × ∥ ((plain : Document) × DocStandsFor (arc_value kept.doc) plain) ∥₁) held

-- each of these is the number of one of so many plugins
abbrev pub AreOfPlugins : ℕ → List ℕ → Type 0
AreOfPlugins plugins callers = AllByRecursion (λ caller. (1 ≤ caller) × (caller ≤ plugins)) callers

-- the plugin with this number has a session in the document, which may have ended
abbrev pub HasSession : ℕ → Doc → Type 0
HasSession caller doc = (1 ≤ caller) × (caller ≤ length doc.text.sessions)

-- and in each document
abbrev pub HaveSessions : ℕ → List Opened → Type 0
HaveSessions caller held = AllByRecursion (λ (kept : Opened). HasSession caller (arc_value kept.doc)) held

-- what is held of a view is its id, and a document that stands for its own
pub record ServesView (held : Opened) (view : OpenView) : Type 0 where
  pub id : held.id ≡ view.id
  pub stands : DocStandsFor (arc_value held.doc) view.document

-- a view with this id and this document was put behind those
pub record IsPutBehind (old : List Opened) (id : List ℕ) (doc : Doc) (new : List Opened) : Type 0 where
  pub put : Opened
  pub behind : new ≡ old ++ put ∷ []
  pub id_is : put.id ≡ id
  pub doc_is : arc_value put.doc ≡ doc

-- what is held is of the views that are open, in their order
abbrev pub Stands : List Opened → List OpenView → Type 0
Stands [] [] = ⊤
Stands [] (view ∷ views) = ⊥
Stands (kept ∷ held) [] = ⊥
Stands (kept ∷ held) (view ∷ views) = ServesView kept view × Stands held views

-- ids are of ASCII, and no two views have one
abbrev pub HasApart : List OpenView → Type 0
HasApart [] = ⊤
HasApart (view ∷ views) =
    (encode_utf8_all view.id ≡ view.id) × AllByRecursion (λ (later : OpenView). bytes_eq view.id later.id ≡ false) views × HasApart views

-- what is held is of these views, whose ids tell them apart
abbrev pub AreThere : List Opened → List OpenView → Type 0
AreThere held views = Stands held views × HasApart views

-- the id is of none of so many views that were opened
abbrev pub IsNotGiven : ℕ → List ℕ → Type 0
IsNotGiven opened id = (n : ℕ) → n < opened → bytes_eq (view_id_of (n + 1)) id ≡ false

-- the view stands there
pub record IsFoundAt (views : List OpenView) (at : ℕ) (view : OpenView) : Type 0 where
  pub front : List OpenView
  pub back : List OpenView
  pub cut : views ≡ front ++ view ∷ back
  pub place : length front ≡ at

-- none of these has the name
abbrev pub HaveOtherNames : List ℕ → List Opened → Type 0
HaveOtherNames name held = AllByRecursion (λ (kept : Opened). bytes_eq (encode_utf8_all name) (encode_utf8_all kept.id) ≡ false) held

-- the first that has the name stands there
pub record IsFirstNamed (held : List Opened) (name : List ℕ) (at : ℕ) : Type 0 where
  pub front : List Opened
  pub kept : Opened
  pub back : List Opened
  pub cut : held ≡ front ++ kept ∷ back
  pub place : length front ≡ at
  pub others : HaveOtherNames name front
  pub named : bytes_eq (encode_utf8_all name) (encode_utf8_all kept.id) ≡ true

-- where the view with this name stands, if it is there
abbrev pub IsPlaceOf : List Opened → List ℕ → Option ℕ → Type 0
IsPlaceOf held name None = HaveOtherNames name held
IsPlaceOf held name (Some at) = IsFirstNamed held name at

-- what a command comes to that was given this: the lines of its piece, whose updates read back, and the views after it
pub record IsDone (session : Session) (command : Command) (gave : Given) (piece : List ℕ) (held : List Opened) : Type 0 where
  pub lines : AreLinesOf (messages session command gave) (encode_utf8_all piece)
  pub reads_back : UpdatesReadBack (outcome session command.act gave).updates
  pub stands : Stands held (outcome session command.act gave).views

-- WHAT A COMMAND CAME TO: what it comes to in the session, and its lines tell plugins the news of it
pub record IsDoneWithNews (session : Session) (command : Command) (gave : Given) (made : CommandEffects) : Type 0 where
  pub done : IsDone session command gave made.piece made.held
  pub told : AreNoticeTexts (front_news session command.act gave) made.told
