-- Laws of undo, redo, collection, styles, saves and readings, over the steps of a plain document.
use Rattle.std.specs.Prelude.{◌≡◌, ◌≢◌, ℕ, zero, suc, ◌+◌, ◌<◌, ◌≤◌, ◌==◌, Bool, true, false, List, [], ◌∷◌, length, map, take, Some, None, ⊤}
use Rattle.std.specs.List.{concat, list_any, AllByRecursion}
use Rattle.plain_text.specs.Numbers.{has, with_number}
use Rattle.plain_text.specs.Text.{byte_len}
use Rattle.plain_edits.specs.History.{History, head, text_at}
use Rattle.plain_edits.specs.Undo.{undone_now}
use Rattle.xi_plain.specs.declared.command.EditAct.TheVariants.{Insert, Undo, Redo}
use Rattle.xi_plain.specs.declared.config.Config.{Config}
use Rattle.span_styles.specs.Layers.{AreOver}
use Rattle.stale_spans.specs.Asked.{moved_layers}
use Rattle.undo_groups.specs.Groups.{Groups, after_opening, next_redo, next_undo}
use Rattle.edit_groups.specs.declared.typing.Kind.TheVariants as Kinds
use Rattle.edit_groups.specs.Typing.{run_on}
use Rattle.doc_session.specs.declared.event.Event.{Event}
use Rattle.doc_session.specs.declared.event.Body.{Body}
use Rattle.doc_session.specs.declared.event.Body.TheVariants.{Chunk, Null}
use Rattle.doc_session.specs.declared.event.Event.TheVariants.{Ack, Config as Configure, Count, Edit, Ended, Front, Other, Read, Saved, Spans}
use Rattle.doc_text.specs.Asking.{acknowledgement_refusal}
use Rattle.doc_text.specs.Writing.{head_text, is_pristine}
use Rattle.doc_session.specs.Document.{Document, loaded_document}
use Rattle.doc_session.specs.InMemory.{Doc}
use Rattle.doc_session.specs.Stands.{DocStandsFor}
use Rattle.doc_session.specs.Step.{EventStep, collected_document, event_step, refusal_at, with_text}

-- the document after an event, after an undo, and after a redo
abbrev pub after_event : Document → Event → Document
after_event document event = (event_step document event).document

abbrev pub after_undo : Document → Document
after_undo document = after_event document (Front Undo)

abbrev pub after_redo : Document → Document
after_redo document = after_event document (Front Redo)

-- after insertions of the front end, one after the other
abbrev pub after_typing : Document → List (List ℕ) → Document
after_typing document [] = document
after_typing document (chars ∷ texts) = after_typing (after_event document (Front (Insert chars))) texts

-- after so many undos
abbrev pub after_undos : ℕ → Document → Document
after_undos zero document = document
after_undos (suc n) document = after_undos n (after_undo document)

-- ---- what collections leave

-- a history without its floor and the groups that were collected, and groups without those that no undo reaches any more
abbrev pub bare_history : History → History
bare_history history = record history { floor = 0; collected = [] }

abbrev pub bare_groups : Groups → Groups
bare_groups groups = record groups { retired = [] }

-- a document without these, and without what sessions have acknowledged: how many there are stays
abbrev pub bare : Document → Document
bare document = with_text document (record document.text {
  history = bare_history document.text.history;
  groups = bare_groups document.text.groups;
  sessions = map (λ session. None) document.text.sessions;
})

-- ---- undo and redo

-- an undo takes back whole what the front end typed, where no insertion went before: some characters at least, in however many insertions
abbrev pub UndoTakesRunBack : Type 0
UndoTakesRunBack = (doc : Doc) (plain : Document) (texts : List (List ℕ)) → DocStandsFor doc plain →
    run_on plain.text.typing (Some Kinds.Insert) ≡ None → concat texts ≢ [] → head_text (after_undo (after_typing plain texts)).text ≡ head_text plain.text

-- a redo directly after an undo, where there is one, gives text and groups back
abbrev pub RedoTakesUndoBack : Type 0
RedoTakesUndoBack = (doc : Doc) (plain : Document) → DocStandsFor doc plain → 0 < plain.text.groups.index →
    (head_text (after_redo (after_undo plain)).text ≡ head_text plain.text) × ((after_redo (after_undo plain)).text.groups ≡ plain.text.groups)

-- after an event that opens a group there is nothing to redo, and a redo makes no revision
abbrev pub NewGroupEndsRedo : Type 0
NewGroupEndsRedo = (plain : Document) (event : Event) → bare_groups (after_event plain event).text.groups ≡ bare_groups (after_opening plain.text.groups) →
    (next_redo (after_event plain event).text.groups ≡ None) × ((after_redo (after_event plain event)).text.history ≡ (after_event plain event).text.history)

-- the group is live and not undone, and no such group is newer
pub record IsNewestLeft (document : Document) (group : ℕ) : Type 0 where
  pub is_live : has document.text.groups.live group ≡ true
  pub is_done : has (undone_now document.text.history) group ≡ false
  pub is_last : (other : ℕ) → has document.text.groups.live other ≡ true → has (undone_now document.text.history) other ≡ false → other ≤ group

-- the group that an undo takes is the newest that is left; it is undone then, and no other besides what was
abbrev pub UndoTakesNewest : Type 0
UndoTakesNewest = (doc : Doc) (plain : Document) (group : ℕ) → DocStandsFor doc plain → next_undo plain.text.groups ≡ Some group →
    IsNewestLeft plain group × (undone_now (after_undo plain).text.history ≡ with_number (undone_now plain.text.history) group)

-- however many undos come, at most twenty make a revision
abbrev pub StepsAreFew : Type 0
StepsAreFew = (doc : Doc) (plain : Document) (n : ℕ) → DocStandsFor doc plain →
    head (after_undos n plain).text.history ≤ head plain.text.history + 20

-- ---- collection is invisible to a front end

-- two documents are alike but for what is collected and acknowledged, and the floor of each is at most its head
pub record AreAlike (one other : Document) : Type 0 where
  pub same : bare one ≡ bare other
  pub one_floor : one.text.history.floor ≤ head one.text.history
  pub other_floor : other.text.history.floor ≤ head other.text.history

-- two steps tell the same: their answer, update, place to scroll to and notice
pub record TellTheSame (one other : EventStep) : Type 0 where
  pub body : one.body ≡ other.body
  pub update : one.update ≡ other.update
  pub scroll : one.scroll ≡ other.scroll
  pub notice : one.notice ≡ other.notice

-- an event of the front end, as a save is
abbrev pub IsOfFront : Event → Type 0
IsOfFront (Front act) = ⊤
IsOfFront (Edit caller edit named) = ⊥
IsOfFront (Spans caller rev start len spans) = ⊥
IsOfFront (Read caller rev start max) = ⊥
IsOfFront (Count caller) = ⊥
IsOfFront (Ack caller rev) = ⊥
IsOfFront (Ended caller) = ⊥
IsOfFront (Configure config) = ⊤
IsOfFront Saved = ⊤
IsOfFront Other = ⊤

-- what the session of a plugin tells
abbrev pub IsOfSession : Event → Type 0
IsOfSession (Front act) = ⊥
IsOfSession (Edit caller edit named) = ⊥
IsOfSession (Spans caller rev start len spans) = ⊥
IsOfSession (Read caller rev start max) = ⊥
IsOfSession (Count caller) = ⊥
IsOfSession (Ack caller rev) = ⊤
IsOfSession (Ended caller) = ⊤
IsOfSession (Configure config) = ⊥
IsOfSession Saved = ⊥
IsOfSession Other = ⊥

-- COLLECTION IS INVISIBLE: two such documents refuse the same events of the front end for the same causes, tell the same of the others, and are
-- again so
abbrev pub CollectionIsUnseen : Type 0
CollectionIsUnseen = (one other : Document) (event : Event) → IsOfFront event → AreAlike one other →
    (refusal_at one event ≡ refusal_at other event) × TellTheSame (event_step one event) (event_step other event) ×
    AreAlike (after_event one event) (after_event other event)

-- a step says nothing but that it was taken
pub record SaysNothing (step : EventStep) : Type 0 where
  pub body : step.body ≡ Null
  pub update : step.update ≡ None
  pub scroll : step.scroll ≡ None
  pub notice : step.notice ≡ None

-- what a session acknowledges, and its end, say nothing, and the document after them is so, too
abbrev pub AcknowledgementsAreUnseen : Type 0
AcknowledgementsAreUnseen = (document : Document) (event : Event) → IsOfSession event → document.text.history.floor ≤ head document.text.history →
    SaysNothing (event_step document event) × AreAlike document (after_event document event)

-- ---- styles of plugins

-- the layers of a document are over its text
abbrev pub AreOverText : Document → Type 0
AreOverText document = AreOver (length (head_text document.text)) document.view.layers

-- an event in which no plugin says styles
abbrev pub SaysNoStyles : Event → Type 0
SaysNoStyles (Spans caller rev start len spans) = ⊥
SaysNoStyles event = ⊤

-- after an event the layers are over the text then, as many as before; and where no plugin said styles, they are what the style rule makes of
-- them over the histories before and after it: what both head texts show keeps its styles, and what appears has none
pub record StylesFollow (document : Document) (event : Event) : Type 0 where
  pub over : AreOverText (after_event document event)
  pub as_many : length (after_event document event).view.layers ≡ length document.view.layers
  pub moved : SaysNoStyles event →
      (after_event document event).view.layers ≡ moved_layers document.text.history (after_event document event).text.history document.view.layers

-- STYLES FOLLOW THEIR CHARACTERS in every document whose layers are over its text, as they are when it is loaded
pub record LayersFollow : Type 0 where
  pub loaded : (text : List ℕ) (plugins limit : ℕ) (config : Config) → AreOverText (loaded_document text plugins limit config)
  pub each : (document : Document) (event : Event) → AreOverText document → StylesFollow document event

-- ---- saves

-- SAVING IS SEEN: after a save the text is pristine, and it stays so until there is another revision, after which it is not, whatever it shows
pub record SavingIsSeen : Type 0 where
  pub saved : (document : Document) → is_pristine (after_event document Saved).text ≡ true
  pub stays : (document : Document) (event : Event) → head (after_event document event).text.history ≡ head document.text.history →
      is_pristine document.text ≡ true → is_pristine (after_event document event).text ≡ true
  pub ends : (doc : Doc) (plain : Document) (event : Event) → DocStandsFor doc plain →
      head plain.text.history < head (after_event plain event).text.history → is_pristine (after_event plain event).text ≡ false

-- ---- what plugins ask

-- an event that only asks
abbrev pub IsAsking : Event → Type 0
IsAsking (Read caller rev start max) = ⊤
IsAsking (Count caller) = ⊤
IsAsking event = ⊥

-- nothing waits in a document to be collected
abbrev pub IsCollected : Document → Type 0
IsCollected document = collected_document document ≡ document

-- a step tells the front end and the plugins nothing
pub record TellsNothing (step : EventStep) : Type 0 where
  pub update : step.update ≡ None
  pub scroll : step.scroll ≡ None
  pub notice : step.notice ≡ None

-- ASKING IS UNSEEN: a document in which nothing waits to be collected, as it is when it was just loaded and after each event, is the same after
-- what is only asked, and nothing is told beside the answer
pub record AskingIsUnseen : Type 0 where
  pub loaded : (text : List ℕ) (plugins limit : ℕ) (config : Config) → IsCollected (loaded_document text plugins limit config)
  pub left : (document : Document) (event : Event) → IsCollected (after_event document event)
  pub same : (document : Document) (event : Event) → IsAsking event → IsCollected document → after_event document event ≡ document
  pub untold : (document : Document) (event : Event) → IsAsking event → TellsNothing (event_step document event)

-- the chunk that is answered, if it is one
abbrev pub chunk_in : Body → List ℕ
chunk_in (Chunk text offset) = text
chunk_in body = []

-- the chunks that a plugin is answered which reads the text of a revision from an offset on, with so much room each time: each from where the
-- one before ended
abbrev pub chunks_of : Document → ℕ → ℕ → ℕ → List ℕ → List (List ℕ)
chunks_of document caller rev start [] = []
chunks_of document caller rev start (max ∷ rooms) =
    let step = event_step document (Read caller rev start max) in
    chunk_in step.body ∷ chunks_of step.document caller rev (start + byte_len (chunk_in step.body)) rooms

-- none of these readings is refused
abbrev pub AreTaken : Document → ℕ → ℕ → ℕ → List ℕ → Type 0
AreTaken document caller rev start [] = ⊤
AreTaken document caller rev start (max ∷ rooms) =
    let step = event_step document (Read caller rev start max) in
    (refusal_at document (Read caller rev start max) ≡ None) × AreTaken step.document caller rev (start + byte_len (chunk_in step.body)) rooms

-- one of the chunks is empty
abbrev pub has_empty : List (List ℕ) → Bool
has_empty chunks = list_any (λ chunk. length chunk == 0) chunks

-- chunks that were read of a text: joined they are a beginning of it, and all of it where one of them is empty
pub record AreChunksOf (text : List ℕ) (chunks : List (List ℕ)) : Type 0 where
  pub front : concat chunks ≡ take (length (concat chunks)) text
  pub whole : has_empty chunks ≡ true → concat chunks ≡ text

-- READING GIVES THE TEXT of a kept revision, in chunks with room for at least four bytes each: none of the readings is refused
abbrev pub ReadingGivesTheText : Type 0
ReadingGivesTheText = (document : Document) (caller rev : ℕ) (rooms : List ℕ) → IsCollected document →
    acknowledgement_refusal document.text.history rev ≡ None → AllByRecursion (λ max. 4 ≤ max) rooms →
    AreTaken document caller rev 0 rooms × AreChunksOf (text_at document.text.history rev) (chunks_of document caller rev 0 rooms)
