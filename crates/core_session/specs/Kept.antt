-- What a session keeps of its journal, whatever becomes of it.
use Rattle.session_step.specs.declared.terms.Terms.{Terms}
use Rattle.std.specs.Prelude.{◌≡◌, ℕ, ◌<◌, ◌||◌, nat_le, Bool, true, false, not, if◌then◌else◌, List, [], ◌∷◌, Some, ⊤}
use Rattle.std.specs.List.{AllByRecursion, list_any}
use Rattle.plain_edits.specs.declared.style.Style.{Style}
use Rattle.plugin_wire.specs.Told.{stopped}
use Rattle.entry_lines.specs.Notices.{AreNoticeTexts}
use Rattle.xi_plain.specs.declared.command.Command.{Command}
use Rattle.xi_plain.specs.declared.command.Act.TheVariants.{Ended}
use Rattle.xi_plain.specs.declared.command.Id.TheVariants.{NoId}
use Rattle.xi_plain.specs.declared.config.Config.{Config}
use Rattle.xi_plain.specs.declared.entry.Entry.{Entry}
use Rattle.xi_plain.specs.declared.entry.ShelfNote.{ShelfNote}
use Rattle.xi_plain.specs.declared.entry.ShelfNote.TheVariants.{NoCall}
use Rattle.xi_plain.specs.declared.reply.Reply.{Reply}
use Rattle.xi_plain.specs.declared.reply.Reply.TheVariants.{SinkFault, Taken}
use Rattle.xi_plain.specs.Journal.{is_closing, may_have_note}
use Rattle.session_step.specs.declared.opened.Opened.{Opened}
use Rattle.session_step.specs.Session.{OpenView, Session, first_session, session_of, views_of, written}
use Rattle.session_step.specs.Accepted.{AreAccepted}
use Rattle.session_step.specs.Views.{AreOfPlugins, IsNotGiven, IsOfLine, Stands}
use Rattle.core_session.specs.declared.stage.Stage.{Stage}
use Rattle.core_session.specs.declared.stage.Stage.TheVariants.{Broken, Closed, Serves}
use Rattle.core_session.specs.Shelves.{AreSavesAsked}
use Rattle.core_session.specs.Shows.{Shows, rebuilt}

-- ---- entries

-- the entry of a command of the front end
abbrev pub front_entry : Command → ShelfNote → Bool → Entry
front_entry command note sent = record { caller = 0; command = command; shelf = note; sent = sent }

-- that of a command of the plugin with this number, for which the shelf is not asked
abbrev pub plugin_entry : ℕ → Command → Bool → Entry
plugin_entry caller command sent = record { caller = caller; command = command; shelf = NoCall; sent = sent }

-- the same entry, by whether it was sent
abbrev pub with_sent : Entry → Bool → Entry
with_sent entry sent = record entry { sent = sent }

-- the command that ends a plugin's session
abbrev pub ending : Command
ending = record { id = NoId; act = Ended }

-- the entry is of the front end or of one of so many plugins, and does not close; it has a note of its own kind, and its piece was sent whole
pub record IsOpen (plugins : ℕ) (entry : Entry) : Type 0 where
  pub caller : nat_le entry.caller plugins ≡ true
  pub asks : IsOfLine entry.command.act
  pub note : may_have_note entry.command.act entry.shelf ≡ true
  pub sent : entry.sent ≡ true

-- whether there is a closing entry among these
abbrev pub has_closing : List Entry → Bool
has_closing journal = list_any is_closing journal

-- whether no line comes after these: one of them closes the journal, or was not sent
abbrev pub is_over : List Entry → Bool
is_over journal = list_any (λ entry. is_closing entry || not entry.sent) journal

-- the entries before the first that was not sent
abbrev pub sent_front : List Entry → List Entry
sent_front [] = []
sent_front (entry ∷ entries) = if entry.sent then entry ∷ sent_front entries else []

-- ---- how a session stands

-- by whether its journal has a closing entry, and whether it is over
abbrev pub stage_by : Bool → Bool → Stage
stage_by true over = Closed
stage_by false true = Broken
stage_by false false = Serves

-- HOW A SESSION STANDS that has this journal
abbrev pub stage_of : List Entry → Stage
stage_of journal = stage_by (has_closing journal) (is_over journal)

-- how it stands after an entry of a line, which was sent or not, and what comes of a line that is answered so
abbrev pub stage_if : Bool → Stage
stage_if true = Serves
stage_if false = Broken

abbrev pub reply_if : List ℕ → Bool → Reply
reply_if answer true = Taken answer
reply_if answer false = SinkFault

-- for how many entries there has to be room: for the closing one, until it stands
abbrev pub reserved : Stage → ℕ
reserved Closed = 0
reserved stage = 1

-- these lines tell plugins of the closing entry, until it stands
abbrev pub StandBy : Stage → List (List ℕ) → Type 0
StandBy Closed texts = ⊤
StandBy stage texts = AreNoticeTexts (stopped ∷ []) texts

-- ---- what is kept

-- the views, the styles, the plugins whose sessions have ended, the number of openings and the configuration in memory are those of the
-- session; these plugins are some of those that there are, and a tab has columns
pub record StandsForSession (held : List Opened) (table : List Style) (gone : List ℕ) (many : ℕ) (laid : Config) (session : Session) : Type 0 where
  pub views : Stands held session.views
  pub styles : table ≡ session.styles
  pub ended : gone ≡ session.ended
  pub plugins : AreOfPlugins session.terms.plugins session.ended
  pub opened : many ≡ session.opened
  pub config : laid ≡ session.config
  pub tab : 0 < laid.tab

-- of each of the views the front end rebuilds the screen that the view's document says
abbrev pub AreRebuilt : List ℕ → List OpenView → Type 0
AreRebuilt bytes views = AllByRecursion (λ (view : OpenView). rebuilt view.id bytes ≡ Some view.document.screen) views

-- what the entries write shows them, and by its updates the front end has, of each view that is open, the screen that the view's document
-- says, and an empty one of an id that was not given yet
pub record IsShowing (terms : Terms) (journal : List Entry) : Type 0 where
  pub shows : Shows terms journal (written (first_session terms) journal)
  pub screens : AreRebuilt (written (first_session terms) journal) (views_of terms journal)
  pub fresh : (id : List ℕ) → IsNotGiven (session_of terms journal).opened id → rebuilt id (written (first_session terms) journal) ≡ Some []

-- WHAT IS KEPT: what is in memory is the session that the journal defines; what the entries write that were sent before any was not shows
-- them; each saving asked the shelf exactly where its view was open; and each entry is one that the session before it accepts
pub record IsOfJournal (terms : Terms) (held : List Opened) (table : List Style) (ended : List ℕ) (many : ℕ) (laid : Config) (journal : List Entry) : Type 0 where
  pub stands : StandsForSession held table ended many laid (session_of terms journal)
  pub showing : IsShowing terms (sent_front journal)
  pub saves_asked : AreSavesAsked terms journal
  pub accepted : AreAccepted terms journal
