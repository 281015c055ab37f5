-- What private functions say: what an act and a command come to in memory.
use Rattle.std.specs.Prelude.{◌≡◌, ℕ, ◌||◌, Bool, true, false, List, [], ◌∷◌, Option, Some, None, unwrap_or}
use Rattle.std.specs.Str.{bytes_eq, encode_utf8_all}
use Rattle.outside.specs.declared.shelf.Stored.{Stored}
use Rattle.outside.specs.declared.shelf.Stored.TheVariants as stored
use Rattle.plain_edits.specs.declared.style.Style.{Style}
use Rattle.view_update.specs.declared.note.ViewUpdate.{ViewUpdate}
use Rattle.core_session.specs.declared.ask.Asked.{Asked}
use Rattle.core_session.specs.declared.prepare.Prepared.{Prepared}
use Rattle.xi_plain.specs.declared.command.Act.{Act}
use Rattle.xi_plain.specs.declared.command.Command.{Command}
use Rattle.xi_plain.specs.declared.entry.Entry.{Entry}
use Rattle.session_step.specs.declared.opened.Opened.{Opened}
use Rattle.session_step.specs.Accepted.{Accepts}
use Rattle.session_step.specs.News.{front_news, news_of}
use Rattle.session_step.specs.PluginStep.{plugin_outcome}
use Rattle.session_step.specs.Session.{Session, given_by, is_front, messages_by, opened_after, outcome, step}
use Rattle.session_step.specs.Views.{IsDone}
use Rattle.session_step.specs.PluginEffects.{views_with}
use Rattle.entry_lines.specs.Notices.{AreNoticeTexts}
use Rattle.entry_lines.specs.Piece.{AreLinesOf, UpdatesReadBack}
use Rattle.core_session.specs.Kept.{StandsForSession}
use Rattle.core_session.specs.Shelves.{opens_file, saved_view}

-- one of the views in memory has this name
abbrev pub holds_name : List Opened → List ℕ → Bool
holds_name [] name = false
holds_name (kept ∷ held) name = bytes_eq (encode_utf8_all name) (encode_utf8_all kept.id) || holds_name held name

-- the same where there is a name
abbrev pub holds_view : List Opened → Option (List ℕ) → Bool
holds_view held None = false
holds_view held (Some name) = holds_name held name

-- whether an act asks the shelf, by the views in memory
abbrev pub asks_by : List Opened → Act → Bool
asks_by held act = opens_file act || holds_view held (saved_view act)

-- a command by the note that it has: what it comes to, how many were opened by then, and the lines that tell plugins of it
pub record IsAsked (session : Session) (command : Command) (asked : Asked) : Type 0 where
  pub done : IsDone session command (given_by asked.note) asked.piece asked.held
  pub opened : asked.opened ≡ opened_after session.opened command.act (given_by asked.note)
  pub told : AreNoticeTexts (front_news session command.act (given_by asked.note)) asked.told

-- the updates that an entry tells, by whether it is the front end's
abbrev pub updates_by : Bool → Session → Entry → List ViewUpdate
updates_by true session entry = (outcome session entry.command.act (given_by entry.shelf)).updates
updates_by false session entry = (plugin_outcome session.views session.styles entry.caller entry.command.act).updates

-- WHAT AN ENTRY COMES TO before it is put in, where these views, these styles and these plugins whose sessions have ended are in memory: the
-- session accepts it; it has the lines of its piece, whose updates read back, and those that tell plugins of it; and with what it changes the
-- session after it is in memory
pub record IsPrepared (held : List Opened) (table : List Style) (ended : List ℕ) (session : Session) (made : Prepared) : Type 0 where
  pub accepted : Accepts session made.entry
  pub lines : AreLinesOf (messages_by (is_front made.entry) session made.entry) (encode_utf8_all made.piece)
  pub reads_back : UpdatesReadBack (updates_by (is_front made.entry) session made.entry)
  pub told : AreNoticeTexts (news_of session made.entry) made.told
  pub stands :
      StandsForSession (views_with held made.next) (unwrap_or made.grown table) (unwrap_or made.gone ended) made.opened made.config (step session made.entry)

-- what was made for a file that was written is kept, or what was made for one that could not be
abbrev pub IsChosenBy : {A : Type 0} → Stored → A → A → A → Type 0
IsChosenBy stored.Done done failed kept = kept ≡ done
IsChosenBy stored.Failed done failed kept = kept ≡ failed
IsChosenBy stored.NoMemory done failed kept = ⊥
