-- What an event and a line come to in memory, by what the calls below them say.
use Rattle.std.proofs.Common.{◌≡◌, ℕ, List, [], Option, None, Result, Ok, Err, IfOk, IfErr, subst}
use Rattle.std.specs.Prelude.{OnOk}
use Rattle.std.specs.Str.{encode_utf8_all}
use Rattle.xi_plain.specs.declared.command.Command.{Command}
use Rattle.view_update.specs.declared.note.ViewUpdate.{ViewUpdate}
use Rattle.view_update.specs.declared.note.Scroll.{Scroll}
use Rattle.doc_session.specs.InMemory.{Doc}
use Rattle.doc_session.specs.declared.event.Effects.{Effects}
use Rattle.doc_session.specs.declared.event.Event.{Event}
use Rattle.doc_text.specs.declared.fault.DocFault.{DocFault}
use Rattle.doc_session.specs.Document.{Document}
use Rattle.doc_text.specs.Fault.{DocRefuses}
use Rattle.doc_session.specs.Stands.{DocStandsFor}
use Rattle.doc_session.specs.Step.{AreEffectsOf, event_step, refusal_at}
use Rattle.session_step.specs.declared.act.ActEffects.{ActEffects}
use Rattle.entry_lines.specs.Answer.{Reply, reply_of}
use Rattle.entry_lines.specs.Piece.{AreLinesOf, UpdatesReadBack, entry_messages}
use Rattle.session_step.specs.declared.given.Given.{Given}
use Rattle.session_step.specs.News.{front_news}
use Rattle.session_step.specs.Session.{Session, outcome}
use Rattle.session_step.specs.Views.{IsDone}
use Rattle.session_step.specs.InnerStep.{IsMade, IsOutcome}

-- what an event made of a document
pub IsMade-after : (old : Doc) (event : Event) (result : Result (Doc × Effects) DocFault) →
    ((plain : Document) → DocStandsFor old plain → IfOk result (λ made. DocStandsFor made.0 (event_step plain event).document)) →
    ((plain : Document) → DocStandsFor old plain → IfOk result (λ made. AreEffectsOf (event_step plain event) made.1)) →
    ((plain : Document) → DocStandsFor old plain → OnOk result (refusal_at plain event ≡ None)) →
    ((plain : Document) → DocStandsFor old plain → IfErr result (DocRefuses (refusal_at plain event))) → IsMade old event result
IsMade-after old event (Err fault) stands effects accepted refused =
    record { served = stands; effects = effects; accepted = accepted; refused = refused }
IsMade-after old event (Ok made) stands effects accepted refused =
    record { served = stands; effects = effects; accepted = accepted; refused = refused }

-- a command, by what its act came to and by the lines of that
pub IsDone-by : (session : Session) (command : Command) (gave : Given) (effects : ActEffects) (piece : List ℕ) →
    IsOutcome (outcome session command.act gave) (front_news session command.act gave) effects → UpdatesReadBack effects.updates →
    AreLinesOf (entry_messages command.id (reply_of effects.reply) [] effects.updates effects.scroll) (encode_utf8_all piece) →
    IsDone session command gave piece effects.held
IsDone-by session command gave effects piece is reads lines =
    let At : Reply → List ViewUpdate → Option Scroll → Type 0 =
    λ reply updates scroll. AreLinesOf (entry_messages command.id reply [] updates scroll) (encode_utf8_all piece) in
    let done = outcome session command.act gave in
    let by_reply : At done.reply effects.updates effects.scroll = subst (λ reply. At reply effects.updates effects.scroll) is.reply lines in
    let by_updates : At done.reply done.updates effects.scroll = subst (λ updates. At done.reply updates effects.scroll) is.updates by_reply in
    record {
      lines = subst (λ scroll. At done.reply done.updates scroll) is.scroll by_updates;
      reads_back = subst UpdatesReadBack is.updates reads;
      stands = is.stands;
    }
