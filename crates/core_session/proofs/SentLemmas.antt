-- What an entry comes to is the same whether it was sent or not.
use Rattle.std.proofs.Common.{◌≡◌, ℕ, Bool, true, false, List, refl, subst}
use Rattle.std.specs.Prelude.{unwrap_or}
use Rattle.std.specs.Str.{encode_utf8_all}
use Rattle.plain_edits.specs.declared.style.Style.{Style}
use Rattle.plugin_wire.specs.Told.{Told}
use Rattle.serde_json.specs.Data.{Data}
use Rattle.view_update.specs.declared.note.ViewUpdate.{ViewUpdate}
use Rattle.xi_plain.specs.declared.entry.Entry.{Entry}
use Rattle.entry_lines.specs.Notices.{AreNoticeTexts}
use Rattle.entry_lines.specs.Piece.{AreLinesOf, UpdatesReadBack}
use Rattle.session_step.specs.PluginEffects.{views_with}
use Rattle.session_step.specs.declared.opened.Opened.{Opened}
use Rattle.session_step.specs.Accepted.{AcceptsBy}
use Rattle.session_step.specs.News.{news_by}
use Rattle.session_step.specs.Session.{Session, is_front, messages_by, step_by}
use Rattle.core_session.specs.declared.prepare.Prepared.{Prepared}
use Rattle.core_session.specs.InnerSession.{IsPrepared, updates_by}
use Rattle.core_session.specs.Kept.{IsOpen, StandsForSession, with_sent}

accepts_by : (front : Bool) (session : Session) (entry : Entry) (sent : Bool) → AcceptsBy front session entry → AcceptsBy front session (with_sent entry sent)
accepts_by true session entry sent accepts = tt
accepts_by false session entry sent accepts = accepts

messages_sent : (front : Bool) (session : Session) (entry : Entry) (sent : Bool) → messages_by front session entry ≡ messages_by front session (with_sent entry sent)
messages_sent true session entry sent = refl
messages_sent false session entry sent = refl

updates_sent : (front : Bool) (session : Session) (entry : Entry) (sent : Bool) → updates_by front session entry ≡ updates_by front session (with_sent entry sent)
updates_sent true session entry sent = refl
updates_sent false session entry sent = refl

news_sent : (front : Bool) (session : Session) (entry : Entry) (sent : Bool) → news_by front session entry ≡ news_by front session (with_sent entry sent)
news_sent true session entry sent = refl
news_sent false session entry sent = refl

step_sent : (front : Bool) (session : Session) (entry : Entry) (sent : Bool) → step_by front session entry ≡ step_by front session (with_sent entry sent)
step_sent true session entry sent = refl
step_sent false session entry sent = refl

-- an open entry is open, as one that was sent
pub opens_sent : (plugins : ℕ) (entry : Entry) → IsOpen plugins entry → IsOpen plugins (with_sent entry true)
opens_sent plugins entry opens = record { caller = opens.caller; asks = opens.asks; note = opens.note; sent = refl }

-- what was prepared for an entry is prepared for the same one, sent or not
pub prepared_sent : (held : List Opened) (table : List Style) (ended : List ℕ) (session : Session) (made : Prepared) (sent : Bool) →
    IsPrepared held table ended session made → IsPrepared held table ended session (record made { entry = with_sent made.entry sent })
prepared_sent held table ended session made sent is =
    let front = is_front made.entry in
    let Lines : List Data → Type 0 = λ said. AreLinesOf said (encode_utf8_all made.piece) in
    let Read : List ViewUpdate → Type 0 = λ updates. UpdatesReadBack updates in
    let Told_by : List Told → Type 0 = λ news. AreNoticeTexts news made.told in
    let After : Session → Type 0 =
    λ next. StandsForSession (views_with held made.next) (unwrap_or made.grown table) (unwrap_or made.gone ended) made.opened made.config next in
    record {
      accepted = accepts_by front session made.entry sent is.accepted;
      lines = subst Lines (messages_sent front session made.entry sent) is.lines;
      reads_back = subst Read (updates_sent front session made.entry sent) is.reads_back;
      told = subst Told_by (news_sent front session made.entry sent) is.told;
      stands = subst After (step_sent front session made.entry sent) is.stands;
    }
