-- WHAT PLUGINS ARE TOLD of an entry.
use Rattle.std.specs.Prelude.{ℕ, ◌+◌, Bool, true, false, List, [], ◌∷◌, Option, Some, None}
use Rattle.plain_text.specs.Text.{byte_len}
use Rattle.xi_plain.specs.declared.command.EditAct.{EditAct}
use Rattle.xi_plain.specs.declared.entry.Entry.{Entry}
use Rattle.xi_plain.specs.declared.command.Act.{Act}
use Rattle.xi_plain.specs.declared.command.Act.TheVariants.{CloseView, Closing, Edit, NewView}
use Rattle.plugin_wire.specs.Told.{Told, closed, opened, stopped}
use Rattle.entry_lines.specs.ViewId.{view_id_of}
use Rattle.doc_session.specs.declared.event.Event.TheVariants.{Front}
use Rattle.doc_session.specs.Step.{EventStep, event_step, refusal_at}
use Rattle.session_step.specs.declared.given.Given.{Given}
use Rattle.session_step.specs.declared.given.Given.TheVariants as given
pub use Rattle.session_step.specs.ViewSteps.{news_for}
use Rattle.session_step.specs.PluginStep.{plugin_outcome}
use Rattle.session_step.specs.Session.{OpenView, Session, given_by, is_front, named_view, spent_total}

-- an edit of the front end in a view, where its characters would be spent or not
abbrev pub edit_news : OpenView → Option ℕ → EventStep → List Told
edit_news view None step = news_for view.id step.notice
edit_news view (Some total) step = []

-- an edit of the view that was named, where it is open
abbrev pub edited_news : Option OpenView → EditAct → List Told
edited_news None act = []
edited_news (Some view) act =
    edit_news view (spent_total (refusal_at view.document (Front act))) (event_step view.document (Front act))

-- a view is opened after so many, on this text
abbrev pub opened_news : ℕ → List ℕ → List Told
opened_news many text = opened (view_id_of (many + 1)) (byte_len text) ∷ []

-- the same on what the shelf gave of a file, where that is a text
abbrev pub file_news : ℕ → Given → List Told
file_news many (given.Found text) = opened_news many text
file_news many gave = []

-- the same on an empty text, or on a file
abbrev pub open_news : ℕ → Option (List ℕ) → Given → List Told
open_news many None gave = opened_news many []
open_news many (Some path) gave = file_news many gave

-- the view that was named is closed, where it is open
abbrev pub closed_news : Option OpenView → List Told
closed_news None = []
closed_news (Some view) = closed view.id ∷ []

-- THE NEWS of an act of the front end, by what the shelf gave it: a view was opened, a revision came, a view was closed, or no line is to
-- come. Nothing else is told, since no other act makes a revision
abbrev pub front_news : Session → Act → Given → List Told
front_news session (NewView path) gave = open_news session.opened path gave
front_news session (CloseView name) gave = closed_news (named_view session.views name)
front_news session (Edit name act) gave = edited_news (named_view session.views name) act
front_news session Closing gave = stopped ∷ []
front_news session act gave = []

-- THE NEWS of an entry, by whether it is the front end's: what its act tells plugins, or what that of its plugin does
abbrev pub news_by : Bool → Session → Entry → List Told
news_by true session entry = front_news session entry.command.act (given_by entry.shelf)
news_by false session entry = (plugin_outcome session.views session.styles entry.caller entry.command.act).news

abbrev pub news_of : Session → Entry → List Told
news_of session entry = news_by (is_front entry) session entry
