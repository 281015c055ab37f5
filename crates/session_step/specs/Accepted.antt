-- WHICH ENTRIES A SESSION ACCEPTS.
use Rattle.std.specs.Prelude.{◌≡◌, ℕ, Bool, true, false, List, [], ◌∷◌, None, ⊤}
use Rattle.xi_plain.specs.declared.command.Act.{Act}
use Rattle.xi_plain.specs.declared.command.Act.TheVariants as act
use Rattle.xi_plain.specs.declared.entry.Entry.{Entry}
use Rattle.session_step.specs.declared.terms.Terms.{Terms}
use Rattle.session_step.specs.PluginStep.{plugin_refusal}
use Rattle.session_step.specs.Session.{Session, first_session, is_front, step}

-- whether a plugin may ask so
abbrev pub is_of_plugin : Act → Bool
is_of_plugin (act.PluginEdit view rev delta priority after_cursor author named) = true
is_of_plugin (act.GetData view rev start max) = true
is_of_plugin (act.UpdateSpans view rev start len spans) = true
is_of_plugin (act.LineCount view) = true
is_of_plugin (act.Alert msg) = true
is_of_plugin (act.Ack view rev) = true
is_of_plugin act.Ended = true
is_of_plugin act = false

-- the session accepts an act of the plugin with this number: a plugin may ask so, and it is not refused
pub record AcceptsOf (session : Session) (caller : ℕ) (act : Act) : Type 0 where
  pub asks : is_of_plugin act ≡ true
  pub taken : plugin_refusal session.views session.styles caller act ≡ None

-- THE SESSION ACCEPTS an entry, by whether it is the front end's: each of those, and of a plugin's those whose acts it accepts
abbrev pub AcceptsBy : Bool → Session → Entry → Type 0
AcceptsBy true session entry = ⊤
AcceptsBy false session entry = AcceptsOf session entry.caller entry.command.act

-- the same of an entry alone
abbrev pub Accepts : Session → Entry → Type 0
Accepts session entry = AcceptsBy (is_front entry) session entry

-- EACH OF THESE ENTRIES is one that the session before it accepts
abbrev pub AreAcceptedFrom : Session → List Entry → Type 0
AreAcceptedFrom session [] = ⊤
AreAcceptedFrom session (entry ∷ entries) = Accepts session entry × AreAcceptedFrom (step session entry) entries

-- the same from the start of a session
abbrev pub AreAccepted : Terms → List Entry → Type 0
AreAccepted terms journal = AreAcceptedFrom (first_session terms) journal
