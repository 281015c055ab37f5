-- What private functions say of one call: what was put in, and what a plugin's command came to.
use Rattle.std.specs.Prelude.{◌≡◌, ◌≢◌, ℕ, ◌≤◌, true, false, List, [], ◌∷◌, ◌++◌, None}
use Rattle.std.specs.Bool.{MatchBool}
use Rattle.xi_plain.specs.declared.command.Command.{Command}
use Rattle.xi_plain.specs.declared.entry.Entry.{Entry}
use Rattle.xi_plain.specs.declared.reply.Reply.{Reply}
use Rattle.xi_plain.specs.declared.reply.Reply.TheVariants.{Closed, Refused, Taken}
use Rattle.xi_plain.specs.Reply.{has_entry}
use Rattle.outside.specs.Faults.{Rose}
use Rattle.outside.specs.Sink.{Gains}
use Rattle.session_step.specs.declared.terms.Terms.{Terms}
use Rattle.session_step.specs.Session.{piece_of, session_of}
use Rattle.core_session.specs.Grown.{IsWrittenOf, SessionState, failures_if, session_in}
use Rattle.core_session.specs.Serves.{AddsCommand, IsRefusedBy, IsVerdictText, is_taken, refusal_in, verdict_in}

-- an entry was put in, which was sent or not: of its piece these bytes were written, and the shelf was not asked
pub record PutsIn (old new : SessionState) (entry : Entry) : Type 0 where
  pub terms : new.terms ≡ old.terms
  pub journal : new.journal ≡ old.journal ++ entry ∷ []
  pub bytes : List ℕ
  pub gains : Gains old.sink.held new.sink.held bytes
  pub written : IsWrittenOf entry.sent (piece_of (session_in old) entry) bytes
  pub failures : new.sink.failures ≡ failures_if entry.sent old.sink.failures
  pub stays : old.sink.faults ≤ new.sink.faults
  pub rose : entry.sent ≡ false → Rose old.sink.faults new.sink.faults
  pub shelf : new.shelf ≡ old.shelf

-- WHAT A COMMAND of a plugin comes to in a session that takes lines
pub record ServesCommand (terms : Terms) (before : List Entry) (caller : ℕ) (command : Command) (reply : Reply) (after : List Entry) : Type 0 where
  pub entry : MatchBool (has_entry reply) (AddsCommand before caller command (is_taken reply) after) (after ≡ before)
  pub accepted : has_entry reply ≡ true → refusal_in (session_of terms before) caller command ≡ None
  pub refused : (text : List ℕ) → reply ≡ Refused text → IsRefusedBy (refusal_in (session_of terms before) caller command) command.id text
  pub answer : (text : List ℕ) → reply ≡ Taken text → IsVerdictText command.id (verdict_in (session_of terms before) caller command) text
  pub stays : reply ≢ Closed
