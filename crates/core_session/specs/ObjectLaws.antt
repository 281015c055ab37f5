-- What the relation of one call comes to.
use Rattle.std.specs.Prelude.{◌≡◌, ◌≢◌, ◌↔◌, ◌⊎◌, ℕ, Bool, true, false, List, None}
use Rattle.xi_plain.specs.declared.ask.Ask.{Ask}
use Rattle.xi_plain.specs.declared.entry.Entry.{Entry}
use Rattle.xi_plain.specs.declared.reply.Reply.{Reply}
use Rattle.xi_plain.specs.declared.reply.Reply.TheVariants.{Closed, NoMemory, Refused, SinkFault, Taken}
use Rattle.outside.specs.Faults.{Rose}
use Rattle.session_step.specs.declared.terms.Terms.{Terms}
use Rattle.core_session.specs.Grown.{IsGrown, SessionState}
use Rattle.core_session.specs.Serves.{Serves, ask_refusal, is_too_late}

-- whether the reply is a refusal
abbrev pub is_refusal : Reply → Bool
is_refusal (Taken text) = false
is_refusal (Refused text) = true
is_refusal SinkFault = false
is_refusal Closed = false
is_refusal NoMemory = false

-- A REFUSAL comes exactly where the session before refuses the line, it does not come too late, and memory does not want
abbrev pub RefusedExactly : Type 0
RefusedExactly = (terms : Terms) (before : List Entry) (caller : ℕ) (ask : Ask) (reply : Reply) (after : List Entry) →
    Serves terms before caller ask reply after →
    (is_refusal reply ≡ true) ↔ ((ask_refusal terms before caller ask ≢ None) × (is_too_late ask before ≡ false) × (reply ≢ NoMemory))

-- NOTHING STOPS an ask that is not refused and does not come too late, where the sink's count did not rise: it is an entry that was sent, or lacks memory
abbrev pub NothingStopsIt : Type 0
NothingStopsIt = (old new : SessionState) (caller : ℕ) (ask : Ask) (reply : Reply) → Serves old.terms old.journal caller ask reply new.journal →
    IsGrown old new → ask_refusal old.terms old.journal caller ask ≡ None → is_too_late ask old.journal ≡ false →
    (Rose old.sink.faults new.sink.faults → ⊥) → ((text : List ℕ) × (reply ≡ Taken text)) ⊎ (reply ≡ NoMemory)
