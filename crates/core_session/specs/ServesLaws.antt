-- Laws of one call, and of the asks that fit a caller.
use Rattle.std.proofs.Common.{◌≡◌, ℕ, ◌<◌, ◌≤◌, Bool, true, false, List, length, sym, subst}
use Rattle.std.proofs.Math.Nat.{lt_of_le_of_lt}
use Rattle.std.specs.Prelude.{◌^◌}
use Rattle.std.specs.Bool.{MatchBool}
use Rattle.xi_plain.specs.declared.ask.Ask.{Ask}
use Rattle.xi_plain.specs.declared.command.Command.{Command}
use Rattle.xi_plain.specs.declared.entry.Entry.{Entry}
use Rattle.xi_plain.specs.declared.reply.Reply.{Reply}
use Rattle.xi_plain.specs.Reply.{has_entry}
use Rattle.xi_plain.specs.Room.{AddsEntryIf}
use Rattle.session_step.specs.declared.terms.Terms.{Terms}
use Rattle.core_session.specs.Serves.{AddsCommand, FitsCaller, IsSessionJournal, Serves, command_asked, is_taken}

-- one entry, of the caller, exactly where the reply says so
added_if : (made : Bool) (before : List Entry) (caller : ℕ) (command : Command) (sent : Bool) (after : List Entry) →
    MatchBool made (AddsCommand before caller command sent after) (after ≡ before) → AddsEntryIf made before caller after
added_if true before caller command sent after adds = (adds.entry, adds.added, adds.caller_is)
added_if false before caller command sent after same = same

pub Serves-one_entry : (terms : Terms) (before : List Entry) (caller : ℕ) (ask : Ask) (reply : Reply) (after : List Entry) →
    Serves terms before caller ask reply after → AddsEntryIf (has_entry reply) before caller after
Serves-one_entry terms before caller ask reply after served =
    added_if (has_entry reply) before caller (command_asked ask) (is_taken reply) after served.entry

-- a call is the same of a session that was made alike
pub Serves-on : (terms other : Terms) (before : List Entry) (caller : ℕ) (ask : Ask) (reply : Reply) (after : List Entry) → other ≡ terms →
    Serves other before caller ask reply after → Serves terms before caller ask reply after
Serves-on terms other before caller ask reply after same served = subst (λ t. Serves t before caller ask reply after) same served

-- so are the asks that fit a caller, and the journals
pub FitsCaller-on : (terms other : Terms) (caller : ℕ) (ask : Ask) → other ≡ terms → FitsCaller terms.plugins caller ask → FitsCaller other.plugins caller ask
FitsCaller-on terms other caller ask same fits = subst (λ (t : Terms). FitsCaller t.plugins caller ask) (sym same) fits

pub IsSessionJournal-on : (terms other : Terms) (journal : List Entry) → other ≡ terms → ∥ IsSessionJournal other journal ∥₁ →
    ∥ IsSessionJournal terms journal ∥₁
IsSessionJournal-on terms other journal same lawful = subst (λ (t : Terms). ∥ IsSessionJournal t journal ∥₁) same lawful

-- a journal in memory is short
pub short_of : (journal : List Entry) (len cap : ℕ) → (len ≡ length journal) × (len ≤ cap) → cap < 2 ^ 63 → length journal < 2 ^ 63
short_of journal len cap ok small = subst (λ count. count < 2 ^ 63) ok.0 (lt_of_le_of_lt ok.1 small)
