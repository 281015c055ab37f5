-- What one call is by what it came to, and what that says of a line that nothing stops.
use Rattle.std.proofs.Common.{◌≡◌, ◌≢◌, ℕ, arith, length, Bool, true, false, List, [], ◌∷◌, ◌++◌, Option, Some, None, refl, ap, sym, ◌∙◌, subst, inl, inr}
use Rattle.std.specs.Coded.{Coded-set, coded_list, coded_ℕ}
use Rattle.std.specs.Str.{encode_utf8_all}
use Rattle.std.proofs.Math.Logic.{∥∥₁_elim, ∥∥₁_map}
use Rattle.std.proofs.lemmas.List.{nil_from_length}
use Rattle.std.proofs.lemmas.Str.{length-le-encodes}
use Rattle.xi_plain.specs.declared.ask.Ask.{Ask}
use Rattle.xi_plain.specs.declared.ask.Ask.TheVariants.{CloseDown, FrontLine, PluginEnd, PluginLine}
use Rattle.xi_plain.specs.declared.entry.Entry.{Entry}
use Rattle.xi_plain.specs.declared.reply.Reply.{Reply}
use Rattle.xi_plain.specs.Reply.{has_entry}
use Rattle.xi_plain.specs.declared.reply.Reply.TheVariants.{Closed, NoMemory, Refused, SinkFault, Taken}
use Rattle.session_step.specs.declared.terms.Terms.{Terms}
use Rattle.front_wire.specs.Front.{command_of}
use Rattle.plugin_wire.specs.Asked.{ask_of}
use Rattle.std.proofs.lemmas.List.{append_cancel_left}
use Rattle.outside.specs.Faults.{Rose}
use Rattle.xi_plain.specs.declared.command.Command.{Command}
use Rattle.xi_plain.specs.declared.command.Id.{Id}
use Rattle.entry_lines.specs.PluginAnswer.{IsAnswerText, Verdict, plugin_answer}
use Rattle.core_session.specs.PluginMade.{IsRefusal}
use Rattle.session_step.specs.Session.{session_of}
use Rattle.xi_plain.specs.Journal.{closing_entry}
use Rattle.core_session.proofs.EnterLemmas.{never_prop, not_none}
use Rattle.core_session.specs.Grown.{IsGrown, SessionState, are_sent}
use Rattle.core_session.specs.ObjectLaws.{NothingStopsIt, RefusedExactly}
use Rattle.core_session.specs.InnerObject.{ServesCommand}
use Rattle.core_session.specs.Kept.{ending, front_entry, has_closing, is_over, plugin_entry, reply_if, with_sent}
use Rattle.core_session.specs.Serves.{AddsCommand, IsAnswerTo, IsRefusedBy, IsVerdictText, Serves, ask_refusal, command_asked, is_too_late, refusal_in, verdict_in}

-- what is no is not yes
pub never : {A : Type 0} (b : Bool) → b ≡ false → b ≡ true → A
never true is other = absurd cc
never false is other = absurd cc

-- what was put in comes with an entry
pub made_if : (answer : List ℕ) (sent : Bool) → has_entry (reply_if answer sent) ≡ true
made_if answer true = refl
made_if answer false = refl

refusal_text : (text other : List ℕ) → Refused text ≡ Refused other → text ≡ other
refusal_text text other is = cc

answer_text : (text other : List ℕ) → Taken text ≡ Taken other → text ≡ other
answer_text text other is = cc

module _ (terms : Terms) (journal : List Entry) (caller : ℕ) (ask : Ask) (after : List Entry) where
  -- it came too late
  pub serves_late : is_too_late ask journal ≡ true → after ≡ journal → Serves terms journal caller ask Closed after
  serves_late late same = record {
    entry = same;
    accepted = λ is. absurd cc;
    refused = λ text is. absurd cc;
    answer = λ text is. absurd cc;
    closed = (λ is. late, λ is. refl);
    memory = λ is. absurd cc;
    sends = λ is. absurd cc;
  }

  -- memory was wanting
  pub serves_lacking : is_too_late ask journal ≡ false → ask ≢ CloseDown → after ≡ journal → Serves terms journal caller ask NoMemory after
  serves_lacking early other same = record {
    entry = same;
    accepted = λ is. absurd cc;
    refused = λ text is. absurd cc;
    answer = λ text is. absurd cc;
    closed = (λ is. absurd cc, λ late. never (is_too_late ask journal) early late);
    memory = λ is. other;
    sends = λ is. absurd cc;
  }

  -- it is an entry that was sent
  pub serves_sent : (text : List ℕ) → is_too_late ask journal ≡ false → ask_refusal terms journal caller ask ≡ None →
      AddsCommand journal caller (command_asked ask) true after → IsAnswerTo terms journal caller ask text →
      Serves terms journal caller ask (Taken text) after
  serves_sent text early accepted adds answers = record {
    entry = adds;
    accepted = λ is. accepted;
    refused = λ other is. absurd cc;
    answer = λ other is. subst (IsAnswerTo terms journal caller ask) (answer_text text other is) answers;
    closed = (λ is. absurd cc, λ late. never (is_too_late ask journal) early late);
    memory = λ is. absurd cc;
    sends = λ is. absurd cc;
  }

  -- it is an entry that was not sent
  pub serves_unsent : is_too_late ask journal ≡ false → ask ≢ CloseDown → ask_refusal terms journal caller ask ≡ None →
      AddsCommand journal caller (command_asked ask) false after → Serves terms journal caller ask SinkFault after
  serves_unsent early other accepted adds = record {
    entry = adds;
    accepted = λ is. accepted;
    refused = λ text is. absurd cc;
    answer = λ text is. absurd cc;
    closed = (λ is. absurd cc, λ late. never (is_too_late ask journal) early late);
    memory = λ is. absurd cc;
    sends = λ is. other;
  }

-- ---- what is told by it

none_refuses : (refusal : Option Verdict) (id : Id) (text : List ℕ) → refusal ≡ None → IsRefusedBy refusal id text → ⊥
none_refuses refusal id text none refuses = subst (λ r. IsRefusedBy r id text) none refuses

-- whether a line was refused
pub refused_exactly : RefusedExactly
refused_exactly terms journal caller ask (Refused text) after served = (
  λ is. (
    λ none. none_refuses (ask_refusal terms journal caller ask) (command_asked ask).id text none (served.refused text refl),
    open_by (is_too_late ask journal) (λ late. closed_is (served.closed.1 late)),
    λ lacks. cc,
  ),
  λ all. refl,
)
  where
    open_by : (late : Bool) → (late ≡ true → ⊥) → late ≡ false
    open_by true never = absurd (never refl)
    open_by false never = refl

    closed_is : Refused text ≡ Closed → ⊥
    closed_is is = cc
refused_exactly terms journal caller ask (Taken text) after served = (λ is. absurd cc, λ all. absurd (all.0 (served.accepted refl)))
refused_exactly terms journal caller ask SinkFault after served = (λ is. absurd cc, λ all. absurd (all.0 (served.accepted refl)))
refused_exactly terms journal caller ask Closed after served = (λ is. absurd cc, λ all. never (is_too_late ask journal) all.1 (served.closed.0 refl))
refused_exactly terms journal caller ask NoMemory after served = (λ is. absurd cc, λ all. absurd (all.2 refl))

-- what comes of an ask that nothing stops
added_unsent : (old new : SessionState) (caller : ℕ) (command : Command) → IsGrown old new → AddsCommand old.journal caller command false new.journal →
    Rose old.sink.faults new.sink.faults
added_unsent old new caller command grown adds =
    let same : grown.more ≡ adds.entry ∷ [] = append_cancel_left old.journal grown.more (adds.entry ∷ []) (sym grown.journal ∙ adds.added) in
    grown.unsent (ap are_sent same ∙ rw adds.sent_is refl)

pub nothing_stops_it : NothingStopsIt
nothing_stops_it old new caller ask (Taken text) served grown accepted early calm = inl (text, refl)
nothing_stops_it old new caller ask (Refused text) served grown accepted early calm =
    absurd (none_refuses (ask_refusal old.terms old.journal caller ask) (command_asked ask).id text accepted (served.refused text refl))
nothing_stops_it old new caller ask SinkFault served grown accepted early calm =
    absurd (calm (added_unsent old new caller (command_asked ask) grown served.entry))
nothing_stops_it old new caller ask Closed served grown accepted early calm = never (is_too_late ask old.journal) early (served.closed.0 refl)
nothing_stops_it old new caller ask NoMemory served grown accepted early calm = inr refl

-- ---- a plugin's ask

-- what its command comes to in a session that takes lines is what its line does
pub serves_line : (terms : Terms) (journal : List Entry) (caller : ℕ) (line : List ℕ) (reply : Reply) (after : List Entry) → is_over journal ≡ false →
    ServesCommand terms journal caller (ask_of line) reply after → Serves terms journal caller (PluginLine line) reply after
serves_line terms journal caller line reply after early serves = record {
  entry = serves.entry;
  accepted = serves.accepted;
  refused = serves.refused;
  answer = serves.answer;
  closed = (λ is. absurd (serves.stays is), λ late. never (is_over journal) early late);
  memory = λ is. λ other. absurd cc;
  sends = λ is. λ other. absurd cc;
}

no_text : (text : List ℕ) → encode_utf8_all text ≡ [] → text ≡ []
no_text text is =
    let none : length (encode_utf8_all text) ≡ 0 = ap length is in
    nil_from_length text (omega (arith, length-le-encodes text, none))

-- the end of its session is never refused, and answered by nothing
pub serves_end : (terms : Terms) (journal : List Entry) (caller : ℕ) (reply : Reply) (after : List Entry) → is_over journal ≡ false →
    ServesCommand terms journal caller ending reply after → Serves terms journal caller PluginEnd reply after
serves_end terms journal caller reply after early serves = record {
  entry = serves.entry;
  accepted = λ is. refl;
  refused = serves.refused;
  answer = λ text is. no_text text (∥∥₁_elim (serves.answer text is) (Coded-set (coded_list coded_ℕ) _ _) (λ told. told));
  closed = (λ is. absurd (serves.stays is), λ late. never (is_over journal) early late);
  memory = λ is. λ other. absurd cc;
  sends = λ is. λ other. absurd cc;
}

-- ---- a line of the front end

by_sent : (terms : Terms) (journal : List Entry) (line : List ℕ) (after : List Entry) (sent : Bool) → is_over journal ≡ false →
    AddsCommand journal 0 (command_of line) sent after → Serves terms journal 0 (FrontLine line) (reply_if [] sent) after
by_sent terms journal line after true early adds = serves_sent terms journal 0 (FrontLine line) after [] early refl adds refl
by_sent terms journal line after false early adds = serves_unsent terms journal 0 (FrontLine line) after early (λ is. cc) refl adds

-- an entry of it was put in
pub serves_front : (terms : Terms) (journal : List Entry) (line : List ℕ) (middle after : List Entry) (entry : Entry) (sent : Bool) {reply : Reply} →
    is_over journal ≡ false → entry ≡ front_entry (command_of line) entry.shelf true → reply ≡ reply_if [] sent →
    after ≡ middle ++ with_sent entry sent ∷ [] → middle ≡ journal → Serves terms journal 0 (FrontLine line) reply after
serves_front terms journal line middle after entry sent {reply} early is told put same =
    let At : Reply → Type 0 = λ r. Serves terms journal 0 (FrontLine line) r after in
    subst At (sym told)
    (by_sent terms journal line after sent early
    (record {
      entry = with_sent entry sent;
      added = put ∙ ap (λ log. log ++ with_sent entry sent ∷ []) same;
      caller_is = ap (λ (e : Entry). e.caller) is;
      command_is = ap (λ (e : Entry). e.command) is;
      sent_is = refl;
    }))

-- ---- the closing

pub serves_closing : (terms : Terms) (journal after : List Entry) {reply : Reply} → has_closing journal ≡ false → reply ≡ Taken [] →
    after ≡ journal ++ closing_entry ∷ [] → Serves terms journal 0 CloseDown reply after
serves_closing terms journal after {reply} none told put =
    let At : Reply → Type 0 = λ r. Serves terms journal 0 CloseDown r after in
    subst At (sym told)
    (serves_sent terms journal 0 CloseDown after [] none refl
    (record { entry = closing_entry; added = put; caller_is = refl; command_is = refl; sent_is = refl }) refl)

-- ---- a command of a plugin

refused_known : (refusal : Option Verdict) (id : Id) (text : List ℕ) → ∥ IsRefusal id refusal text ∥₁ → IsRefusedBy refusal id text
refused_known None id text known = ∥∥₁_elim known never_prop (λ refuses. not_none (sym refuses.refused))
refused_known (Some verdict) id text known =
    ∥∥₁_map known (λ refuses.
    let At : Verdict → Type 0 = λ v. IsAnswerText (plugin_answer id v) (encode_utf8_all text) in
    let same : refuses.verdict ≡ verdict = verdict_is (sym refuses.refused) in
    subst At same refuses.answer)
  where
    verdict_is : {v : Verdict} → Some v ≡ Some verdict → v ≡ verdict
    verdict_is is = cc

module _ (terms : Terms) (journal : List Entry) (caller : ℕ) (command : Command) (after : List Entry) where
  pub command_lacking : after ≡ journal → ServesCommand terms journal caller command NoMemory after
  command_lacking same = record {
    entry = same;
    accepted = λ is. absurd cc;
    refused = λ text is. absurd cc;
    answer = λ text is. absurd cc;
    stays = λ is. cc;
  }

  pub command_refused : (text : List ℕ) → after ≡ journal → ∥ IsRefusal command.id (refusal_in (session_of terms journal) caller command) text ∥₁ →
      ServesCommand terms journal caller command (Refused text) after
  command_refused text same refuses = record {
    entry = same;
    accepted = λ is. absurd cc;
    refused =
        λ other is.
        subst (IsRefusedBy (refusal_in (session_of terms journal) caller command) command.id) (refusal_text text other is)
        (refused_known (refusal_in (session_of terms journal) caller command) command.id text refuses);
    answer = λ other is. absurd cc;
    stays = λ is. cc;
  }

  command_sent : (text : List ℕ) (sent : Bool) → refusal_in (session_of terms journal) caller command ≡ None →
      IsVerdictText command.id (verdict_in (session_of terms journal) caller command) text → AddsCommand journal caller command sent after →
      ServesCommand terms journal caller command (reply_if text sent) after
  command_sent text true accepted told adds = record {
    entry = adds;
    accepted = λ is. accepted;
    refused = λ other is. absurd cc;
    answer = λ other is. subst (IsVerdictText command.id (verdict_in (session_of terms journal) caller command)) (answer_text text other is) told;
    stays = λ is. cc;
  }
  command_sent text false accepted told adds = record {
    entry = adds;
    accepted = λ is. accepted;
    refused = λ other is. absurd cc;
    answer = λ other is. absurd cc;
    stays = λ is. cc;
  }

  pub command_put : (text : List ℕ) (sent : Bool) {reply : Reply} → refusal_in (session_of terms journal) caller command ≡ None →
      IsVerdictText command.id (verdict_in (session_of terms journal) caller command) text → reply ≡ reply_if text sent →
      after ≡ journal ++ plugin_entry caller command sent ∷ [] → ServesCommand terms journal caller command reply after
  command_put text sent {reply} accepted told is put =
      let At : Reply → Type 0 = λ r. ServesCommand terms journal caller command r after in
      subst At (sym is)
      (command_sent text sent accepted told
      (record { entry = plugin_entry caller command sent; added = put; caller_is = refl; command_is = refl; sent_is = refl }))
