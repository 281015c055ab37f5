-- What one entry comes to, by what the session answers its ask.
use Rattle.std.proofs.Common.{◌≡◌, ℕ, Bool, true, false, List, [], ◌∷◌, ◌++◌, Option, None, refl, ap, sym, ◌∙◌, subst}
use Rattle.std.specs.Bool.{MatchBool}
use Rattle.xi_plain.specs.declared.ask.Ask.{Ask}
use Rattle.xi_plain.specs.declared.command.Command.{Command}
use Rattle.xi_plain.specs.declared.command.Id.{Id}
use Rattle.xi_plain.specs.declared.entry.Entry.{Entry}
use Rattle.xi_plain.specs.declared.entry.ShelfNote.{ShelfNote}
use Rattle.xi_plain.specs.declared.reply.Reply.{Reply}
use Rattle.xi_plain.specs.declared.reply.Reply.TheVariants.{Closed, NoMemory, Refused, SinkFault, Taken}
use Rattle.xi_plain.specs.Reply.{has_entry}
use Rattle.entry_lines.specs.PluginAnswer.{Verdict}
use Rattle.session_step.specs.declared.terms.Terms.{Terms}
use Rattle.core_session.specs.Kept.{with_sent}
use Rattle.core_session.specs.Serves.{AddsCommand, IsRefusedBy, Serves, ask_refusal, command_asked, is_taken}
use Rattle.journal_replay.specs.declared.entering.Entered.{Entered}
use Rattle.journal_replay.specs.declared.entering.Entered.TheVariants as entered
use Rattle.journal_replay.specs.Follow.{FollowsAt, Point}
use Rattle.journal_replay.specs.Inner.{AsksNoMore, EndsWith, IsReplayed, IsSettled}
use Rattle.journal_replay.specs.Replay.{asked_only}

-- an entry is known by its four parts
entry_is : (made : Entry) (caller : ℕ) (command : Command) (note : ShelfNote) (sent : Bool) → made.caller ≡ caller → made.command ≡ command →
    made.shelf ≡ note → made.sent ≡ sent → made ≡ record { caller = caller; command = command; shelf = note; sent = sent }
entry_is made caller command note sent of asks noted as_sent =
    ap (λ c. record { caller = c; command = made.command; shelf = made.shelf; sent = made.sent }) of ∙
    ap (λ c. record { caller = caller; command = c; shelf = made.shelf; sent = made.sent }) asks ∙
    ap (λ n. record { caller = caller; command = command; shelf = n; sent = made.sent }) noted ∙
    ap (λ s. record { caller = caller; command = command; shelf = note; sent = s }) as_sent

none_refuses : (refusal : Option Verdict) (id : Id) (text : List ℕ) → refusal ≡ None → IsRefusedBy refusal id text → ⊥
none_refuses refusal id text none refuses = subst (λ r. IsRefusedBy r id text) none refuses

-- the entry that was added, where its note is that of this one
added_is : (entry : Entry) (before after : List Entry) (command : Command) (sent : Bool) → entry.command ≡ command →
    AddsCommand before entry.caller command sent after → EndsWith entry.shelf after → after ≡ before ++ with_sent entry sent ∷ []
added_is entry before after command sent asks adds ends =
    let note : adds.entry.shelf ≡ entry.shelf = ends before adds.entry adds.added in
    let same : adds.entry ≡ with_sent entry sent =
    entry_is adds.entry entry.caller entry.command entry.shelf sent adds.caller_is (adds.command_is ∙ sym asks) note adds.sent_is in
    adds.added ∙ ap (λ made. before ++ made ∷ []) same

-- and without its note
some_added : (made : Bool) (entry : Entry) (before after : List Entry) (command : Command) (sent : Bool) → entry.command ≡ command →
    MatchBool made (AddsCommand before entry.caller command sent after) (after ≡ before) →
    (log : List Entry) × (after ≡ before ++ log) × AsksNoMore log entry
some_added true entry before after command sent asks adds =
    let alike : asked_only adds.entry ≡ asked_only entry =
    ap (λ c. asked_only (record { caller = c; command = adds.entry.command; shelf = entry.shelf; sent = true })) adds.caller_is ∙
    ap (λ c. asked_only (record { caller = entry.caller; command = c; shelf = entry.shelf; sent = true })) (adds.command_is ∙ sym asks) in
    (adds.entry ∷ [], adds.added, alike)
some_added false entry before after command sent asks same = ([], same ∙ sym (nothing_more before), tt)
  where
    nothing_more : (xs : List Entry) → xs ++ [] ≡ xs
    nothing_more [] = refl
    nothing_more (x ∷ xs) = ap (λ rest. x ∷ rest) (nothing_more xs)

-- WHAT AN ENTRY COMES TO whose ask the session was given, and which follows exactly where the session does not refuse the ask
module _ (plugins : ℕ) (point : Point) (entry : Entry) (terms : Terms) (before : List Entry) (ask : Ask) (after : List Entry)
    (asks : entry.command ≡ command_asked ask) (goes : ask_refusal terms before entry.caller ask ≡ None → FollowsAt plugins point entry)
    (came : FollowsAt plugins point entry → ask_refusal terms before entry.caller ask ≡ None) where
  taken_by : (answer : Reply) → is_taken answer ≡ true → Serves terms before entry.caller ask answer after → EndsWith entry.shelf after →
      IsReplayed entered.Taken plugins point entry before after
  taken_by (Taken text) is serves ends =
      (goes (serves.accepted refl), added_is entry before after (command_asked ask) true asks serves.entry ends)
  taken_by (Refused text) is serves ends = absurd cc
  taken_by SinkFault is serves ends = absurd cc
  taken_by Closed is serves ends = absurd cc
  taken_by NoMemory is serves ends = absurd cc

  pub entered_by : (result : Entered) (answer : Reply) → Serves terms before entry.caller ask answer after → IsSettled result answer entry.shelf after →
      IsReplayed result plugins point entry before after
  entered_by entered.Taken answer serves settled = taken_by answer settled.0 serves settled.1
  entered_by entered.SinkFault answer serves settled =
      let fault = subst (λ a. Serves terms before entry.caller ask a after) settled.0 serves in
      (goes (fault.accepted refl), added_is entry before after (command_asked ask) false asks fault.entry settled.1)
  entered_by entered.Differs answer serves settled =
      let (text, is) = settled in
      let refused = subst (λ a. Serves terms before entry.caller ask a after) is serves in (
        λ follows. none_refuses (ask_refusal terms before entry.caller ask) (command_asked ask).id text (came follows) (refused.refused text refl),
        refused.entry,
      )
  entered_by entered.NoMemory answer serves settled =
      some_added (has_entry answer) entry before after (command_asked ask) (is_taken answer) asks serves.entry
