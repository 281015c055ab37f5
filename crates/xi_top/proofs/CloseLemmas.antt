-- How the closing entry comes into a journal.
use Rattle.std.proofs.Common.{◌≡◌, ℕ, Bool, true, false, List, [], ◌∷◌, ◌++◌, refl, ap, sym, ◌∙◌, subst, append_assoc}
use Rattle.std.specs.Prelude.{◌&&◌, ◌||◌}
use Rattle.std.specs.List.{AllByRecursion, list_all}
use Rattle.std.proofs.lemmas.List.Folds.{list_any-append}
use Rattle.xi_plain.specs.declared.command.Act.TheVariants.{Closing}
use Rattle.xi_plain.specs.declared.command.Id.TheVariants.{NoId}
use Rattle.xi_plain.specs.declared.entry.Entry.{Entry}
use Rattle.xi_plain.specs.declared.entry.ShelfNote.{ShelfNote}
use Rattle.xi_plain.specs.declared.entry.ShelfNote.TheVariants.{NoCall, Held, Absent, Failed, Done}
use Rattle.xi_plain.specs.declared.ask.Ask.TheVariants.{CloseDown}
use Rattle.xi_plain.specs.declared.reply.Reply.{Reply}
use Rattle.xi_plain.specs.declared.reply.Reply.TheVariants as reply
use Rattle.xi_plain.specs.Journal.{IsLegal, closes, closing_entry, front_entries, has_own_note, is_closing, is_no_call, is_ordered, may_have_note}
use Rattle.xi_plain.specs.Room.{Begins}
use Rattle.session_step.specs.declared.terms.Terms.{Terms}
use Rattle.session_step.specs.Accepted.{AreAccepted}
use Rattle.session_step.specs.Session.{first_session}
use Rattle.core_session.specs.Grown.{AreWritten}
use Rattle.core_session.specs.Kept.{has_closing}
use Rattle.core_session.specs.Serves.{AddsCommand, Serves, command_asked}
use Rattle.plugin_crew.specs.declared.took.Took.{Took}
use Rattle.plugin_crew.specs.declared.took.Took.TheVariants as took
use Rattle.plugin_crew.specs.Taker.{IsEnteredBy, adds_entry, is_sent, took_of}
use Rattle.xi_top.proofs.CoreLemmas.{not_closed}
use Rattle.xi_top.proofs.EnterLemmas.{front_one}
use Rattle.xi_top.proofs.WrittenLemmas.{closing_sent, nothing_after}

-- it came: where these entries stood before it, which are the front end's of the former journal and perhaps some others'
pub record IsClosedBy (old new : List Entry) (took : Took) : Type 0 where
  pub adds : adds_entry took ≡ true
  pub before : List Entry
  pub entry : Entry
  pub begins : Begins old before
  pub there : Begins (before ++ entry ∷ []) new
  pub front : front_entries before ≡ front_entries old
  pub fronts : front_entries new ≡ front_entries before ++ entry ∷ []
  pub own : entry.caller ≡ 0
  pub asks : entry.command ≡ record { id = NoId; act = Closing }
  pub sent : entry.sent ≡ is_sent took

closing_stays : (first new : List Entry) → Begins first new → has_closing first ≡ true → has_closing new ≡ true
closing_stays first new (more, is) closed =
    ap has_closing is ∙ list_any-append is_closing first more ∙ ap (λ c. c || has_closing more) closed

module _ (terms : Terms) (old new : List Entry) (accepted : ∥ AreAccepted terms new ∥₁)
    (open_ : AllByRecursion (λ entry. is_closing entry ≡ false) (front_entries old)) where
  made_by : (took : Took) (before after : List Entry) (given : Reply) (sent : Bool) → AddsCommand before 0 (command_asked CloseDown) sent after →
      Begins old before → Begins after new → front_entries before ≡ front_entries old → front_entries after ≡ front_entries new → adds_entry took ≡ true →
      sent ≡ is_sent took → IsClosedBy old new took
  made_by took before after given sent adds begins ends front fronts made is = record {
    adds = made;
    before = before;
    entry = adds.entry;
    begins = begins;
    there = subst (λ log. Begins log new) adds.added ends;
    front = front;
    fronts = sym fronts ∙ front_one before after adds.entry adds.added adds.caller_is;
    own = adds.caller_is;
    asks = adds.command_is;
    sent = adds.sent_is ∙ is;
  }

  by_reply : (before after : List Entry) (given : Reply) → Serves terms before 0 CloseDown given after → Begins old before → Begins after new →
      front_entries before ≡ front_entries old → front_entries after ≡ front_entries new → IsClosedBy old new (took_of given)
  by_reply before after (reply.Taken text) served begins ends front fronts =
      made_by took.Taken before after (reply.Taken text) true served.entry begins ends front fronts refl refl
  by_reply before after reply.SinkFault served begins ends front fronts =
      made_by took.Fault before after reply.SinkFault false served.entry begins ends front fronts refl refl
  by_reply before after (reply.Refused text) served begins ends front fronts = absurd (served.refused text refl)
  by_reply before after reply.Closed served begins ends front fronts =
      let same = served.entry in
      let none : has_closing new ≡ false =
      not_closed terms new accepted
      (subst (AllByRecursion (λ entry. is_closing entry ≡ false)) (sym front ∙ ap front_entries (sym same) ∙ fronts) open_) in
      let some : has_closing new ≡ true = closing_stays before new (subst (λ log. Begins log new) same ends) (served.closed.0 refl) in
      absurd (never none some)
    where
      never : {b : Bool} → b ≡ false → b ≡ true → ⊥
      never is other = absurd cc
  by_reply before after reply.NoMemory served begins ends front fronts = absurd (served.memory refl refl)

  pub closed_by : (took : Took) → IsEnteredBy (λ before caller ask given after. Serves terms before caller ask given after) CloseDown old took new →
      IsClosedBy old new took
  closed_by took (before, after, given, served, begins, ends, front, fronts, is) =
      subst (IsClosedBy old new) (sym is) (by_reply before after given served begins ends front fronts)

-- ---- it is the last entry

quiet : (note : ShelfNote) → is_no_call note ≡ true → note ≡ NoCall
quiet NoCall is = refl
quiet (Held bytes) is = absurd cc
quiet Absent is = absurd cc
quiet Failed is = absurd cc
quiet Done is = absurd cc

first_of : (a b : Bool) → a && b ≡ true → a ≡ true
first_of true b is = refl
first_of false b is = absurd cc

second_of : (a b : Bool) → a && b ≡ true → b ≡ true
second_of true b is = is
second_of false b is = absurd cc

note_there : (before : List Entry) (entry : Entry) (more : List Entry) → list_all has_own_note (before ++ (entry ∷ more)) ≡ true → has_own_note entry ≡ true
note_there [] entry more each = first_of (has_own_note entry) (list_all has_own_note more) each
note_there (first ∷ before) entry more each =
    note_there before entry more (second_of (has_own_note first) (list_all has_own_note (before ++ (entry ∷ more))) each)

-- an entry of the front end that asks to close, by whether it was sent
entry_is : (entry : Entry) (sent : Bool) → entry.caller ≡ 0 → entry.command ≡ record { id = NoId; act = Closing } → entry.shelf ≡ NoCall → entry.sent ≡ sent →
    entry ≡ record closing_entry { sent = sent }
entry_is entry sent own asks note is = λ i. record { caller = own i; command = asks i; shelf = note i; sent = is i }

by_sent : (sent : Bool) (entry : Entry) → entry ≡ record closing_entry { sent = sent } → (sent ≡ false → ⊥) → entry ≡ closing_entry
by_sent true entry is never = is
by_sent false entry is never = absurd (never refl)

pub ends_with : (terms : Terms) (old new : List Entry) (took : Took) (bytes : List ℕ) (closed : IsClosedBy old new took) → IsLegal terms.plugins new →
    AreWritten (first_session terms) new bytes → new ≡ closed.before ++ closing_entry ∷ []
ends_with terms old new took bytes closed legal wrote =
    let (more, there) = closed.there in
    let all : new ≡ closed.before ++ (closed.entry ∷ more) = there ∙ append_assoc closed.before (closed.entry ∷ []) more in
    let ordered = subst (λ log. is_ordered terms.plugins log ≡ true) all (first_of (is_ordered terms.plugins new) (list_all has_own_note new) legal) in
    let noted = subst (λ log. list_all has_own_note log ≡ true) all (second_of (is_ordered terms.plugins new) (list_all has_own_note new) legal) in
    let closes : is_closing closed.entry ≡ true = ap (λ command. closes command.act) closed.asks in
    let last : more ≡ [] = nothing_after terms.plugins closed.before closed.entry more closes ordered in
    let whole : new ≡ closed.before ++ closed.entry ∷ [] = all ∙ ap (λ rest. closed.before ++ (closed.entry ∷ rest)) last in
    let note : closed.entry.shelf ≡ NoCall =
    quiet closed.entry.shelf
    (sym (ap (λ command. may_have_note command.act closed.entry.shelf) closed.asks) ∙ note_there closed.before closed.entry more noted) in
    let is = entry_is closed.entry (is_sent took) closed.own closed.asks note closed.sent in
    let entry : closed.entry ≡ closing_entry =
    by_sent (is_sent took) closed.entry is (λ unsent. closing_sent (first_session terms) closed.before closed.entry bytes
    (is ∙ ap (λ sent. record closing_entry { sent = sent }) unsent) (subst (λ log. AreWritten (first_session terms) log bytes) whole wrote)) in
    whole ∙ ap (λ e. closed.before ++ e ∷ []) entry
