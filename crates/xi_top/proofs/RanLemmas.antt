-- A run that has ended: what it comes to, and its moments.
use Rattle.std.proofs.Common.{◌≡◌, ◌≢◌, ℕ, ◌+◌, ◌≤◌, arith, inl, inr, Bool, true, false, List, [], ◌∷◌, ◌++◌, length, map, Option, Ok, Err, refl, ap, sym, ◌∙◌, subst, append_assoc}
use Rattle.std.proofs.Math.Bool.{Bool-set}
use Rattle.std.proofs.Math.Logic.{∥∥₁_elim, ∥∥₁_map}
use Rattle.std.proofs.lemmas.List.{length-map}
use Rattle.std.proofs.lemmas.List.Elements.{filter-append}
use Rattle.std.specs.Prelude.{◌==◌, ◌&&◌, ◌||◌, ◌⊎◌, IfSome, not}
use Rattle.std.specs.Bool.{MatchBool}
use Rattle.std.specs.List.{AllByRecursion, list_all}
use Rattle.plain_text.specs.InputLines.{ended_lines}
use Rattle.xi_plain.specs.declared.entry.Entry.{Entry}
use Rattle.xi_plain.specs.declared.ask.Ask.{Ask}
use Rattle.xi_plain.specs.declared.ask.Ask.TheVariants.{CloseDown}
use Rattle.xi_plain.specs.Journal.{IsLegal, closing_entry, commands, front_entries, has_own_note, is_closing, is_ordered}
use Rattle.xi_plain.specs.Room.{Begins}
use Rattle.front_wire.specs.Front.{command_of}
use Rattle.outside.specs.declared.source.Pulled.{Pulled}
use Rattle.outside.specs.Source.{SourceState, Gives}
use Rattle.session_step.specs.declared.terms.Terms.{Terms}
use Rattle.core_session.specs.Answers.{Answers}
use Rattle.core_session.specs.Grown.{IsGrown, SessionState, are_sent}
use Rattle.core_session.specs.Kept.{has_closing, is_over}
use Rattle.core_session.specs.Serves.{IsSessionJournal, Serves}
use Rattle.core_session.proofs.ForCallers.{closing_last}
use Rattle.plugin_session.specs.Turn.{Turned}
use Rattle.plugin_session.specs.Visit.{Visit, IsWhole}
use Rattle.plugin_crew.specs.declared.alone_front.AloneFront.{AloneFront}
use Rattle.plugin_crew.specs.declared.member.Member.{Member}
use Rattle.plugin_crew.specs.declared.standing.Standing.{Standing}
use Rattle.plugin_crew.specs.declared.standing.Standing.TheVariants as standing
use Rattle.plugin_crew.specs.declared.took.Took.{Took}
use Rattle.plugin_crew.specs.Alone.{IsClosed, IsRunning}
use Rattle.plugin_crew.specs.Taker.{IsEnteredBy, adds_entry}
use Rattle.plugin_crew.specs.Member.{AreMembers, AreNew, are_served, begun_of, plugins_of}
use Rattle.plugin_crew.specs.Order.{IsOrdered, IsOrderedWhole}
use Rattle.plugin_crew.specs.Standing.{HasStanding, is_open, is_served}
use Rattle.xi_top.specs.declared.ending.Ending.TheVariants.{NoMemory, SourceFault, SinkFault, TooMany, TooLong}
use Rattle.xi_top.specs.Alone.{terms_for}
use Rattle.xi_top.specs.Ending.{Outcome, settled}
use Rattle.xi_top.specs.Lines.{HoldsLines}
use Rattle.xi_top.specs.Run.{HasFailedIf, IsRun, Outside, Passage}
use Rattle.xi_top.specs.Step.{AsksOnce, IsCutBy, Stops}
use Rattle.xi_top.specs.InTime.{AnswersInTime, AreMoments, IsAnswered, Moment}
use Rattle.xi_top.specs.Turns.{EndsForMemory, HasTurns, InRun, AllHadTurns, AnswersFor, ServesFor}
use Rattle.xi_top.specs.Written.{AreSent, CutsPlugin, IsWritten}
use Rattle.xi_top.specs.Served.{AreInstants, FailsOnceIf, Instant, IsInTime, IsServed, WasAnswered}
use Rattle.xi_top.proofs.CloseLemmas.{IsClosedBy, closed_by, ends_with}
use Rattle.xi_top.proofs.CoreLemmas.{lines_open}
use Rattle.xi_top.proofs.EnterLemmas.{over_begins, same_last}
use Rattle.xi_top.proofs.TurnLemmas.{all_ended, begins_on}
use Rattle.xi_top.proofs.WrittenLemmas.{IsCutAt, IsSince, all_sent, are_sent_all, are_sent_cut, one_cut, sent_append, sent_or_cut, since_start}

-- ---- how it ended

-- one that was ended by an entry that was not sent did not take less than it says
lines_settled : (outcome : Outcome) (sent : Bool) (taken left : List ℕ) (entries : List Entry) → HoldsLines outcome taken left (commands entries) →
    HoldsLines (settled outcome sent) taken left (commands entries)
lines_settled (Ok done) true taken left entries lines = lines
lines_settled (Ok done) false taken left entries lines = record {
  lines = lines.lines;
  later = lines.later;
  rest = lines.rest;
  first = lines.first;
  whole = lines.whole;
  asked = lines.asked;
  so_many = tt;
  within = lines.within;
  few = lines.few;
}
lines_settled (Err ending) sent taken left entries lines = lines

failed_settled : (outcome : Outcome) (sent : Bool) (before after : SourceState) → HasFailedIf outcome before after → HasFailedIf (settled outcome sent) before after
failed_settled (Ok done) true before after failed = failed
failed_settled (Ok done) false before after failed = tt
failed_settled (Err ending) sent before after failed = failed

pub fails_settled : (outcome : Outcome) (sent : Bool) (before after : SourceState) → FailsOnceIf outcome before after →
    FailsOnceIf (settled outcome sent) before after
fails_settled (Ok done) true before after fails = fails
fails_settled (Ok done) false before after fails = fails
fails_settled (Err ending) sent before after fails = fails

first_of : (a b : Bool) → a && b ≡ true → a ≡ true
first_of true b is = refl
first_of false b is = absurd cc

-- an entry of the front end is none of a plugin
own_front : (entry : Entry) (entries : List Entry) → AreSent (front_entries (entries ++ entry ∷ [])) → entry.sent ≡ false → entry.caller ≢ 0
own_front entry entries each unsent own =
    last_sent (front_entries entries) entry
    (subst AreSent (filter-append (λ e. e.caller == 0) entries (entry ∷ []) ∙ ap (λ c. front_entries entries ++ front_entries (record entry { caller = c } ∷ [])) own) each) unsent
  where
    last_sent : (fronts : List Entry) (entry : Entry) → AreSent (fronts ++ record entry { caller = 0 } ∷ []) → entry.sent ≡ false → ⊥
    last_sent [] entry each unsent = never entry.sent each.0 unsent
      where
        never : (sent : Bool) → sent ≡ true → sent ≡ false → ⊥
        never sent is other = absurd cc
    last_sent (first ∷ fronts) entry each unsent = last_sent fronts entry each.1 unsent

module _ (terms : Terms) (old new : SessionState) (since : IsSince terms old new) (lawful : ∥ IsSessionJournal terms new.journal ∥₁) (entries : List Entry)
    (closed : new.journal ≡ entries ++ closing_entry ∷ []) (legal : IsLegal terms.plugins new.journal) where
  ordered_then : is_ordered terms.plugins (entries ++ closing_entry ∷ []) ≡ true
  ordered_then = first_of (is_ordered terms.plugins (entries ++ closing_entry ∷ [])) (list_all has_own_note (entries ++ closing_entry ∷ []))
      (subst (IsLegal terms.plugins) closed legal)

  none_then : has_closing entries ≡ false
  none_then = closing_last terms.plugins entries (subst (IsLegal terms.plugins) closed legal)

  all_there : AreSent entries → AreSent new.journal
  all_there each = subst AreSent (sym closed) (sent_append entries (closing_entry ∷ []) each (refl, tt))

  sent_there : AreSent entries → are_sent new.journal ≡ true
  sent_there each = are_sent_all new.journal (all_there each)

  cut_there : IsCutAt entries → are_sent new.journal ≡ false
  cut_there at =
      ap are_sent (closed ∙ ap (λ e. e ++ closing_entry ∷ []) at.cut ∙ append_assoc at.sent (at.last ∷ []) (closing_entry ∷ [])) ∙
      are_sent_cut at.sent at.last (closing_entry ∷ []) at.each at.unsent

  plugin_cut : (at : IsCutAt entries) → AreSent (front_entries entries) → CutsPlugin terms old.sink new.sink new.journal
  unfolding one_cut
  plugin_cut at fronts =
      (one_cut terms old new since lawful entries closed at, own_front at.last at.sent (subst (λ e. AreSent (front_entries e)) at.cut fronts) at.unsent)

  -- what was written, where all were sent, and where the last was not
  written_sent : (outcome : Outcome) → AreSent entries → (outcome ≡ Err SinkFault → ⊥) → IsWritten terms (settled outcome true) old.sink new.sink new.journal
  written_sent (Ok done) each not_cut = all_sent terms old new since lawful (all_there each)
  written_sent (Err SinkFault) each not_cut = absurd (not_cut refl)
  written_sent (Err NoMemory) each not_cut = inl (all_sent terms old new since lawful (all_there each))
  written_sent (Err SourceFault) each not_cut = inl (all_sent terms old new since lawful (all_there each))
  written_sent (Err TooMany) each not_cut = inl (all_sent terms old new since lawful (all_there each))
  written_sent (Err TooLong) each not_cut = inl (all_sent terms old new since lawful (all_there each))

  written_part : (outcome : Outcome) → IsCutAt entries → IsCutBy outcome entries → IsWritten terms (settled outcome false) old.sink new.sink new.journal
  written_part (Ok done) at fronts = one_cut terms old new since lawful entries closed at
  written_part (Err SinkFault) at over = one_cut terms old new since lawful entries closed at
  written_part (Err NoMemory) at fronts = inr (plugin_cut at fronts)
  written_part (Err SourceFault) at fronts = inr (plugin_cut at fronts)
  written_part (Err TooMany) at fronts = inr (plugin_cut at fronts)
  written_part (Err TooLong) at fronts = inr (plugin_cut at fronts)

  -- where all were sent and none closes, more is to come
  not_over : (all : List Entry) → AreSent all → has_closing all ≡ false → is_over all ≡ true → ⊥
  not_over [] each none over = never over
    where
      never : false ≡ true → ⊥
      never is = absurd cc
  not_over (entry ∷ all) each none over =
      let open_ = left_none (is_closing entry) (has_closing all) none in
      not_over all each.1 (right_none (is_closing entry) (has_closing all) none) (by (is_closing entry) entry.sent open_ each.0 over)
    where
      left_none : (a b : Bool) → (a || b) ≡ false → a ≡ false
      left_none true b is = absurd cc
      left_none false b is = refl

      right_none : (a b : Bool) → (a || b) ≡ false → b ≡ false
      right_none true b is = absurd cc
      right_none false b is = is

      by : (closing sent : Bool) → closing ≡ false → sent ≡ true → ((closing || not sent) || is_over all) ≡ true → is_over all ≡ true
      by false true is one later = later
      by true sent is one later = absurd cc
      by false false is one later = absurd cc

  pub written_so : (outcome : Outcome) → IsCutBy outcome entries →
      IsWritten terms (settled outcome (are_sent new.journal)) old.sink new.sink new.journal
  written_so outcome cut = by (sent_or_cut terms.plugins entries ordered_then none_then)
    where
      by : AreSent entries ⊎ IsCutAt entries → IsWritten terms (settled outcome (are_sent new.journal)) old.sink new.sink new.journal
      by (inl each) =
          subst (λ sent. IsWritten terms (settled outcome sent) old.sink new.sink new.journal) (sym (sent_there each))
          (written_sent outcome each (λ is. not_over entries each none_then (subst (λ o. IsCutBy o entries) is cut)))
      by (inr at) =
          subst (λ sent. IsWritten terms (settled outcome sent) old.sink new.sink new.journal) (sym (cut_there at)) (written_part outcome at cut)

-- ---- the run

cut_then : (outcome : Outcome) (seen before : List Entry) → Begins seen before → front_entries before ≡ front_entries seen → IsCutBy outcome seen →
    IsCutBy outcome before
cut_then (Ok done) seen before begins front cut = subst AreSent (sym front) cut
cut_then (Err SinkFault) seen before begins front cut = over_begins seen before begins cut
cut_then (Err NoMemory) seen before begins front cut = subst AreSent (sym front) cut
cut_then (Err SourceFault) seen before begins front cut = subst AreSent (sym front) cut
cut_then (Err TooMany) seen before begins front cut = subst AreSent (sym front) cut
cut_then (Err TooLong) seen before begins front cut = subst AreSent (sym front) cut

module _ (plugins : ℕ) (old new : SessionState) (since : IsSince (terms_for plugins) old new)
    (lawful : ∥ IsSessionJournal (terms_for plugins) new.journal ∥₁) where
  pub is_run : (seen : List Entry) (took : Took) (close : IsClosedBy seen new.journal took) → new.journal ≡ close.before ++ closing_entry ∷ [] →
      (before after : SourceState) (taken left : List ℕ) (outcome : Outcome) → Gives before.left after.left taken →
      IfSome after.left (λ bytes. bytes ≡ left) → Stops seen taken left outcome → HasFailedIf outcome before after → before.faults ≤ after.faults →
      IsRun plugins (record {
        before = record { source = before; sink = old.sink; shelf = old.shelf };
        after = record { source = after; sink = new.sink; shelf = new.shelf };
      }) new.journal (settled outcome (are_sent new.journal))
  is_run seen took close closed before after taken left outcome gives leaves stops failed stays =
      let legal : IsLegal plugins new.journal = ∥∥₁_elim lawful (Bool-set _ _) (λ l. l.legal) in
      let Held : List Entry → Type 0 = λ entries. HoldsLines (settled outcome (are_sent new.journal)) taken left (commands entries) in
      record {
        taken = taken;
        left = left;
        gives = gives;
        leaves = leaves;
        entries = close.before;
        closed = closed;
        legal = legal;
        accepted = ∥∥₁_map lawful (λ l. l.accepted);
        saves_asked = ∥∥₁_map lawful (λ l. l.saves_asked);
        lines = subst Held (sym close.front) (lines_settled outcome (are_sent new.journal) taken left (front_entries seen) stops.lines);
        written = written_so (terms_for plugins) old new since lawful close.before closed legal outcome
            (cut_then outcome seen close.before close.begins close.front stops.cut);
        saves = since.saves;
        source_failed = failed_settled outcome (are_sent new.journal) before after failed;
        source_stays = stays;
        sink_stays = since.sink_stays;
      }

-- ---- its plugins

module _ {P : Type 0} where
  -- each plugin with its visits
  abbrev pub runs_of : List (Member P) → List (List Visit) → List (InRun P)
  runs_of [] visits = []
  runs_of (member ∷ members) [] = []
  runs_of (member ∷ members) (visits ∷ rest) =
      record { began = member.began.value; came = member.plugin; visits = visits; well = is_served member.standing } ∷ runs_of members rest

  module _ (told : P → Option (List Turned)) (plugins : ℕ) where
    runs_began : (caller : ℕ) (journal : List Entry) (members : List (Member P)) (visits : List (List Visit)) →
        AreMembers told (ServesFor plugins) (AnswersFor plugins) caller journal members visits → map (λ run. run.began) (runs_of members visits) ≡ begun_of members
    runs_began caller journal [] visits are = refl
    runs_began caller journal (member ∷ members) [] are = absurd are
    runs_began caller journal (member ∷ members) (visits ∷ rest) are =
        ap (λ others. member.began.value ∷ others) (runs_began (caller + 1) journal members rest are.1)

    runs_came : (caller : ℕ) (journal : List Entry) (members : List (Member P)) (visits : List (List Visit)) →
        AreMembers told (ServesFor plugins) (AnswersFor plugins) caller journal members visits → map (λ run. run.came) (runs_of members visits) ≡ plugins_of members
    runs_came caller journal [] visits are = refl
    runs_came caller journal (member ∷ members) [] are = absurd are
    runs_came caller journal (member ∷ members) (visits ∷ rest) are =
        ap (λ others. member.plugin ∷ others) (runs_came (caller + 1) journal members rest are.1)

    runs_visits : (caller : ℕ) (journal : List Entry) (members : List (Member P)) (visits : List (List Visit)) →
        AreMembers told (ServesFor plugins) (AnswersFor plugins) caller journal members visits → map (λ run. run.visits) (runs_of members visits) ≡ visits
    runs_visits caller journal [] [] are = refl
    runs_visits caller journal [] (visits ∷ rest) are = absurd are
    runs_visits caller journal (member ∷ members) [] are = absurd are
    runs_visits caller journal (member ∷ members) (visits ∷ rest) are =
        ap (λ others. visits ∷ others) (runs_visits (caller + 1) journal members rest are.1)

    runs_well : (caller : ℕ) (journal : List Entry) (members : List (Member P)) (visits : List (List Visit)) →
        AreMembers told (ServesFor plugins) (AnswersFor plugins) caller journal members visits →
        list_all (λ run. run.well) (runs_of members visits) ≡ are_served members
    runs_well caller journal [] visits are = refl
    runs_well caller journal (member ∷ members) [] are = absurd are
    runs_well caller journal (member ∷ members) (visits ∷ rest) are =
        ap (λ others. is_served member.standing && others) (runs_well (caller + 1) journal members rest are.1)

    ends_by : (standing : Standing) (visits : List Visit) → HasStanding standing visits → is_open visits ≡ false →
        MatchBool (is_served standing) (IsWhole visits) (EndsForMemory visits)
    ends_by standing.Going visits stands shut = absurd (never stands shut)
      where
        never : {b : Bool} → b ≡ true → b ≡ false → ⊥
        never is other = absurd cc
    ends_by standing.Over visits stands shut = stands
    ends_by standing.Short [] stands shut = absurd stands
    ends_by standing.Short (visit ∷ visits) stands shut = stands

    runs_served : (caller : ℕ) (journal : List Entry) (members : List (Member P)) (visits : List (List Visit)) →
        AreMembers told (ServesFor plugins) (AnswersFor plugins) caller journal members visits → AllByRecursion (λ had. is_open had ≡ false) visits →
        AllHadTurns told plugins caller journal (runs_of members visits)
    runs_served caller journal [] visits are shut = tt
    runs_served caller journal (member ∷ members) [] are shut = absurd are
    runs_served caller journal (member ∷ members) (visits ∷ rest) are shut = (
      record {
        served = are.0.session.served;
        tells = are.0.session.tells;
        ends = ends_by member.standing visits are.0.session.stands shut.0;
      },
      runs_served (caller + 1) journal members rest are.1 shut.1,
    )

  -- all of it, where there are so many
  pub has_turns : (told : P → Option (List Turned)) (plugins : ℕ) (handed back : List P) (members : List (Member P)) (visits : List (List Visit))
      (journal entries : List Entry) (all : Bool) → plugins ≡ length handed → begun_of members ≡ handed → back ≡ plugins_of members →
      all ≡ are_served members → AreMembers told (ServesFor plugins) (AnswersFor plugins) 1 journal members visits →
      AllByRecursion (λ had. is_open had ≡ false) visits → front_entries journal ≡ entries ++ closing_entry ∷ [] →
      IsOrderedWhole (ServesFor plugins) (AnswersFor plugins) plugins entries closing_entry visits journal → HasTurns told handed back journal all
  has_turns told plugins handed back members visits journal entries all many begun came well are shut front order =
      let Served : ℕ → Type 0 = λ n. AllHadTurns told n 1 journal (runs_of members visits) in
      let Ordered : ℕ → Type 0 =
      λ n. IsOrderedWhole (ServesFor n) (AnswersFor n) n entries closing_entry (map (λ run. run.visits) (runs_of members visits)) journal in
      record {
        came = record {
          runs = runs_of members visits;
          handed_is = runs_began told plugins 1 journal members visits are ∙ begun;
          back_is = runs_came told plugins 1 journal members visits are ∙ sym came;
          all_is = well ∙ sym (runs_well told plugins 1 journal members visits are);
          served = subst Served many (runs_served told plugins 1 journal members visits are shut);
        };
        entries = entries;
        front = front;
        order = subst Ordered many
            (subst (λ v. IsOrderedWhole (ServesFor plugins) (AnswersFor plugins) plugins entries closing_entry v journal)
            (sym (runs_visits told plugins 1 journal members visits are)) order);
      }

-- ---- its moments

module _ {O P : Type 0} (state : O → SessionState) (told : P → Option (List Turned)) (fits : O → ℕ → Ask → Type 0) where
  abbrev pub Runs : O → O → List (Member P) → Type 0
  Runs first object members =
      IsRunning (λ o. (state o).journal) (λ o before caller ask given after. Serves (state o).terms before caller ask given after)
      (λ o log caller asked found. Answers (state o).terms log asked found) (λ a b. IsGrown (state a) (state b)) told fits first object members

  abbrev pub Later : AloneFront O P → AloneFront O P → Type 0
  Later f g =
      IsGrown (state f.object) (state g.object) × (g.first.value ≡ f.first.value)
      × (begun_of g.crew.members.items ≡ begun_of f.crew.members.items)

  abbrev pub moment_at : Instant (AloneFront O P) → Moment
  moment_at instant = record {
    taken = instant.taken;
    outside = record { source = instant.source; sink = (state instant.taker.object).sink; shelf = (state instant.taker.object).shelf };
  }

  answered_at : (plugins : ℕ) (first : O) (start source : SourceState) (taken : List ℕ) (object : O) (members : List (Member P)) (final : List Entry) →
      (state first).terms ≡ terms_for plugins → (state first).journal ≡ [] → length members ≡ plugins → Runs first object members →
      commands (front_entries (state object).journal) ≡ map command_of (ended_lines [] taken) → AreSent (front_entries (state object).journal) →
      Gives start.left source.left taken → source.failures ≡ start.failures → Begins (state object).journal final →
      IsAnswered plugins (record { source = start; sink = (state first).sink; shelf = (state first).shelf }) final
      (record { taken = taken; outside = record { source = source; sink = (state object).sink; shelf = (state object).shelf } })
  answered_at plugins first start source taken object members final made empty many run asked sent gives failures begins =
      let since = since_start (terms_for plugins) (state first) (state object) made empty run.members_are.0 in
      let Ordered : Terms → ℕ → Type 0 =
      λ terms count. IsOrdered (λ before caller ask given after. Serves terms before caller ask given after)
      (λ log caller query found. Answers terms log query found) count (front_entries (state object).journal) run.visits (state object).journal in
      record {
        entries = (state object).journal;
        later = begins.0;
        first = begins.1;
        asked = asked;
        sent = sent;
        visits = run.visits;
        rounds = subst (Ordered (terms_for plugins)) many (subst (λ terms. Ordered terms (length members)) made run.order);
        gives = gives;
        bytes = since.bytes;
        gains = since.gains;
        written = since.written_is;
        saves = since.saves;
        no_read_failed = failures;
        failures = since.failures;
      }

  moments_are : (first : Instant (AloneFront O P)) (start : Outside) (instants : List (Instant (AloneFront O P))) → first.taken ≡ [] →
      first.source ≡ start.source → AreInstants first instants → AreMoments start (map moment_at instants)
  moments_are first start [] none same are = tt
  moments_are first start (instant ∷ []) none same are =
      (ap (λ (i : Instant (AloneFront O P)). i.taken) are ∙ none, ap (λ (i : Instant (AloneFront O P)). i.source) are ∙ same)
  moments_are first start (instant ∷ before ∷ instants) none same (next, rest) =
      (record { given = next.given; asked = next.asked; taken = next.taken }, moments_are first start (before ∷ instants) none same rest)

  module _ (plugins : ℕ) (front now : AloneFront O P) (before : SourceState) (final : List Entry) (made : (state front.first.value).terms ≡ terms_for plugins)
      (empty : (state front.first.value).journal ≡ []) (many : length front.crew.members.items ≡ plugins) (begins : Begins (state now.object).journal final) where
    start_outside : Outside
    start_outside = record { source = before; sink = (state front.first.value).sink; shelf = (state front.first.value).shelf }

    members_many : (taker : AloneFront O P) → Later front taker → length taker.crew.members.items ≡ plugins
    members_many taker later =
        sym (length-map taker.crew.members.items (λ member. member.began.value)) ∙ ap length later.2 ∙
        length-map front.crew.members.items (λ member. member.began.value) ∙ many

    was_answered : (instants : List (Instant (AloneFront O P))) →
        AllByRecursion (WasAnswered (λ f. (state f.object).journal) Later (λ f. Runs f.first.value f.object f.crew.members.items)
        (record { taken = []; source = before; taker = front }) now) instants →
        AllByRecursion (IsAnswered plugins start_outside final) (map moment_at instants)
    unfolding start_outside
    was_answered [] each = tt
    was_answered (instant ∷ instants) each =
        let i = each.0 in
        let taker = instant.taker in
        let First : O → Type 0 = λ first. Runs first taker.object taker.crew.members.items in
        let grown = i.until.0 in
        let further : Begins (state taker.object).journal final = begins_on (state taker.object).journal (state now.object).journal final (grown.more, grown.journal) begins in (
          answered_at plugins front.first.value before instant.source instant.taken taker.object taker.crew.members.items final made empty
              (members_many taker i.since) (subst First i.since.1 i.usable) i.asked i.sent i.gives i.failures further,
          was_answered instants each.1,
        )

    pub in_time : (passage : Passage) (latest : Instant (AloneFront O P)) →
        IsInTime (λ f. (state f.object).journal) Later (λ f. Runs f.first.value f.object f.crew.members.items)
        (record { taken = []; source = before; taker = front }) now latest →
        passage.before ≡ record { source = before; sink = (state front.first.value).sink; shelf = (state front.first.value).shelf } →
        ((answered : Pulled) × (given : List ℕ) × AsksOnce latest.source passage.after.source answered given) → AnswersInTime plugins passage final
    unfolding start_outside
    in_time passage latest timely same (answered, given, asked) =
        let Are : Outside → Type 0 = λ start. AreMoments start (map moment_at (latest ∷ timely.earlier)) in
        let Answered : Outside → Type 0 = λ start. AllByRecursion (IsAnswered plugins start final) (map moment_at (latest ∷ timely.earlier)) in
        record {
          moments = map moment_at (latest ∷ timely.earlier);
          one_a_read = subst Are (sym same)
              (moments_are (record { taken = []; source = before; taker = front }) start_outside (latest ∷ timely.earlier) refl refl timely.one_a_read);
          answered = subst Answered (sym same) (was_answered (latest ∷ timely.earlier) timely.answered);
          last = record { answer = answered; given = given; asked = asked };
        }

  -- ---- from the first turns to the last ones

  module _ (plugins : ℕ) (core : O) (front last closed : AloneFront O P) (took : Took) (before after : SourceState) (outcome : Outcome)
      (first_is : front.first.value ≡ core) (made : (state core).terms ≡ terms_for plugins) (empty : (state core).journal ≡ [])
      (many : length front.crew.members.items ≡ plugins)
      (served : IsServed (λ f. (state f.object).journal) Later (λ f. Runs f.first.value f.object f.crew.members.items) before after front last outcome)
      (later : Later front last) (same : closed.first ≡ last.first)
      (ends : MatchBool (adds_entry took)
      (IsClosed (λ o. (state o).journal) (λ o log caller ask given next. Serves (state o).terms log caller ask given next)
      (λ o log caller asked found. Answers (state o).terms log asked found) (λ a b. IsGrown (state a) (state b)) told closed.first.value closed.object
      closed.crew.members.items (front_entries (state last.object).journal)) (Runs closed.first.value closed.object closed.crew.members.items))
      (entered : IsEnteredBy (λ log caller ask given next. Serves (state last.first.value).terms log caller ask given next) CloseDown (state last.object).journal
      took (state closed.object).journal)
      (lawful : ∥ IsSessionJournal (state closed.object).terms (state closed.object).journal ∥₁) where
    last_first : last.first.value ≡ core
    last_first = later.1 ∙ first_is

    closed_first : closed.first.value ≡ core
    closed_first = ap (λ snapshot. snapshot.value) same ∙ last_first

    grown_by : (made_entry : Bool) →
        MatchBool made_entry
        (IsClosed (λ o. (state o).journal) (λ o log caller ask given next. Serves (state o).terms log caller ask given next)
        (λ o log caller asked found. Answers (state o).terms log asked found) (λ a b. IsGrown (state a) (state b)) told closed.first.value closed.object
        closed.crew.members.items (front_entries (state last.object).journal)) (Runs closed.first.value closed.object closed.crew.members.items) →
        IsGrown (state closed.first.value) (state closed.object)
    grown_by true ended = ended.members_are.0
    grown_by false runs = runs.members_are.0

    since_core : IsSince (terms_for plugins) (state core) (state closed.object)
    since_core =
        since_start (terms_for plugins) (state core) (state closed.object) made empty
        (subst (λ (o : O). IsGrown (state o) (state closed.object)) closed_first (grown_by (adds_entry took) ends))

    lawful_now : ∥ IsSessionJournal (terms_for plugins) (state closed.object).journal ∥₁
    lawful_now = subst (λ (terms : Terms). ∥ IsSessionJournal terms (state closed.object).journal ∥₁) since_core.terms_are lawful

    closing : IsClosedBy (state last.object).journal (state closed.object).journal took
    closing =
        closed_by (terms_for plugins) (state last.object).journal (state closed.object).journal (∥∥₁_map lawful_now (λ l. l.accepted))
        (lines_open (front_entries (state last.object).journal) served.stops.lines.lines served.stops.lines.asked) took
        (subst (λ (terms : Terms). IsEnteredBy (λ log caller ask given next. Serves terms log caller ask given next) CloseDown (state last.object).journal took
        (state closed.object).journal) (ap (λ (o : O). (state o).terms) last_first ∙ made) entered)

    legal_now : IsLegal plugins (state closed.object).journal
    legal_now = ∥∥₁_elim lawful_now (Bool-set _ _) (λ l. l.legal)

    ending_so : (state closed.object).journal ≡ closing.before ++ closing_entry ∷ []
    ending_so =
        ends_with (terms_for plugins) (state last.object).journal (state closed.object).journal took since_core.bytes closing legal_now since_core.written_is

    goes_further : Begins (state last.object).journal (state closed.object).journal
    goes_further =
        begins_on (state last.object).journal closing.before (state closed.object).journal closing.begins (closing_entry ∷ [], ending_so)

    pub run_ended : IsRun plugins (record {
      before = record { source = before; sink = (state core).sink; shelf = (state core).shelf };
      after = record { source = after; sink = (state closed.object).sink; shelf = (state closed.object).shelf };
    }) (state closed.object).journal (settled outcome (are_sent (state closed.object).journal))
    run_ended =
        is_run plugins (state core) (state closed.object) since_core lawful_now (state last.object).journal took closing ending_so before after served.taken
        served.left outcome served.gives served.leaves served.stops served.source_failed served.stays

    pub in_time_ended : AnswersInTime plugins (record {
      before = record { source = before; sink = (state core).sink; shelf = (state core).shelf };
      after = record { source = after; sink = (state closed.object).sink; shelf = (state closed.object).shelf };
    }) (state closed.object).journal
    in_time_ended =
        in_time plugins front last before (state closed.object).journal (ap (λ (o : O). (state o).terms) first_is ∙ made)
        (ap (λ (o : O). (state o).journal) first_is ∙ empty) many goes_further (record {
          before = record { source = before; sink = (state core).sink; shelf = (state core).shelf };
          after = record { source = after; sink = (state closed.object).sink; shelf = (state closed.object).shelf };
        }) served.latest served.in_time
        (ap (λ (o : O). record { source = before; sink = (state o).sink; shelf = (state o).shelf }) (sym first_is)) served.last

    ended_closed : (made_entry : Bool) → made_entry ≡ true →
        MatchBool made_entry
        (IsClosed (λ o. (state o).journal) (λ o log caller ask given next. Serves (state o).terms log caller ask given next)
        (λ o log caller asked found. Answers (state o).terms log asked found) (λ a b. IsGrown (state a) (state b)) told closed.first.value closed.object
        closed.crew.members.items (front_entries (state last.object).journal)) (Runs closed.first.value closed.object closed.crew.members.items) →
        IsClosed (λ o. (state o).journal) (λ o log caller ask given next. Serves (state o).terms log caller ask given next)
        (λ o log caller asked found. Answers (state o).terms log asked found) (λ a b. IsGrown (state a) (state b)) told closed.first.value closed.object
        closed.crew.members.items (front_entries (state last.object).journal)
    ended_closed true is ended = ended
    ended_closed false is runs = absurd cc

    pub turns_ended : (handed back : List P) (all : Bool) → plugins ≡ length handed → begun_of closed.crew.members.items ≡ handed →
        back ≡ plugins_of closed.crew.members.items → all ≡ are_served closed.crew.members.items → length closed.crew.members.items ≡ plugins →
        HasTurns told handed back (state closed.object).journal all
    turns_ended handed back all some begun came well members =
        let ended = ended_closed (adds_entry took) closing.adds ends in
        let Members : Terms → Type 0 =
        λ terms. AreMembers told (λ log caller ask given next. Serves terms log caller ask given next) (λ log caller asked found. Answers terms log asked found) 1
        (state closed.object).journal closed.crew.members.items ended.visits in
        let Ordered : Terms → ℕ → Entry → Type 0 =
        λ terms count entry. IsOrderedWhole (λ log caller ask given next. Serves terms log caller ask given next)
        (λ log caller asked found. Answers terms log asked found) count (front_entries (state last.object).journal) entry ended.visits
        (state closed.object).journal in
        let terms_are = ap (λ (o : O). (state o).terms) closed_first ∙ made in
        let front_is : front_entries (state closed.object).journal ≡ front_entries (state last.object).journal ++ closing_entry ∷ [] =
        ap front_entries ending_so ∙ filter-append (λ entry. entry.caller == 0) closing.before (closing_entry ∷ []) ∙
        ap (λ fronts. fronts ++ closing_entry ∷ []) closing.front in
        let entry_is : ended.closing ≡ closing_entry =
        same_last (front_entries (state last.object).journal) ended.closing closing_entry (sym ended.front ∙ front_is) in
        let order : Ordered (terms_for plugins) plugins closing_entry =
        subst (λ entry. Ordered (terms_for plugins) plugins entry) entry_is
        (subst (λ count. Ordered (terms_for plugins) count ended.closing) members
        (subst (λ terms. Ordered terms (length closed.crew.members.items) ended.closing) terms_are ended.order)) in
        has_turns told plugins handed back closed.crew.members.items ended.visits (state closed.object).journal (front_entries (state last.object).journal) all
        some begun came well (subst Members terms_are ended.members_are.1)
        (all_ended (terms_for plugins) (ServesFor plugins) plugins (front_entries (state last.object).journal) ended.visits (state closed.object).journal order)
        front_is order

-- ---- a crew before its first turns

-- it has as many members as there are plugins, which are those
pub new_many : {P : Type 0} (caller : ℕ) (plugins : List P) (members : List (Member P)) → AreNew caller plugins members → length members ≡ length plugins
new_many caller [] [] new = refl
new_many caller [] (member ∷ members) new = absurd new
new_many caller (plugin ∷ plugins) [] new = absurd new
new_many caller (plugin ∷ plugins) (member ∷ members) new = omega (arith, new_many (caller + 1) plugins members new.1)

pub new_begun : {P : Type 0} (caller : ℕ) (plugins : List P) (members : List (Member P)) → AreNew caller plugins members → begun_of members ≡ plugins
new_begun caller [] [] new = refl
new_begun caller [] (member ∷ members) new = absurd new
new_begun caller (plugin ∷ plugins) [] new = absurd new
new_begun caller (plugin ∷ plugins) (member ∷ members) new = λ i. new.0.began i ∷ new_begun (caller + 1) plugins members new.1 i

pub new_plugins : {P : Type 0} (caller : ℕ) (plugins : List P) (members : List (Member P)) → AreNew caller plugins members → plugins_of members ≡ plugins
new_plugins caller [] [] new = refl
new_plugins caller [] (member ∷ members) new = absurd new
new_plugins caller (plugin ∷ plugins) [] new = absurd new
new_plugins caller (plugin ∷ plugins) (member ∷ members) new = λ i. new.0.now i ∷ new_plugins (caller + 1) plugins members new.1 i
