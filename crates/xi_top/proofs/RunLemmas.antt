-- What a run comes to, by its status and by the count of failed writes.
use Rattle.xi_top.specs.Alone.{terms_for}
use Rattle.std.proofs.Common.{◌≡◌, ℕ, ◌+◌, ◌-◌, ◌<◌, inl, inr, Bool, true, false, List, [], ◌∷◌, ◌++◌, length, map, Ok, Err, refl, ap, sym, ◌∙◌, subst, length-append, arith}
use Rattle.std.proofs.lemmas.List.{length-map}
use Rattle.std.proofs.lemmas.List.Elements.{filter-append}
use Rattle.std.specs.Prelude.{IfSome, ◌==◌, ◌&&◌, ◌^◌, ◌⊎◌}
use Rattle.xi_plain.specs.declared.entry.Entry.{Entry}
use Rattle.front_wire.specs.Front.{command_of}
use Rattle.outside.specs.Faults.{Rose}
use Rattle.outside.specs.Sink.{SinkState}
use Rattle.outside.specs.Source.{SourceState}
use Rattle.outside.proofs.ForCallers.{Gains-none}
use Rattle.xi_plain.specs.Journal.{IsLegal, IsOrdered, closing_entry, commands, front_entries, has_own_note, is_ordered}
use Rattle.xi_plain.proofs.ForCallers.{front_entries-alone}
use Rattle.std.specs.List.{list_all}
use Rattle.session_step.specs.declared.terms.Terms.{Terms}
use Rattle.core_session.specs.Shelves.{HoldsSaves, ShelfState}
use Rattle.core_session.proofs.ForCallers.{HoldsSaves-none, shows_none}
use Rattle.xi_top.specs.declared.ending.Ending.TheVariants.{NoMemory, SourceFault, SinkFault, TooMany, TooLong}
use Rattle.xi_top.specs.Ending.{Outcome, status_of, most_lines}
use Rattle.xi_top.specs.Written.{CutsPlugin, IsSent, IsCutOff, IsWritten, IsWrittenByCount}
use Rattle.xi_top.specs.Run.{Outside, Passage, IsReadByCount, IsRun, RunsAlone, HasCauses}
use Rattle.xi_top.specs.Served.{FailsOnceIf}

first_of : (a b : Bool) → a && b ≡ true → a ≡ true
first_of true b is = refl
first_of false b is = absurd cc

ordered_by : (plugins : ℕ) (journal : List Entry) → IsLegal plugins journal → IsOrdered plugins journal
ordered_by plugins journal legal = first_of (is_ordered plugins journal) (list_all has_own_note journal) legal

-- where there are no plugins, the entries before the closing one ask what the lines do
pub asked-lines : (passage : Passage) (journal : List Entry) (outcome : Outcome) (run : IsRun 0 passage journal outcome) →
    commands run.entries ≡ map command_of run.lines.lines
asked-lines passage journal outcome run =
    ap commands (sym (front_entries-alone run.entries (closing_entry ∷ [])
    (ordered_by 0 (run.entries ++ closing_entry ∷ []) (subst (IsLegal 0) run.closed run.legal)))) ∙ run.lines.asked

-- the front end's entries are those, and the closing one
pub fronts-closed : (journal entries : List Entry) → journal ≡ entries ++ closing_entry ∷ [] →
    front_entries journal ≡ front_entries entries ++ closing_entry ∷ []
fronts-closed journal entries is = ap front_entries is ∙ filter-append (λ entry. entry.caller == 0) entries (closing_entry ∷ [])

-- ---- the causes

finished_cause : (plugins : ℕ) (passage : Passage) (journal : List Entry) (outcome : Outcome) → IsRun plugins passage journal outcome → status_of outcome ≡ 0 →
    IfSome passage.after.source.left (λ bytes. bytes ≡ [])
finished_cause plugins passage journal (Ok done) run is = subst (λ bytes. IfSome passage.after.source.left (λ l. l ≡ bytes)) run.lines.so_many.0 run.leaves
finished_cause plugins passage journal (Err NoMemory) run is = absurd (omega (arith, is))
finished_cause plugins passage journal (Err SourceFault) run is = absurd (omega (arith, is))
finished_cause plugins passage journal (Err SinkFault) run is = absurd (omega (arith, is))
finished_cause plugins passage journal (Err TooMany) run is = absurd (omega (arith, is))
finished_cause plugins passage journal (Err TooLong) run is = absurd (omega (arith, is))

source_cause : (plugins : ℕ) (passage : Passage) (journal : List Entry) (outcome : Outcome) → IsRun plugins passage journal outcome → status_of outcome ≡ 4 →
    Rose passage.before.source.faults passage.after.source.faults
source_cause plugins passage journal (Err SourceFault) run is = run.source_failed
source_cause plugins passage journal (Ok done) run is = absurd (omega (arith, is))
source_cause plugins passage journal (Err NoMemory) run is = absurd (omega (arith, is))
source_cause plugins passage journal (Err SinkFault) run is = absurd (omega (arith, is))
source_cause plugins passage journal (Err TooMany) run is = absurd (omega (arith, is))
source_cause plugins passage journal (Err TooLong) run is = absurd (omega (arith, is))

sink_cause : (plugins : ℕ) (passage : Passage) (journal : List Entry) (outcome : Outcome) → IsRun plugins passage journal outcome → status_of outcome ≡ 5 →
    Rose passage.before.sink.faults passage.after.sink.faults
sink_cause plugins passage journal (Err SinkFault) run is = run.written.rose
sink_cause plugins passage journal (Ok done) run is = absurd (omega (arith, is))
sink_cause plugins passage journal (Err NoMemory) run is = absurd (omega (arith, is))
sink_cause plugins passage journal (Err SourceFault) run is = absurd (omega (arith, is))
sink_cause plugins passage journal (Err TooMany) run is = absurd (omega (arith, is))
sink_cause plugins passage journal (Err TooLong) run is = absurd (omega (arith, is))

lines_cause : (plugins : ℕ) (passage : Passage) (journal : List Entry) (outcome : Outcome) → IsRun plugins passage journal outcome → status_of outcome ≡ 6 →
    length (front_entries journal) ≡ most_lines + 1
lines_cause plugins passage journal (Err TooMany) run is =
    omega (
      arith,
      ap length (fronts-closed journal run.entries run.closed),
      length-append (front_entries run.entries) (closing_entry ∷ []),
      length-map (front_entries run.entries) (λ entry. entry.command),
      ap length run.lines.asked,
      length-map run.lines.lines command_of,
      run.lines.so_many,
    )
lines_cause plugins passage journal (Ok done) run is = absurd (omega (arith, is))
lines_cause plugins passage journal (Err NoMemory) run is = absurd (omega (arith, is))
lines_cause plugins passage journal (Err SourceFault) run is = absurd (omega (arith, is))
lines_cause plugins passage journal (Err SinkFault) run is = absurd (omega (arith, is))
lines_cause plugins passage journal (Err TooLong) run is = absurd (omega (arith, is))

pub HasCauses-run : (plugins : ℕ) (passage : Passage) (journal : List Entry) (status : ℕ) → RunsAlone plugins passage journal status → HasCauses passage journal status
HasCauses-run plugins passage journal status (inl (outcome, same, run)) = record {
  finished = λ is. finished_cause plugins passage journal outcome run (sym same ∙ is);
  source_fault = λ is. source_cause plugins passage journal outcome run (sym same ∙ is);
  sink_fault = λ is. sink_cause plugins passage journal outcome run (sym same ∙ is);
  too_many = λ is. lines_cause plugins passage journal outcome run (sym same ∙ is);
}
HasCauses-run plugins passage journal status (inr (same, none)) = record {
  finished = λ is. absurd (omega (arith, same, is));
  source_fault = λ is. absurd (omega (arith, same, is));
  sink_fault = λ is. absurd (omega (arith, same, is));
  too_many = λ is. absurd (omega (arith, same, is));
}

-- ---- where a write failed

pub ByCount : Terms → SinkState → SinkState → List Entry → Type 0
ByCount terms before after journal =
    ((after.failures ≡ before.failures) × IsSent terms before after journal) ⊎
    ((after.failures ≡ before.failures + 1) × IsCutOff terms before after journal)

sent_count : (terms : Terms) (before after : SinkState) (journal : List Entry) → IsSent terms before after journal → ByCount terms before after journal
unfolding ByCount
sent_count terms before after journal sent = inl (sent.failures, sent)

cut_count : (terms : Terms) (before after : SinkState) (journal : List Entry) → IsCutOff terms before after journal → after.failures < 2 ^ 64 - 1 →
    ByCount terms before after journal
unfolding ByCount
cut_count terms before after journal cut low = inr (omega (arith, cut.failures, low), cut)

either_count : (terms : Terms) (before after : SinkState) (journal : List Entry) → IsSent terms before after journal ⊎ CutsPlugin terms before after journal →
    after.failures < 2 ^ 64 - 1 → ByCount terms before after journal
either_count terms before after journal (inl sent) low = sent_count terms before after journal sent
either_count terms before after journal (inr (cut, plugin)) low = cut_count terms before after journal cut low

by_count : (terms : Terms) (before after : SinkState) (journal : List Entry) (outcome : Outcome) → IsWritten terms outcome before after journal →
    after.failures < 2 ^ 64 - 1 → ByCount terms before after journal
by_count terms before after journal (Ok done) written low = sent_count terms before after journal written
by_count terms before after journal (Err SinkFault) written low = cut_count terms before after journal written low
by_count terms before after journal (Err NoMemory) written low = either_count terms before after journal written low
by_count terms before after journal (Err SourceFault) written low = either_count terms before after journal written low
by_count terms before after journal (Err TooMany) written low = either_count terms before after journal written low
by_count terms before after journal (Err TooLong) written low = either_count terms before after journal written low

none_failed : (terms : Terms) (before after : SinkState) (journal : List Entry) (outcome : Outcome) → IsWritten terms outcome before after journal →
    status_of outcome ≡ 0 → after.failures ≡ before.failures
none_failed terms before after journal (Ok done) written is = written.failures
none_failed terms before after journal (Err NoMemory) written is = absurd (omega (arith, is))
none_failed terms before after journal (Err SourceFault) written is = absurd (omega (arith, is))
none_failed terms before after journal (Err SinkFault) written is = absurd (omega (arith, is))
none_failed terms before after journal (Err TooMany) written is = absurd (omega (arith, is))
none_failed terms before after journal (Err TooLong) written is = absurd (omega (arith, is))

nothing_sent : (terms : Terms) (sink : SinkState) → IsSent terms sink sink []
nothing_sent terms sink = record { each = tt; failures = refl; bytes = []; gains = Gains-none sink.held; shows = ∣ shows_none terms ∣₁ }

pub IsWrittenByCount-run : (plugins : ℕ) (passage : Passage) (journal : List Entry) (status : ℕ) → RunsAlone plugins passage journal status →
    IsWrittenByCount (terms_for plugins) passage.before.sink passage.after.sink journal status
unfolding ByCount
IsWrittenByCount-run plugins passage journal status (inl (outcome, same, run)) = record {
  at_most_once = λ low. by_count (terms_for plugins) passage.before.sink passage.after.sink journal outcome run.written low;
  none = λ is. none_failed (terms_for plugins) passage.before.sink passage.after.sink journal outcome run.written (sym same ∙ is);
}
IsWrittenByCount-run plugins passage journal status (inr (same, none)) =
    let failures : passage.after.sink.failures ≡ passage.before.sink.failures = ap (λ (o : Outside). o.sink.failures) none.same in
    let Sent : Outside → Type 0 = λ after. IsSent (terms_for plugins) passage.before.sink after.sink journal in
    let Empty : List Entry → Type 0 = λ entries. IsSent (terms_for plugins) passage.before.sink passage.before.sink entries in
    record {
      at_most_once = λ low. inl (failures, subst Sent (sym none.same) (subst Empty (sym none.empty) (nothing_sent (terms_for plugins) passage.before.sink)));
      none = λ is. failures;
    }

-- ---- what the shelf holds

pub HoldsSaves-run : (plugins : ℕ) (passage : Passage) (journal : List Entry) (status : ℕ) → RunsAlone plugins passage journal status →
    HoldsSaves (terms_for plugins) passage.before.shelf passage.after.shelf journal
HoldsSaves-run plugins passage journal status (inl (outcome, same, run)) = run.saves
HoldsSaves-run plugins passage journal status (inr (same, none)) =
    let shelf : passage.after.shelf ≡ passage.before.shelf = ap (λ (o : Outside). o.shelf) none.same in
    let At : ShelfState → Type 0 = λ after. HoldsSaves (terms_for plugins) passage.before.shelf after journal in
    let Of : List Entry → Type 0 = λ entries. HoldsSaves (terms_for plugins) passage.before.shelf passage.before.shelf entries in
    subst At (sym shelf) (subst Of (sym none.empty) (HoldsSaves-none (terms_for plugins) passage.before.shelf))

-- ---- whether a read failed

pub IsReadByCount-outcome : (before after : SourceState) (outcome : Outcome) (status : ℕ) → status ≡ status_of outcome → FailsOnceIf outcome before after →
    IsReadByCount before after status
IsReadByCount-outcome before after (Ok done) status is same = record { others = λ other. same; failed = λ four. absurd (omega (arith, is, four)) }
IsReadByCount-outcome before after (Err NoMemory) status is same = record { others = λ other. same; failed = λ four. absurd (omega (arith, is, four)) }
IsReadByCount-outcome before after (Err SinkFault) status is same = record { others = λ other. same; failed = λ four. absurd (omega (arith, is, four)) }
IsReadByCount-outcome before after (Err TooMany) status is same = record { others = λ other. same; failed = λ four. absurd (omega (arith, is, four)) }
IsReadByCount-outcome before after (Err TooLong) status is same = record { others = λ other. same; failed = λ four. absurd (omega (arith, is, four)) }
IsReadByCount-outcome before after (Err SourceFault) status is fails =
    record { others = λ other. absurd (other is); failed = λ four low. omega (arith, fails, low) }
