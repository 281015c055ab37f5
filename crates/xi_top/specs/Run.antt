-- THE RUN: what a run of the core with a source, a sink, a shelf and plugins comes to.
use Rattle.xi_top.specs.Alone.{terms_for}
use Rattle.std.specs.Prelude.{◌≡◌, ℕ, ◌+◌, ◌-◌, ◌^◌, ◌<◌, ◌≤◌, List, [], ◌∷◌, ◌++◌, length, Err, IfSome, ⊤, ◌⊎◌}
use Rattle.xi_plain.specs.declared.entry.Entry.{Entry}
use Rattle.outside.specs.Faults.{Rose}
use Rattle.outside.specs.Source.{SourceState, Gives}
use Rattle.outside.specs.Sink.{SinkState}
use Rattle.xi_plain.specs.Journal.{IsLegal, closing_entry, commands, front_entries}
use Rattle.xi_top.specs.declared.ending.Ending.TheVariants.{SourceFault}
use Rattle.session_step.specs.Accepted.{AreAccepted}
use Rattle.core_session.specs.Shelves.{AreSavesAsked, HoldsSaves, ShelfState}
use Rattle.xi_top.specs.Ending.{Outcome, status_of, most_lines}
use Rattle.xi_top.specs.Lines.{HoldsLines}
use Rattle.xi_top.specs.Written.{IsWritten}

-- what a source, a sink and a shelf tell of themselves
pub record Outside : Type 0 where
  pub source : SourceState
  pub sink : SinkState
  pub shelf : ShelfState

-- what they tell before a run and after it
pub record Passage : Type 0 where
  pub before : Outside
  pub after : Outside

-- the same of a source, a sink and a shelf before and after, put together from what each of them tells
abbrev pub passage_of : {S K H : Type 0} → (S → SourceState) → (K → SinkState) → (H → ShelfState) → S → S → K → K → H → H → Passage
passage_of source_tells sink_tells shelf_tells source_before source_after sink_before sink_after shelf_before shelf_after = record {
  before = record { source = source_tells source_before; sink = sink_tells sink_before; shelf = shelf_tells shelf_before };
  after = record { source = source_tells source_after; sink = sink_tells sink_after; shelf = shelf_tells shelf_after };
}

-- the source's count rose, where the run ended for that
abbrev pub HasFailedIf : Outcome → SourceState → SourceState → Type 0
HasFailedIf (Err SourceFault) before after = Rose before.faults after.faults
HasFailedIf outcome before after = ⊤

-- THE RUN of so many plugins: the bytes that it took from the source and those that it left there, and the entries that it came to, closed by
-- the closing entry; those of the front end are what the lines became. The journal is legal, each entry of a plugin is one that the session
-- before it accepts, each saving asked the shelf exactly where its view was open, and the shelf holds the saves. Where the source tells nothing
-- these are some bytes
pub record IsRun (plugins : ℕ) (passage : Passage) (journal : List Entry) (outcome : Outcome) : Type 0 where
  pub taken : List ℕ
  pub left : List ℕ
  pub gives : Gives passage.before.source.left passage.after.source.left taken
  pub leaves : IfSome passage.after.source.left (λ bytes. bytes ≡ left)
  pub entries : List Entry
  pub closed : journal ≡ entries ++ closing_entry ∷ []
  pub legal : IsLegal plugins journal
  pub accepted : ∥ AreAccepted (terms_for plugins) journal ∥₁
  pub saves_asked : ∥ AreSavesAsked (terms_for plugins) journal ∥₁
  pub lines : HoldsLines outcome taken left (commands (front_entries entries))
  pub written : IsWritten (terms_for plugins) outcome passage.before.sink passage.after.sink journal
  pub saves : HoldsSaves (terms_for plugins) passage.before.shelf passage.after.shelf journal
  pub source_failed : HasFailedIf outcome passage.before.source passage.after.source
  pub source_stays : passage.before.source.faults ≤ passage.after.source.faults
  pub sink_stays : passage.before.sink.faults ≤ passage.after.sink.faults

-- the run never began for want of memory: nothing was taken, written or entered
pub record IsNoRun (passage : Passage) (journal : List Entry) : Type 0 where
  pub empty : journal ≡ []
  pub same : passage.after ≡ passage.before

-- THE HEADLINE: the run ended in one of its ways, which its status says, or it was none for want of memory
abbrev pub RunsAlone : ℕ → Passage → List Entry → ℕ → Type 0
RunsAlone plugins passage journal status =
    ((outcome : Outcome) × (status ≡ status_of outcome) × IsRun plugins passage journal outcome) ⊎ ((status ≡ 3) × IsNoRun passage journal)

-- THE CAUSES of the statuses, as the source, the sink and the journal tell them: only for that of 0 the source has to tell its bytes.
-- (That of 7 stands in the bytes that were taken.)
pub record HasCauses (passage : Passage) (journal : List Entry) (status : ℕ) : Type 0 where
  pub finished : status ≡ 0 → IfSome passage.after.source.left (λ bytes. bytes ≡ [])
  pub source_fault : status ≡ 4 → Rose passage.before.source.faults passage.after.source.faults
  pub sink_fault : status ≡ 5 → Rose passage.before.sink.faults passage.after.sink.faults
  pub too_many : status ≡ 6 → length (front_entries journal) ≡ most_lines + 1

-- WHETHER A READ FAILED, by the number of failed reads alone: it ends as it began with every status but 4, and one higher with 4, where
-- it ends below its last value
pub record IsReadByCount (before after : SourceState) (status : ℕ) : Type 0 where
  pub others : (status ≡ 4 → ⊥) → after.failures ≡ before.failures
  pub failed : status ≡ 4 → after.failures < 2 ^ 64 - 1 → after.failures ≡ before.failures + 1
