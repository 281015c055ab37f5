-- ONE STEP OF A RUN: one read of its source, and each line that is whole by then.
use Rattle.std.specs.Prelude.{◌≡◌, ℕ, ◌<◌, ◌≤◌, true, List, [], ◌++◌, length, map, IfSome, Option, Ok, Err, ⊤}
use Rattle.std.specs.List.{AllByRecursion}
use Rattle.plain_text.specs.InputLines.{ended_lines, unended}
use Rattle.front_wire.specs.Front.{command_of}
use Rattle.outside.specs.Faults.{Rose}
use Rattle.outside.specs.declared.source.Pulled.{Pulled}
use Rattle.outside.specs.declared.source.Pulled.TheVariants.{Got, End, Failed}
use Rattle.outside.specs.Source.{SourceState, Gives, failures_after, reads_after}
use Rattle.xi_plain.specs.declared.entry.Entry.{Entry}
use Rattle.xi_plain.specs.Journal.{commands, front_entries}
use Rattle.xi_top.specs.declared.feed.Intake.{Intake}
use Rattle.xi_top.specs.declared.step.Run.{Run}
use Rattle.xi_top.specs.declared.step.Stepped.{Stepped}
use Rattle.xi_top.specs.declared.step.Stepped.TheVariants.{Goes, Ends}
use Rattle.xi_top.specs.declared.ending.Ending.TheVariants.{SourceFault, SinkFault}
use Rattle.core_session.specs.Kept.{is_over}
use Rattle.xi_top.specs.Ending.{Outcome, most_lines, too_long}
use Rattle.xi_top.specs.Lines.{IsShort, IsWithinLimit, HoldsLines}
use Rattle.xi_top.specs.Written.{AreSent}

-- ---- where a run stands between two reads

-- what stands after the last LF, and how many lines were taken
pub record Begun : Type 0 where
  pub bytes : List ℕ
  pub count : ℕ

abbrev pub begun_of : Intake → Begun
begun_of intake = record { bytes = intake.begun.items; count = intake.taken }

-- the line that was begun is not too long, and fewer lines were taken than a run takes
pub record IsSmall (begun : Begun) : Type 0 where
  pub room : length begun.bytes < too_long
  pub few : begun.count < most_lines

-- THESE BYTES WERE TAKEN, where this journal was seen: each line that LF ended in them is an entry of the front end, which was sent, and none is
-- too long
pub record HasTaken (journal : List Entry) (taken : List ℕ) (begun : Begun) : Type 0 where
  pub asked : commands (front_entries journal) ≡ map command_of (ended_lines [] taken)
  pub sent : AreSent (front_entries journal)
  pub rest : begun.bytes ≡ unended [] taken
  pub short : AllByRecursion IsShort (ended_lines [] taken)
  pub within : AllByRecursion IsWithinLimit (ended_lines [] taken)
  pub counted : begun.count ≡ length (ended_lines [] taken)
  pub few : begun.count ≤ most_lines

-- it was not the source that failed
abbrev pub IsNoSourceFault : Outcome → Type 0
IsNoSourceFault (Err SourceFault) = ⊥
IsNoSourceFault outcome = ⊤

-- a run that ended for the sink's fault has an entry after which none is to come; in any other each entry of the front end was sent
abbrev pub IsCutBy : Outcome → List Entry → Type 0
IsCutBy (Err SinkFault) journal = is_over journal ≡ true
IsCutBy outcome journal = AreSent (front_entries journal)

-- the run stopped after these bytes were taken, where those are left
pub record Stops (journal : List Entry) (taken left : List ℕ) (outcome : Outcome) : Type 0 where
  pub lines : HoldsLines outcome taken left (commands (front_entries journal))
  pub cut : IsCutBy outcome journal

-- the run stopped at its input's end, or just before
abbrev pub Finishes : List ℕ → List Entry → Outcome → Type 0
Finishes taken journal outcome = IsNoSourceFault outcome × Stops journal taken [] outcome

-- THE RUN HAS ANSWERED these bytes: each line that LF ended in them has its entry, which was sent. Nothing that is whole waits
abbrev pub HasAnswered : {L : Type 0} → (L → List Entry) → List ℕ → Run L → Type 0
HasAnswered seen taken run = HasTaken (seen run.taker) taken (begun_of run.intake)

-- ---- one read

-- the most bytes that one read gives
abbrev pub most_read : ℕ
most_read = 4096

-- what an answer gave: some bytes, and not too many; none at the end, where none are left; none where the source failed
abbrev pub IsGivenBy : Pulled → List ℕ → Option (List ℕ) → Type 0
IsGivenBy (Got n) given left = (length given ≡ n) × (0 < n) × (n ≤ most_read)
IsGivenBy End given left = (given ≡ []) × IfSome left (λ bytes. bytes ≡ [])
IsGivenBy Failed given left = given ≡ []

-- THE SOURCE WAS ASKED ONCE, answered so, and gave these bytes
pub record AsksOnce (before after : SourceState) (answer : Pulled) (given : List ℕ) : Type 0 where
  pub gives : Gives before.left after.left given
  pub given_by : IsGivenBy answer given after.left
  pub stays : before.faults ≤ after.faults
  pub rose : answer ≡ Failed → Rose before.faults after.faults
  pub failures : after.failures ≡ failures_after answer before.failures
  pub reads : after.reads ≡ reads_after before.reads

-- WHAT A STEP COMES TO by the answer, where all these bytes were taken by then: the run has answered them and goes on, or it stopped in
-- them; at the input's end it stopped, and what stood after the last LF is a line too; and it stopped where the source failed
abbrev pub StepsBy : {L : Type 0} → (L → List Entry) → List ℕ → Run L → Pulled → Stepped → Type 0
StepsBy seen taken run (Got n) Goes = HasAnswered seen taken run
StepsBy seen taken run (Got n) (Ends (Ok done)) = ⊥
StepsBy seen taken run (Got n) (Ends (Err ending)) =
    IsNoSourceFault (Err ending) × ((more : List ℕ) → Stops (seen run.taker) taken more (Err ending))
StepsBy seen taken run End Goes = ⊥
StepsBy seen taken run End (Ends outcome) = Finishes taken (seen run.taker) outcome
StepsBy seen taken run Failed Goes = ⊥
StepsBy seen taken run Failed (Ends outcome) =
    (outcome ≡ Err SourceFault) × ((left : List ℕ) → Stops (seen run.taker) taken left outcome)

-- THE STEP: the source was asked once, and what that came to, where these bytes had been answered before
pub record IsStep {L : Type 0} (seen : L → List Entry) (taken : List ℕ) (before after : SourceState) (new : Run L) (stepped : Stepped) : Type 0 where
  pub answer : Pulled
  pub given : List ℕ
  pub asked : AsksOnce before after answer given
  pub comes_to : StepsBy seen (taken ++ given) new answer stepped
