-- What private functions say: how a run goes on within the bytes of a read, and how it stops.
use Rattle.std.specs.Prelude.{◌≡◌, ◌≢◌, ℕ, ◌+◌, ◌*◌, ◌<◌, ◌≤◌, Bool, true, false, List, [], ◌∷◌, ◌++◌, length, Ok, Err, ⊤, ◌⊎◌}
use Rattle.std.specs.List.{AllByRecursion}
use Rattle.front_wire.specs.Front.{command_of}
use Rattle.xi_plain.specs.declared.entry.Entry.{Entry}
use Rattle.xi_plain.specs.Journal.{front_entries}
use Rattle.core_session.specs.Kept.{is_over}
use Rattle.plugin_crew.specs.declared.took.Took.{Took}
use Rattle.plugin_crew.specs.declared.took.Took.TheVariants as took
use Rattle.xi_top.specs.declared.feed.Intake.{Intake}
use Rattle.xi_top.specs.declared.step.Stepped.{Stepped}
use Rattle.xi_top.specs.declared.step.Stepped.TheVariants.{Goes, Ends}
use Rattle.xi_top.specs.declared.ending.Ending.{Ending}
use Rattle.xi_top.specs.declared.ending.Ending.TheVariants.{NoMemory, SinkFault, TooMany, TooLong}
use Rattle.xi_top.specs.Ending.{Outcome, most_lines, too_long}
pub use Rattle.xi_top.specs.Step.{AsksOnce, Begun, begun_of, IsSmall, HasTaken, HasAnswered, IsCutBy, IsNoSourceFault, Stops, Finishes}

-- a number that rises with each byte that is taken
abbrev pub weight : Begun → ℕ
weight begun = 16_777_216 * begun.count + length begun.bytes

-- the run goes on after these bytes, or it stopped, whatever is left
abbrev pub GoesOn : List Entry → List ℕ → Begun → Outcome → Type 0
GoesOn journal taken begun (Ok done) = HasTaken journal taken begun
GoesOn journal taken begun (Err ending) =
    IsNoSourceFault (Err ending) × ((more : List ℕ) → Stops journal taken more (Err ending))

-- a run that goes on has room for the line that it began, and weighs more by the bytes that it took
pub record IsFed (old new : Begun) (bytes : List ℕ) : Type 0 where
  pub small : IsSmall new
  pub heavier : weight old + length bytes ≤ weight new

-- a run that goes on weighs more
abbrev pub IsHeavier : Intake → Intake → Type 0
IsHeavier old new = weight (begun_of old) < weight (begun_of new)

-- what a step comes to whose bytes were taken so
abbrev pub step_after : Outcome → Stepped
step_after (Ok done) = Goes
step_after (Err ending) = Ends (Err ending)

-- ---- one line

-- the front end has one entry more, which asks what the line does, and was sent or not
pub record IsEntry (old new : List Entry) (line : List ℕ) (sent : Bool) : Type 0 where
  pub entry : Entry
  pub added : front_entries new ≡ front_entries old ++ entry ∷ []
  pub asks : entry.command ≡ command_of line
  pub sent_is : entry.sent ≡ sent

-- why a line was not taken: for a fault of the sink, of its own entry or one before it; or for want of memory
abbrev pub FailsBy : List Entry → List Entry → List ℕ → Ending → Type 0
FailsBy old new line SinkFault = (is_over new ≡ true) × (IsEntry old new line false ⊎ (front_entries new ≡ front_entries old))
FailsBy old new line NoMemory = front_entries new ≡ front_entries old
FailsBy old new line ending = ⊥

-- the line was taken, or it was not
abbrev pub Enters : List Entry → List Entry → List ℕ → Outcome → Type 0
Enters old new line (Ok done) = IsEntry old new line true
Enters old new line (Err ending) = FailsBy old new line ending

-- how a run ends by what came of a line, if it does
abbrev pub ended_by : Took → Outcome
ended_by took.Taken = Ok tt
ended_by took.Fault = Err SinkFault
ended_by took.Closed = Err SinkFault
ended_by took.NoMemory = Err NoMemory

-- ---- bytes

-- why bytes were not kept: the line is too long with them, or there are some and memory was wanting
abbrev pub KeepsNot : List ℕ → Ending → Type 0
KeepsNot line TooLong = too_long ≤ length line
KeepsNot line NoMemory = line ≢ []
KeepsNot line ending = ⊥

-- bytes were put after those of the line that was begun
pub record IsKept (old new : Begun) (bytes : List ℕ) : Type 0 where
  pub joined : new.bytes ≡ old.bytes ++ bytes
  pub count : new.count ≡ old.count
  pub room : length (old.bytes ++ bytes) < too_long

-- the bytes were put after those of the line that was begun, or the run ended
abbrev pub KeepsBytes : Begun → Begun → List ℕ → Outcome → Type 0
KeepsBytes old new bytes (Ok done) = IsKept old new bytes
KeepsBytes old new bytes (Err ending) = KeepsNot (old.bytes ++ bytes) ending

-- a line more was taken, which is the last one that a run takes or not
abbrev pub Counts : ℕ → Outcome → Type 0
Counts count (Ok done) = count < most_lines
Counts count (Err ending) = (ending ≡ TooMany) × (count ≡ most_lines)

-- the bytes are a line's: the last of them is its only LF
abbrev pub EndsLine : List ℕ → Type 0
EndsLine bytes = (front : List ℕ) × (bytes ≡ front ++ 10 ∷ []) × AllByRecursion (λ b. b ≡ 10 → ⊥) front

-- no byte is an LF
abbrev pub HasNoEnd : List ℕ → Type 0
HasNoEnd bytes = AllByRecursion (λ b. b ≡ 10 → ⊥) bytes
