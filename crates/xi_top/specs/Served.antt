-- A SOURCE SERVED, read by read, to where its run stopped: what was taken, and what waited before each read.
use Rattle.std.specs.Prelude.{◌≡◌, ◌≤◌, ℕ, List, [], ◌∷◌, ◌++◌, length, map, IfSome, Err, ⊤}
use Rattle.std.specs.List.{AllByRecursion}
use Rattle.plain_text.specs.InputLines.{ended_lines}
use Rattle.front_wire.specs.Front.{command_of}
use Rattle.outside.specs.Faults.{counted}
use Rattle.outside.specs.declared.source.Pulled.{Pulled}
use Rattle.outside.specs.declared.source.Pulled.TheVariants.{Got}
use Rattle.outside.specs.Source.{SourceState, Gives}
use Rattle.xi_plain.specs.declared.entry.Entry.{Entry}
use Rattle.xi_plain.specs.Journal.{commands, front_entries}
use Rattle.xi_top.specs.declared.step.Run.{Run}
use Rattle.xi_top.specs.declared.ending.Ending.TheVariants.{SourceFault}
use Rattle.xi_top.specs.Ending.{Outcome}
use Rattle.xi_top.specs.Run.{HasFailedIf}
use Rattle.xi_top.specs.Step.{AsksOnce, HasAnswered, Stops}
use Rattle.xi_top.specs.Written.{AreSent}

-- how often the source failed, by how the run ended
abbrev pub FailsOnceIf : Outcome → SourceState → SourceState → Type 0
FailsOnceIf (Err SourceFault) before after = after.failures ≡ counted before.failures
FailsOnceIf outcome before after = after.failures ≡ before.failures

-- before a read: the bytes that were taken by then, what the source tells, and who takes the lines
pub record Instant (L : Type 0) : Type 0 where
  pub taken : List ℕ
  pub source : SourceState
  pub taker : L

-- one read lies between two of them
pub record IsNextInstant {L : Type 0} (instant next : Instant L) : Type 0 where
  pub given : List ℕ
  pub asked : AsksOnce instant.source next.source (Got (length given)) given
  pub taken : next.taken ≡ instant.taken ++ given

-- one before each read, the latest first: at the eldest nothing was taken
abbrev pub AreInstants : {L : Type 0} → Instant L → List (Instant L) → Type 0
AreInstants first [] = ⊤
AreInstants first (instant ∷ []) = instant ≡ first
AreInstants first (instant ∷ before ∷ instants) = IsNextInstant before instant × AreInstants first (before ∷ instants)

module _ {L : Type 0} (seen : L → List Entry) (later : L → L → Type 0) (ready : L → Type 0) where
  -- NOTHING THAT IS WHOLE WAITED then: each line has its entry, which was sent. Who takes lines now is who took them then, after some lines
  pub record WasAnswered (first : Instant L) (now : L) (instant : Instant L) : Type 0 where
    pub asked : commands (front_entries (seen instant.taker)) ≡ map command_of (ended_lines [] instant.taken)
    pub sent : AreSent (front_entries (seen instant.taker))
    pub gives : Gives first.source.left instant.source.left instant.taken
    pub failures : instant.source.failures ≡ first.source.failures
    pub usable : ready instant.taker
    pub since : later first.taker instant.taker
    pub until : later instant.taker now

  -- the reads of a run so far
  pub record IsInTime (first : Instant L) (now : L) (latest : Instant L) : Type 0 where
    pub earlier : List (Instant L)
    pub one_a_read : AreInstants first (latest ∷ earlier)
    pub answered : AllByRecursion (WasAnswered first now) (latest ∷ earlier)

  -- a run so far: what it took, and its reads
  pub record IsSoFar (before now : SourceState) (start : L) (run : Run L) : Type 0 where
    pub taken : List ℕ
    pub answered : HasAnswered seen taken run
    pub gives : Gives before.left now.left taken
    pub stays : before.faults ≤ now.faults
    pub failures : now.failures ≡ before.failures
    pub in_time : IsInTime (record { taken = []; source = before; taker = start }) run.taker
        (record { taken = taken; source = now; taker = run.taker })

  -- a source was served from here to where the run stopped
  pub record IsServed (before after : SourceState) (old new : L) (outcome : Outcome) : Type 0 where
    pub taken : List ℕ
    pub left : List ℕ
    pub gives : Gives before.left after.left taken
    pub leaves : IfSome after.left (λ bytes. bytes ≡ left)
    pub stops : Stops (seen new) taken left outcome
    pub source_failed : HasFailedIf outcome before after
    pub stays : before.faults ≤ after.faults
    pub source_failures : FailsOnceIf outcome before after
    pub latest : Instant L
    pub in_time : IsInTime (record { taken = []; source = before; taker = old }) new latest
    pub last : (answered : Pulled) × (given : List ℕ) × AsksOnce latest.source after answered given
