-- EACH LINE IS ANSWERED BEFORE THE NEXT READ: the moments of a run, one before each read of its source.
use Rattle.xi_top.specs.Alone.{terms_for}
use Rattle.std.specs.Prelude.{◌≡◌, ℕ, List, [], ◌∷◌, ◌++◌, length, map, ⊤}
use Rattle.std.specs.List.{AllByRecursion}
use Rattle.plain_text.specs.InputLines.{ended_lines}
use Rattle.front_wire.specs.Front.{command_of}
use Rattle.outside.specs.declared.source.Pulled.{Pulled}
use Rattle.outside.specs.declared.source.Pulled.TheVariants.{Got}
use Rattle.outside.specs.Source.{SourceState, Gives}
use Rattle.outside.specs.Sink.{Gains}
use Rattle.xi_plain.specs.declared.entry.Entry.{Entry}
use Rattle.xi_plain.specs.Journal.{commands, front_entries}
use Rattle.session_step.specs.Session.{first_session}
use Rattle.core_session.specs.Grown.{AreWritten, failures_with}
use Rattle.core_session.specs.Shelves.{HoldsSaves}
use Rattle.plugin_session.specs.Visit.{Visit}
use Rattle.plugin_crew.specs.Order.{IsOrdered}
use Rattle.xi_top.specs.Turns.{AnswersFor, ServesFor}
use Rattle.xi_top.specs.Run.{Outside, Passage, IsNoRun}
use Rattle.xi_top.specs.Step.{AsksOnce}
use Rattle.xi_top.specs.Written.{AreSent}

-- the bytes that were taken by a moment, and what the source, the sink and the shelf tell at it
pub record Moment : Type 0 where
  pub taken : List ℕ
  pub outside : Outside

-- NOTHING THAT IS WHOLE WAITS at a moment of a run with this journal: what was taken is what the source gave since the run began, and the
-- lines that LF ended in it are the front end's in the first entries, which were sent, each with its round of turns; what the sink gained since
-- then is what is written of these entries, and the shelf holds their saves; and no read failed
pub record IsAnswered (plugins : ℕ) (start : Outside) (journal : List Entry) (moment : Moment) : Type 0 where
  pub entries : List Entry
  pub later : List Entry
  pub first : journal ≡ entries ++ later
  pub asked : commands (front_entries entries) ≡ map command_of (ended_lines [] moment.taken)
  pub sent : AreSent (front_entries entries)
  pub visits : List (List Visit)
  pub rounds : IsOrdered (ServesFor plugins) (AnswersFor plugins) plugins (front_entries entries) visits entries
  pub gives : Gives start.source.left moment.outside.source.left moment.taken
  pub bytes : List ℕ
  pub gains : Gains start.sink.held moment.outside.sink.held bytes
  pub written : AreWritten (first_session (terms_for plugins)) entries bytes
  pub saves : HoldsSaves (terms_for plugins) start.shelf moment.outside.shelf entries
  pub no_read_failed : moment.outside.source.failures ≡ start.source.failures
  pub failures : moment.outside.sink.failures ≡ failures_with entries start.sink.failures

-- one read lies between two moments
pub record IsNext (moment next : Moment) : Type 0 where
  pub given : List ℕ
  pub asked : AsksOnce moment.outside.source next.outside.source (Got (length given)) given
  pub taken : next.taken ≡ moment.taken ++ given

-- the moments of a run that began so, the latest first: at the eldest nothing was taken or asked of the source, and one read lies between each two
abbrev pub AreMoments : Outside → List Moment → Type 0
AreMoments start [] = ⊤
AreMoments start (moment ∷ []) = (moment.taken ≡ []) × (moment.outside.source ≡ start.source)
AreMoments start (moment ∷ before ∷ moments) = IsNext before moment × AreMoments start (before ∷ moments)

-- one read more, which ended the run
pub record IsLastRead (moment : Moment) (after : SourceState) : Type 0 where
  pub answer : Pulled
  pub given : List ℕ
  pub asked : AsksOnce moment.outside.source after answer given

-- the latest of the moments is before the last read; there is none only where nothing was taken, written or entered
abbrev pub EndsAfter : List Moment → Passage → List Entry → Type 0
EndsAfter [] passage journal = IsNoRun passage journal
EndsAfter (moment ∷ moments) passage journal = IsLastRead moment passage.after.source

-- THE RUN ANSWERS IN TIME: it has moments, one before each read, and at each of them nothing that is whole waits
pub record AnswersInTime (plugins : ℕ) (passage : Passage) (journal : List Entry) : Type 0 where
  pub moments : List Moment
  pub one_a_read : AreMoments passage.before moments
  pub answered : AllByRecursion (IsAnswered plugins passage.before journal) moments
  pub last : EndsAfter moments passage journal
