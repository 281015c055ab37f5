-- What private functions say: what the front end of a run on threads came to, and who came back.
use Rattle.std.specs.Prelude.{◌≡◌, ◌≤◌, ℕ, Bool, List, IfSome, Option}
use Rattle.atomic_table.specs.Seated.{TableId}
use Rattle.outside.specs.Source.{SourceState, Gives}
use Rattle.xi_plain.specs.declared.entry.Entry.{Entry}
use Rattle.xi_plain.specs.declared.ask.Ask.{Ask}
use Rattle.xi_plain.specs.declared.ask.Ask.TheVariants.{CloseDown}
use Rattle.xi_plain.specs.declared.ask.Query.{Query}
use Rattle.xi_plain.specs.declared.reply.Reply.{Reply}
use Rattle.xi_plain.specs.declared.reply.Answer.{Answer}
use Rattle.xi_plain.specs.Room.{Begins}
use Rattle.room_lock.specs.Room.{Known}
use Rattle.plugin_session.specs.Turn.{Turned}
use Rattle.plugin_session.specs.Hired.{Hiring}
use Rattle.plugin_crew.specs.declared.took.Took.{Took}
use Rattle.plugin_crew.specs.Taker.{IsEnteredBy}
use Rattle.plugin_crew.specs.Threads.{AreBack, begun_in}
use Rattle.xi_top.specs.Ending.{Outcome}
use Rattle.xi_top.specs.Run.{HasFailedIf}
use Rattle.xi_top.specs.Served.{FailsOnceIf}
use Rattle.xi_top.specs.Step.{Stops}
use Rattle.xi_forms.specs.InTime.{EntersInTime}

-- THE FRONT END WAS SERVED to where the run stopped, which is by what was seen of the journal then; and then the closing entry came, after which
-- this was seen; and it is entered in time, whatever the journal became
pub record IsFrontServed (serves : List Entry → ℕ → Ask → Reply → List Entry → Type 0) (before after : SourceState) (outcome : Outcome)
    (seen : List Entry) : Type 0 where
  pub reached : List Entry
  pub taken : List ℕ
  pub left : List ℕ
  pub gives : Gives before.left after.left taken
  pub leaves : IfSome after.left (λ bytes. bytes ≡ left)
  pub stops : Stops reached taken left outcome
  pub source_failed : HasFailedIf outcome before after
  pub stays : before.faults ≤ after.faults
  pub source_failures : FailsOnceIf outcome before after
  pub took : Took
  pub closed : IsEnteredBy serves CloseDown reached took seen
  pub in_time : (journal : List Entry) → Begins seen journal → EntersInTime before after journal

-- ALL CAME BACK from the threads: the front end was served, and so were the plugins
pub record AllCameBack {O P : Type 0} (serves : O → List Entry → ℕ → Ask → Reply → List Entry → Type 0)
    (answers : O → List Entry → ℕ → Query → Answer → Type 0) (told : P → Option (List Turned)) (room : TableId) (first : O) (handed : List P)
    (before after : SourceState) (outcome : Outcome) (passes : List Known) (plugins : List P) (all : Bool) : Type 0 where
  pub seen : List Entry
  pub givens : List (Hiring O P)
  pub begun : begun_in givens ≡ handed
  pub back : AreBack serves answers told room first seen givens passes plugins all
  pub front : IsFrontServed (serves first) before after outcome seen
