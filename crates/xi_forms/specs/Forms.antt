-- WHAT EACH FORM OF THE WORDS COMES TO.
use Rattle.std.specs.Prelude.{◌≡◌, ℕ, List, [], length, Option, ◌⊎◌}
use Rattle.outside.specs.Sink.{SinkState}
use Rattle.xi_plain.specs.Journal.{IsLegal}
use Rattle.plugin_session.specs.Turn.{Turned}
pub use Rattle.xi_forms.specs.Runs.{AnswersInTime, AreAccepted, EndsWell, HasCauses, HoldsSaves, IsCalm, IsReadByCount, IsWrittenByCount, Passage, Report, RunsAlone, ServesPlugins, TakesTurns, terms_for}
pub use Rattle.xi_forms.specs.Storm.{EndsStorm}
use Rattle.xi_forms.specs.InTime.{EntersInTime}

module _ {K H P : Type 0} (told : P → Option (List Turned)) (handed : List P) (report : Report K H P) where
  -- A FRONT END IS SERVED on the calling thread, and these plugins on threads of their own: the same run and its causes, what the shelf holds, where a
  -- write or a read failed, that each line is entered before the next read, how the plugins were served, and when it must end well
  pub record ServesOnThreads (passage : Passage) : Type 0 where
    pub headline : RunsAlone (length handed) passage report.journal.items report.status
    pub causes : HasCauses passage report.journal.items report.status
    pub saves : HoldsSaves (terms_for (length handed)) passage.before.shelf passage.after.shelf report.journal.items
    pub writes : IsWrittenByCount (terms_for (length handed)) passage.before.sink passage.after.sink report.journal.items report.status
    pub reads : IsReadByCount passage.before.source passage.after.source report.status
    pub in_time : EntersInTime passage.before.source passage.after.source report.journal.items
    pub turns : ServesPlugins told handed report.plugins.items report.journal.items report.all_served
    pub complete : IsCalm passage → EndsWell report.status

  -- A FRONT END IS SERVED on one thread beside these plugins: the run and its causes, what the shelf holds, where a write or a read failed, that each
  -- line is answered before the next read, how the plugins were served, and when it must end well
  pub record ServesAlone (passage : Passage) : Type 0 where
    pub headline : RunsAlone (length handed) passage report.journal.items report.status
    pub causes : HasCauses passage report.journal.items report.status
    pub saves : HoldsSaves (terms_for (length handed)) passage.before.shelf passage.after.shelf report.journal.items
    pub writes : IsWrittenByCount (terms_for (length handed)) passage.before.sink passage.after.sink report.journal.items report.status
    pub reads : IsReadByCount passage.before.source passage.after.source report.status
    pub in_time : AnswersInTime (length handed) passage report.journal.items
    pub turns : TakesTurns told handed report.plugins.items report.journal.items report.all_served
    pub complete : IsCalm passage → EndsWell report.status

  -- A STORM IS RUN of so many lines with this seed, beside these plugins, and its summary told to a sink: how it ends, that its journal is legal
  -- and its plugins' entries are accepted, and how the plugins were served
  pub record RunsStorm (count seed : ℕ) (before after : SinkState) : Type 0 where
    pub ends : EndsStorm count seed (length handed) before after report.journal.items report.status
    pub legal : (report.journal.items ≡ []) ⊎ IsLegal (length handed) report.journal.items
    pub accepted : ∥ AreAccepted (terms_for (length handed)) report.journal.items ∥₁
    pub turns : TakesTurns told handed report.plugins.items report.journal.items report.all_served
