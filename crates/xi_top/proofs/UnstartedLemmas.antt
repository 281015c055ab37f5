-- A run that never began.
use Rattle.std.proofs.Common.{◌≡◌, ℕ, arith, inr, List, [], Option, ap}
use Rattle.outside.specs.Source.{SourceState}
use Rattle.outside.specs.Sink.{SinkState}
use Rattle.core_session.specs.Shelves.{ShelfState}
use Rattle.plugin_session.specs.Turn.{Turned}
use Rattle.xi_top.specs.declared.run.Report.{Report}
use Rattle.xi_top.specs.InTime.{AnswersInTime}
use Rattle.xi_top.specs.Unstarted.{IsUnstarted}
use Rattle.xi_top.specs.Run.{IsNoRun, IsReadByCount, RunsAlone, passage_of}
use Rattle.xi_top.specs.Turns.{TakesTurns}

module _ {S K H P : Type 0} (tell_source : S → SourceState) (tell_sink : K → SinkState) (tell_shelf : H → ShelfState) (plugins : ℕ) (before after : S)
    (sink : K) (shelf : H) (handed : List P) (report : Report K H P) (none : IsUnstarted sink shelf handed report) (same : after ≡ before) where
  no_run : IsNoRun (passage_of tell_source tell_sink tell_shelf before after sink report.sink shelf report.shelf) report.journal.items
  no_run = record {
    empty = none.empty;
    same = λ i. record { source = tell_source (same i); sink = tell_sink (none.sink_is i); shelf = tell_shelf (none.shelf_is i) };
  }

  pub RunsAlone-none : RunsAlone plugins (passage_of tell_source tell_sink tell_shelf before after sink report.sink shelf report.shelf) report.journal.items
      report.status
  RunsAlone-none = inr (none.status, no_run)

  pub AnswersInTime-none : AnswersInTime plugins (passage_of tell_source tell_sink tell_shelf before after sink report.sink shelf report.shelf)
      report.journal.items
  AnswersInTime-none = record { moments = []; one_a_read = tt; answered = tt; last = no_run }

pub IsReadByCount-none : {S K H P : Type 0} (tell_source : S → SourceState) (before after : S) (sink : K) (shelf : H) (handed : List P)
    (report : Report K H P) → IsUnstarted sink shelf handed report → after ≡ before → IsReadByCount (tell_source before) (tell_source after) report.status
IsReadByCount-none tell_source before after sink shelf handed report none same = record {
  others = λ other. ap (λ s. (tell_source s).failures) same;
  failed = λ four. absurd (omega (arith, none.status, four));
}

pub TakesTurns-none : {K H P : Type 0} (told : P → Option (List Turned)) (sink : K) (shelf : H) (handed : List P) (report : Report K H P) →
    IsUnstarted sink shelf handed report → TakesTurns told handed report.plugins.items report.journal.items report.all_served
TakesTurns-none told sink shelf handed report none = inr (record { empty = none.empty; same = none.plugins_are; all_is = none.all_is })
