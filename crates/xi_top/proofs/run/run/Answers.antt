use Rattle.outside.specs.Source.{source_state}
use Rattle.outside.specs.Sink.{sink_state}
use Rattle.core_session.specs.Shelves.{shelf_state}
use Rattle.xi_top.proofs.UnstartedLemmas.{AnswersInTime-none, IsReadByCount-none, RunsAlone-none, TakesTurns-none}
use Rattle.xi_top.proofs.run.run.Goals as goal

pub returns-in-Ok-clause-alone : goal.returns-in-Ok-clause-alone
returns-in-Ok-clause-alone g c =
    let report = c.into_report.ensures in rw (report.sink, report.shelf, report.journal, report.status) (c.in-Ok.ensures.ran)

pub returns-in-Ok-clause-reads : goal.returns-in-Ok-clause-reads
returns-in-Ok-clause-reads g c = rw (c.into_report.ensures.status) (c.in-Ok.ensures.reads)

pub returns-in-Ok-clause-in_time : goal.returns-in-Ok-clause-in_time
returns-in-Ok-clause-in_time g c =
    let report = c.into_report.ensures in rw (report.sink, report.shelf, report.journal) (c.in-Ok.ensures.in_time)

pub returns-in-Ok-clause-turns : goal.returns-in-Ok-clause-turns
returns-in-Ok-clause-turns g c =
    let report = c.into_report.ensures in rw (report.plugins.0, report.plugins.1, report.journal) (c.in-Ok.ensures.turns)

pub returns-in-Err-clause-alone : goal.returns-in-Err-clause-alone
returns-in-Err-clause-alone g c =
    let tell_source = source_state g.S.Source.left g.S.Source.faults g.S.Source.failures g.S.Source.reads in
    let tell_sink = sink_state g.K.Sink.held g.K.Sink.faults g.K.Sink.failures in
    let tell_shelf = shelf_state g.H.Shelf.files g.H.Shelf.faults in
    RunsAlone-none tell_source tell_sink tell_shelf _ _ _ _ _ _ c.in-Err.report c.in-Err.ensures.unstarted.0 c.in-Err.ensures.unstarted.1

pub returns-in-Err-clause-reads : goal.returns-in-Err-clause-reads
returns-in-Err-clause-reads g c =
    IsReadByCount-none (source_state g.S.Source.left g.S.Source.faults g.S.Source.failures g.S.Source.reads) _ _ _ _ _ c.in-Err.report c.in-Err.ensures.unstarted.0 c.in-Err.ensures.unstarted.1

pub returns-in-Err-clause-in_time : goal.returns-in-Err-clause-in_time
returns-in-Err-clause-in_time g c =
    let tell_source = source_state g.S.Source.left g.S.Source.faults g.S.Source.failures g.S.Source.reads in
    let tell_sink = sink_state g.K.Sink.held g.K.Sink.faults g.K.Sink.failures in
    let tell_shelf = shelf_state g.H.Shelf.files g.H.Shelf.faults in
    AnswersInTime-none tell_source tell_sink tell_shelf _ _ _ _ _ _ c.in-Err.report c.in-Err.ensures.unstarted.0 c.in-Err.ensures.unstarted.1

pub returns-in-Err-clause-turns : goal.returns-in-Err-clause-turns
returns-in-Err-clause-turns g c = TakesTurns-none g.P.Plugin.told _ _ _ c.in-Err.report c.in-Err.ensures.unstarted.0
