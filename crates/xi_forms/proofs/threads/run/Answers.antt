use Rattle.std.proofs.Common.{ap, inr, []}
use Rattle.outside.specs.Source.{source_state}
use Rattle.outside.specs.Sink.{sink_state}
use Rattle.core_session.specs.Shelves.{shelf_state}
use Rattle.xi_top.proofs.ForCallers.{IsReadByCount-none, RunsAlone-none}
use Rattle.xi_forms.proofs.threads.run.Goals as goal

pub returns-in-Ok-clause-ran : goal.returns-in-Ok-clause-ran
returns-in-Ok-clause-ran g c =
    let report = c.into_report.ensures in rw (report.sink, report.shelf, report.journal, report.status) (c.in-Ok.ensures.ran)

pub returns-in-Ok-clause-reads : goal.returns-in-Ok-clause-reads
returns-in-Ok-clause-reads g c = rw (c.into_report.ensures.status) (c.in-Ok.ensures.reads)

pub returns-in-Ok-clause-in_time : goal.returns-in-Ok-clause-in_time
returns-in-Ok-clause-in_time g c = rw (c.into_report.ensures.journal) (c.in-Ok.ensures.in_time)

pub returns-in-Ok-clause-turns : goal.returns-in-Ok-clause-turns
returns-in-Ok-clause-turns g c =
    let report = c.into_report.ensures in rw (report.plugins.0, report.plugins.1, report.journal) (c.in-Ok.ensures.turns)

pub returns-in-Err-clause-ran : goal.returns-in-Err-clause-ran
returns-in-Err-clause-ran g c =
    let tell_source = source_state g.S.Source.left g.S.Source.faults g.S.Source.failures g.S.Source.reads in
    let tell_sink = sink_state g.K.Sink.held g.K.Sink.faults g.K.Sink.failures in
    let tell_shelf = shelf_state g.H.Shelf.files g.H.Shelf.faults in
    RunsAlone-none tell_source tell_sink tell_shelf _ _ _ _ _ _ c.in-Err.report c.in-Err.ensures.unstarted.0 c.in-Err.ensures.unstarted.1

pub returns-in-Err-clause-reads : goal.returns-in-Err-clause-reads
returns-in-Err-clause-reads g c =
    IsReadByCount-none (source_state g.S.Source.left g.S.Source.faults g.S.Source.failures g.S.Source.reads) _ _ _ _ _ c.in-Err.report c.in-Err.ensures.unstarted.0
    c.in-Err.ensures.unstarted.1

pub returns-in-Err-clause-in_time : goal.returns-in-Err-clause-in_time
returns-in-Err-clause-in_time g c =
    let tell = source_state g.S.Source.left g.S.Source.faults g.S.Source.failures g.S.Source.reads in
    let (none, same) = c.in-Err.ensures.unstarted in
    record { readings = []; one_a_read = tt; entered = tt; last = (none.empty, ap tell same) }

pub returns-in-Err-clause-turns : goal.returns-in-Err-clause-turns
returns-in-Err-clause-turns g c =
    let none = c.in-Err.ensures.unstarted.0 in inr (record { empty = none.empty; same = none.plugins_are; all_is = none.all_is })
