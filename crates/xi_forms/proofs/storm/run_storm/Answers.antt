use Rattle.std.proofs.Common.{Some, ap, length}
use Rattle.outside.specs.Sink.{sink_state}
use Rattle.xi_forms.proofs.StormLemmas.{storm_ends}
use Rattle.xi_forms.proofs.storm.run_storm.Goals as goal

pub returns-in-Ok-clause-ends : goal.returns-in-Ok-clause-ends
returns-in-Ok-clause-ends g c =
    let tell = sink_state g.K.Sink.held g.K.Sink.faults g.K.Sink.failures in
    storm_ends (length c.args.plugins.items) c.args.count c.args.seed _ _ c.told.result.journal.items _ c.told.result.status _ (tell c.args.sink)
    (tell c.told.result.sink) c.in-Ok.ensures.ran (ap Some c.new-source.ensures) (ap (λ s. s.held) c.new-inner.ensures) c.in-Ok.ensures.terms
    c.told.ensures.tells c.told.ensures.journal
