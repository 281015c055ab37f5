use Rattle.std.proofs.Common.{take, arith}
use Rattle.std.proofs.lemmas.List.{length-take-le}
use Rattle.outside.specs.Source.{source_state}
use Rattle.xi_top.proofs.ReadLemmas.{step_failed, step_got}
use Rattle.xi_top.proofs.step.Run.step.Goals as goal

pub returns-in-Failed-clause-step : goal.returns-in-Failed-clause-step
returns-in-Failed-clause-step g c = λ taken at.
    let tell = source_state g.S.Source.left g.S.Source.faults g.S.Source.failures g.S.Source.reads in
    step_failed g.L.LineTaker.seen taken (tell c.args.source.now) (tell c.read.new.self) c.args.self.now c.in-Failed.ensures.gives
    c.read.ensures.faults_stay (c.read.ensures.failed c.in-Failed.is) c.in-Failed.ensures.failures c.read.ensures.reads at

pub returns-in-Got-clause-step : goal.returns-in-Got-clause-step
returns-in-Got-clause-step g c = λ taken at.
    let tell = source_state g.S.Source.left g.S.Source.faults g.S.Source.failures g.S.Source.reads in
    let n = c.in-Got.n in
    step_got g.L.LineTaker.seen taken (tell c.args.source.now) (tell c.read.new.self) (record { taker = c.feed.new.taker; intake = c.feed.new.self })
    (take n c.read.new.buf) n c.feed.result c.step_after.result c.in-Got.ensures.gives
    (length-take-le n c.read.new.buf c.in-Got.ensures.piece.1) c.in-Got.ensures.piece.0
    (omega (arith, c.in-Got.ensures.piece.1, c.read.auto.buf)) c.read.ensures.faults_stay c.in-Got.ensures.failures c.read.ensures.reads
    c.step_after.ensures (c.feed.ensures.goes taken at)
