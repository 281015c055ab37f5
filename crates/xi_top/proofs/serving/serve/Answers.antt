use Rattle.outside.specs.Source.{source_state}
use Rattle.xi_top.proofs.ReadLemmas.{served, so_far_first, so_far_next}
use Rattle.xi_top.proofs.EnterLemmas.{reads_on}
use Rattle.xi_top.proofs.serving.serve.Goals as goal

pub loop-outcome-init : goal.loop-outcome-init
loop-outcome-init g c =
    let l = g.L.LineTaker in
    let law = g.met.L.LineTaker in
    let tell = source_state g.S.Source.left g.S.Source.faults g.S.Source.failures g.S.Source.reads in
    record {
      ready = c.requires.ready;
      small = c.requires.small;
      later = law.same c.args.run.now.taker;
      so_far =
          so_far_first l.seen l.later l.ready law.onward (tell c.args.source.now) c.args.run.now (law.same c.args.run.now.taker) c.requires.ready
          c.requires.first;
    }

pub step-requires : goal.step-requires
step-requires g c =
    let law = g.met.L.LineTaker in
    let l = c.loop-outcome in
    record {
      ready = l.invariant.ready;
      reads =
          reads_on (g.L.LineTaker.serves c.args.run.now.taker) (g.L.LineTaker.serves l.run.taker)
          (λ before who ask given after. law.serves_on c.args.run.now.taker l.run.taker before who ask given after l.invariant.later) c.requires.reads;
      small = l.invariant.small;
    }

pub loop-outcome-preserved : goal.loop-outcome-preserved
loop-outcome-preserved g c =
    let l = g.L.LineTaker in
    let law = g.met.L.LineTaker in
    let tell = source_state g.S.Source.left g.S.Source.faults g.S.Source.failures g.S.Source.reads in
    let so_far = c.loop-outcome.invariant.so_far in
    let run = c.loop-outcome.run in
    let next = c.step.new.self in
    record {
      ready = c.step.ensures.ready;
      small = c.step.ensures.small c.in-Goes.is;
      later = law.onward c.args.run.now.taker run.taker next.taker c.loop-outcome.invariant.later c.step.ensures.later;
      so_far =
          so_far_next l.seen l.later l.ready law.onward (tell c.args.source.now) (tell c.loop-outcome.source) (tell c.step.new.source) c.args.run.now.taker
          run next so_far c.step.ensures.later (law.same next.taker) c.step.ensures.ready (c.in-Goes.ensures.step so_far.taken so_far.answered);
    }

pub returns-in-Ends-clause-later : goal.returns-in-Ends-clause-later
returns-in-Ends-clause-later g c =
    g.met.L.LineTaker.onward c.args.run.now.taker c.loop-outcome.run.taker c.step.new.self.taker c.loop-outcome.invariant.later c.step.ensures.later

pub returns-in-Ends-clause-served : goal.returns-in-Ends-clause-served
returns-in-Ends-clause-served g c =
    let l = g.L.LineTaker in
    let law = g.met.L.LineTaker in
    let tell = source_state g.S.Source.left g.S.Source.faults g.S.Source.failures g.S.Source.reads in
    let so_far = c.loop-outcome.invariant.so_far in
    served l.seen l.later l.ready law.onward (tell c.args.source.now) (tell c.loop-outcome.source) (tell c.step.new.source) c.args.run.now.taker
    c.loop-outcome.run c.step.new.self c.in-Ends.outcome so_far c.step.ensures.later (c.in-Ends.ensures.step so_far.taken so_far.answered)
