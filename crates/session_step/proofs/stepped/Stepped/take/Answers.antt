use Rattle.std.proofs.Common.{length, sym, subst, arith}
use Rattle.std.specs.Arc.{arc_value}
use Rattle.doc_session.specs.Step.{IsEventFor}
use Rattle.session_step.specs.declared.opened.Opened.{Opened}
use Rattle.session_step.specs.InnerStep.{each_event}
use Rattle.session_step.specs.Views.{TakesEvents}
use Rattle.session_step.proofs.OpenLemmas.{IsTakingTo-none, IsTakingTo-next, IsTakingTo-all, asked_at, may_at}
use Rattle.session_step.proofs.stepped.Stepped.take.Goals as goal

pub take_one-requires-clause-takes : goal.take_one-requires-clause-takes
take_one-requires-clause-takes c =
    let At : Opened → Type 0 = λ kept. TakesEvents (arc_value kept.doc) in
    subst At (sym c.kept-item.is) (asked_at c.args.held.now c.loop-kept.kept-index _ c.requires.asked c.loop-kept-test.true).0

pub take_one-requires-clause-may : goal.take_one-requires-clause-may
take_one-requires-clause-may c =
    let At : Opened → Type 0 = λ kept. IsEventFor (length (arc_value kept.doc).text.sessions) (each_event c.args.told) in
    subst At (sym c.kept-item.is) (may_at c.args.told c.args.held.now c.loop-kept.kept-index _ c.requires.may c.loop-kept-test.true)

pub loop-kept-init : goal.loop-kept-init
loop-kept-init c = IsTakingTo-none c.args.told c.args.self.now c.args.held.now

pub loop-kept-preserved : goal.loop-kept-preserved
loop-kept-preserved c =
    IsTakingTo-next c.args.told c.args.self.now c.args.held.now c.loop-kept.kept-index c.loop-kept.self c.take_one.new.self _ c.kept-item.result
    c.loop-kept.invariant c.loop-kept-test.true c.kept-item.is c.in_ok-take_one.ensures

pub returns : goal.returns
returns c =
    IsTakingTo-all c.args.told c.args.self.now c.args.held.now c.loop-kept.kept-index c.loop-kept.self c.loop-kept.invariant
    (omega (arith, c.loop-kept-test.false))
