use Rattle.line_cache.proofs.StepLemmas.{put-is, OnOk-both}
use Rattle.line_cache.proofs.step.put.Goals as goal

pub returns-in-Some-clause-standings : goal.returns-in-Some-clause-standings
returns-in-Some-clause-standings c =
    OnOk-both _ _ _ c.put_after.result
    (λ joined apart. (put-is c.pop.new.self c.in-Some.last c.args.step c.args.plan.now c.put_after.new.plan c.requires.some c.in-Some.ensures.popped joined apart).standings)
    c.put_after.ensures.joined c.put_after.ensures.apart

pub returns-in-Some-clause-count : goal.returns-in-Some-clause-count
returns-in-Some-clause-count c =
    OnOk-both _ _ _ c.put_after.result
    (λ joined apart. (put-is c.pop.new.self c.in-Some.last c.args.step c.args.plan.now c.put_after.new.plan c.requires.some c.in-Some.ensures.popped joined apart).count)
    c.put_after.ensures.joined c.put_after.ensures.apart

pub returns-in-Some-clause-longest : goal.returns-in-Some-clause-longest
returns-in-Some-clause-longest c =
    OnOk-both _ _ _ c.put_after.result
    (λ joined apart. (put-is c.pop.new.self c.in-Some.last c.args.step c.args.plan.now c.put_after.new.plan c.requires.some c.in-Some.ensures.popped joined apart).longest)
    c.put_after.ensures.joined c.put_after.ensures.apart

pub returns-in-Some-clause-placed : goal.returns-in-Some-clause-placed
returns-in-Some-clause-placed c =
    OnOk-both _ _ _ c.put_after.result
    (λ joined apart. (put-is c.pop.new.self c.in-Some.last c.args.step c.args.plan.now c.put_after.new.plan c.requires.some c.in-Some.ensures.popped joined apart).placed)
    c.put_after.ensures.joined c.put_after.ensures.apart
