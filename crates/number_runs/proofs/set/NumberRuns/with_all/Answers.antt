use Rattle.number_runs.specs.Inner.{AreJoined}
use Rattle.number_runs.proofs.RunLemmas.{numbers_in-with}
use Rattle.number_runs.proofs.set.NumberRuns.with_all.Goals as goal

pub returns : goal.returns
returns c =
    let items = c.self.inside.runs.items in
    let joined : AreJoined items c.in_ok-joined.field-0.items c.args.more.now.keys = rw c.deref.ensures.value at c.in_ok-joined.ensures in
    rw (← c.self.view_is) (numbers_in-with items c.in_ok-joined.field-0.items c.args.more.now.keys c.self.invariant joined.apart joined.numbers)
