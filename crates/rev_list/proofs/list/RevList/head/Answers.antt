use Rattle.std.proofs.Common.{◌≡◌, arith, ap, ◌∙◌}
use Rattle.std.specs.Arc.{arc_value}
use Rattle.rev_list.specs.Settled.{Settled}
use Rattle.rev_list.proofs.RecordLemmas.{head-history_of}
use Rattle.rev_list.proofs.list.RevList.head.Goals as goal

pub overflow_add-result : goal.overflow_add-result
overflow_add-result c =
    let at : c.floor.result ≡ (arc_value c.self.inside.settled).floor = c.floor.ensures ∙ ap (λ (x : Settled). x.floor) c.deref.ensures in
    omega (arith, at, c.len.ensures, c.self.invariant.numbers)

pub returns : goal.returns
returns c =
    let at : c.floor.result ≡ (arc_value c.self.inside.settled).floor = c.floor.ensures ∙ ap (λ (x : Settled). x.floor) c.deref.ensures in
    rw (← c.self.view_is) (omega (arith, at, c.len.ensures, head-history_of (arc_value c.self.inside.settled) c.self.inside.records))
