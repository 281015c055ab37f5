use Rattle.std.proofs.Common.{ap, sym, ◌∙◌}
use Rattle.std.specs.Arc.{arc_value}
use Rattle.rev_list.specs.Settled.{Settled}
use Rattle.rev_list.proofs.RecordLemmas.{len_is}
use Rattle.rev_list.proofs.list.RevList.floor_len.Goals as goal

pub returns : goal.returns
returns c =
    let s = c.self.inside in
    let was = c.self.invariant in
    rw (← c.self.view_is)
    (c.len.ensures ∙ ap (λ (x : Settled). x.len) c.deref.ensures ∙ sym (len_is (arc_value s.settled) s.records was.parts was.sound was.kept))
