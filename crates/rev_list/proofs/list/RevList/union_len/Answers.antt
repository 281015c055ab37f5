use Rattle.std.specs.Arc.{arc_value}
use Rattle.std.proofs.Common.{length, ap, ◌∙◌}
use Rattle.rev_list.specs.Kept.{steps_of, history_of}
use Rattle.rev_list.proofs.HistoryLemmas.{length-dead_now}
use Rattle.rev_list.proofs.list.RevList.union_len.Goals as goal

pub returns : goal.returns
returns c =
    rw (← c.self.view_is) (c.len.ensures ∙ (ap length (c.deref.ensures ∙ c.self.invariant.dead) ∙ length-dead_now (history_of (arc_value c.self.inside.settled) (steps_of c.self.inside.records))))
