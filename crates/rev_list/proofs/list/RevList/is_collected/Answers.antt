use Rattle.std.proofs.Common.{ap, sym, ◌∙◌}
use Rattle.std.specs.Arc.{arc_value}
use Rattle.plain_text.specs.Numbers.{has}
use Rattle.rev_list.specs.Kept.{steps_of}
use Rattle.rev_list.specs.Settled.{Settled}
use Rattle.rev_list.proofs.RecordLemmas.{collected-history_of}
use Rattle.rev_list.proofs.list.RevList.is_collected.Goals as goal

pub returns-clause-collected : goal.returns-clause-collected
returns-clause-collected c =
    let s = c.self.inside in
    rw (← c.self.view_is)
    (c.has_collected.ensures ∙ ap (λ (x : Settled). has x.collected c.args.group) c.deref.ensures ∙
    sym (ap (λ groups. has groups c.args.group) (collected-history_of (arc_value s.settled) (steps_of s.records))))

pub returns-clause-uncollected : goal.returns-clause-uncollected
returns-clause-uncollected c =
    let s = c.self.inside in
    rw (← c.self.view_is, collected-history_of (arc_value s.settled) (steps_of s.records)) c.self.invariant.uncollected
