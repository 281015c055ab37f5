use Rattle.std.proofs.Common.{◌+◌, drop, ap, sym, ◌∙◌, arith}
use Rattle.rev_list.specs.declared.settled.SettledGroup.{SettledGroup}
use Rattle.rev_list.specs.Groups.{first_after, first_with, rev_of}
use Rattle.rev_list.proofs.FirstLemmas.{first_with-more}
use Rattle.rev_list.proofs.firsts.FirstEdits.of_groups.Goals as goal

pub loop-group-preserved : goal.loop-group-preserved
loop-group-preserved c = λ other.
    let was = c.loop-group.firsts in
    ap (λ found. first_with found (drop (c.loop-group.group-index + 1) c.args.groups.now) other) (c.in_ok-firsts-2.ensures other ∙
    ap (λ (g : SettledGroup). first_after (rev_of was.groups was.revs other) g.group g.last other) c.group-item.is) ∙
    sym (first_with-more c.args.groups.now c.loop-group.group-index c.group-item.result (rev_of was.groups was.revs other) other (omega (arith, c.loop-group-test.true))) ∙
    c.loop-group.invariant other
