use Rattle.std.proofs.Common.{ap, ◌∙◌, arith}
use Rattle.subset_runs.specs.Subset.{union}
use Rattle.rev_list.specs.declared.settled.SettledGroup.{SettledGroup}
use Rattle.rev_undo.proofs.FloorLemmas.{one_more}
use Rattle.rev_undo.proofs.floor.loaded_in.Goals as goal

pub loop-group-preserved : goal.loop-group-preserved
loop-group-preserved c =
    let was = c.loop-group.invariant in
    let more = one_more (λ g. g.inserted) c.args.groups.now c.loop-group.group-index c.args.len c.none-all.result c.loop-group.all c.in_ok-all.all c.group-item.result (λ g is. is.inserted) c.requires
    (omega (arith, c.loop-group-test.true)) was.long
    (c.in_ok-all.ensures ∙ ap (λ (g : SettledGroup). union c.loop-group.all g.inserted) c.group-item.is) was.so_far in
    record { long = more.long; so_far = more.so_far }
