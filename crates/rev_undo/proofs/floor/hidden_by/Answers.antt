use Rattle.std.proofs.Common.{if◌then◌else◌, length, ap, ◌∙◌, arith}
use Rattle.subset_runs.specs.Subset.{union}
use Rattle.plain_text.specs.Numbers.{flipped}
use Rattle.rev_list.specs.declared.settled.SettledGroup.{SettledGroup}
use Rattle.rev_list.specs.Settled.{hidden_of}
use Rattle.rev_undo.proofs.FloorLemmas.{length-hidden_of, one_more}
use Rattle.rev_undo.proofs.floor.hidden_by.Goals as goal

pub loop-group-preserved : goal.loop-group-preserved
loop-group-preserved c =
    let was = c.loop-group.invariant in
    let set = flipped c.args.undone.now c.args.differ.now in
    let item = c.group-item.result in
    let more = one_more (hidden_of set) c.args.groups.now c.loop-group.group-index (length c.args.loaded) c.args.loaded c.loop-group.hidden c.in_ok-hidden.hidden item
    (length-hidden_of set (length c.args.loaded)) c.requires (omega (arith, c.loop-group-test.true)) was.long
    (c.in_ok-hidden.ensures ∙
    ap (union c.loop-group.hidden) (c.hidden_of.ensures ∙ ap (λ b. if b then item.inserted else item.deleted) c.is_in-in_set.ensures) ∙
    ap (λ (g : SettledGroup). union c.loop-group.hidden (hidden_of set g)) c.group-item.is) was.so_far in
    record { long = more.long; so_far = more.so_far }
