use Rattle.std.proofs.Common.{if◌then◌else◌, ap, ap₂, sym, ◌∙◌, subst, arith}
use Rattle.subset_runs.specs.Subset.{union}
use Rattle.plain_text.specs.Numbers.{has}
use Rattle.rev_list.specs.declared.settled.SettledGroup.{SettledGroup}
use Rattle.rev_list.specs.Settled.{HasLengths, hidden_of}
use Rattle.rev_collect.proofs.LoopLemmas.{all_at, one_more}
use Rattle.rev_collect.proofs.left.dropped_by.Goals as goal

pub with_hidden-requires : goal.with_hidden-requires
with_hidden-requires c =
    let groups = c.args.groups.now in
    rw c.loop-group.invariant.long
    (subst (HasLengths c.args.len) (sym c.group-item.is)
    (all_at (HasLengths c.args.len) groups c.loop-group.group-index c.group-item.result c.requires (omega (arith, c.loop-group-test.true))))

pub loop-group-preserved : goal.loop-group-preserved
loop-group-preserved c =
    let keys = c.args.collected.now.keys in
    let undone = c.args.undone.now in
    let was = c.loop-group.invariant in
    let before = c.loop-group.dropped in
    let item = c.group-item.result in
    let more =
    one_more keys undone c.args.groups.now c.loop-group.group-index c.args.len item before c.in_ok-dropped.dropped (omega (arith, c.loop-group-test.true)) c.requires was.long
    (c.in_ok-dropped.ensures ∙
    ap₂ (λ b u. if b then union before (if u then item.inserted else item.deleted) else before) c.is_in-drops.ensures c.has.ensures.has ∙
    ap (λ (g : SettledGroup). if has keys g.group then union before (hidden_of undone g) else before) c.group-item.is) in
    record { long = more.long; so_far = more.so_far ∙ was.so_far }
