use Rattle.std.proofs.Common.{false, ap, ◌∙◌}
use Rattle.std.specs.Prelude.{replicate}
use Rattle.rev_list.proofs.ForCallers.{until-head}
use Rattle.rev_collect.proofs.ShareLemmas.{left_gone_on, may_go_on}
use Rattle.rev_collect.proofs.later.with_shared.Goals as goal

pub going_on-requires : goal.going_on-requires
going_on-requires c =
    let h = c.args.revs.now in
    may_go_on h c.args.floor c.args.groups.now.keys c.requires.may c.revisions_after-walk.ensures.edits c.undone-sets.ensures.sets
    c.is_collected-open.ensures.uncollected (until-head h c.revisions_after-walk.ensures.sound) c.args.left.now c.args.dropped.now c.requires.left
    c.requires.none

pub returns : goal.returns
returns c =
    let h = c.args.revs.now in
    left_gone_on h c.args.floor c.args.groups.now.keys c.requires.may c.revisions_after-walk.ensures.edits c.undone-sets.ensures.sets
    c.is_collected-open.ensures.uncollected (until-head h c.revisions_after-walk.ensures.sound) c.args.left.now c.args.dropped.now c.requires.left
    c.requires.none c.in_ok-made.made c.none.result c.in_ok-made.ensures (c.none.ensures ∙ ap (λ n. replicate n false) c.union_len.ensures)
