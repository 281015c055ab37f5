use Rattle.std.proofs.Common.{◌≡◌, map, ap₂, sym, ◌∙◌, subst}
use Rattle.std.proofs.lemmas.Result.{IfOk-weaker}
use Rattle.plain_text.specs.Numbers.{IsRising}
use Rattle.rev_collect.specs.Groups.{AreGroups}
use Rattle.rev_collect.specs.Joined.{all_joined}
use Rattle.rev_collect.proofs.JoinLemmas.{groups_are, groups_rise}
use Rattle.rev_collect.proofs.left.groups_at_head.Goals as goal

pub returns-clause-groups : goal.returns-clause-groups
returns-clause-groups c =
    let h = c.args.revs.now in
    IfOk-weaker c.all_joined.result (λ made. made.items ≡ all_joined c.union_len.result c.deref.result.now) (λ made. AreGroups h h.characters made.items)
    (λ made is.
    subst (AreGroups h h.characters) (sym (is ∙ ap₂ all_joined c.union_len.ensures c.deref.ensures.value))
    (groups_are h c.in_ok-edits.edits.items c.in_ok-edits.ensures c.is_collected-open.ensures.uncollected)) c.all_joined.ensures

pub returns-clause-rising : goal.returns-clause-rising
returns-clause-rising c =
    let h = c.args.revs.now in
    IfOk-weaker c.all_joined.result (λ made. made.items ≡ all_joined c.union_len.result c.deref.result.now) (λ made. IsRising (map (λ g. g.group) made.items))
    (λ made is.
    subst (λ groups. IsRising (map (λ g. g.group) groups)) (sym (is ∙ ap₂ all_joined c.union_len.ensures c.deref.ensures.value))
    (groups_rise h c.in_ok-edits.edits.items c.in_ok-edits.ensures c.is_collected-open.ensures.uncollected)) c.all_joined.ensures
