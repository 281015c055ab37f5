use Rattle.std.proofs.Common.{List, Bool, ap, subst, sym, ◌∙◌}
use Rattle.subset_runs.specs.Subset.{items_outside}
use Rattle.plain_edits.specs.Collection.{MayCollect}
use Rattle.rev_engine.specs.State.{State}
use Rattle.rev_engine.proofs.CollectLemmas.{IsHeld-collected}
use Rattle.rev_engine.proofs.engine.Engine.next_left.Goals as goal

pub invariant_of-result : goal.invariant_of-result
invariant_of-result c =
    rw c.in_ok-text.ensures
    (IsHeld-collected c.self.inside.union c.self.inside.text c.self.inside.revs c.self.inside.limit c.self.inside.spent c.self.invariant c.args.floor
    c.args.groups.now.keys
    (subst (λ (s : State). MayCollect s.revisions c.args.floor c.args.groups.now.keys) (sym c.self.view_is) c.requires)
    c.in_ok-union.union c.in_ok-revs.revs
    (c.in_ok-union.ensures ∙ ap (λ (flags : List Bool). items_outside flags c.self.inside.union) c.in_ok-revs.ensures.dropped)
    c.in_ok-revs.ensures.left)
