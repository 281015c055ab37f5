use Rattle.std.proofs.Common.{◌≡◌, ◌+◌, length, sym, subst}
use Rattle.subset_runs.specs.Subset.{count}
use Rattle.plain_text.proofs.callers.ListLemmas.{AllByRecursion-weaker}
use Rattle.rev_list.specs.Hidden.{union_at}
use Rattle.rev_list.specs.Settled.{HasLengths}
use Rattle.rev_collect.specs.Present.{AreAllEdits}
use Rattle.rev_collect.proofs.PresentLemmas.{all_edits_are, fits_settled}
use Rattle.rev_collect.proofs.present.all_edits.Goals as goal

pub with_settled-requires-clause-inserted : goal.with_settled-requires-clause-inserted
with_settled-requires-clause-inserted c =
    let h = c.args.revs.now in
    let later = c.in_ok-edits.later in
    AllByRecursion-weaker (HasLengths (length (union_at h h.floor))) (λ g. length g.inserted + count later ≡ length later)
    (λ g is. fits_settled h c.revisions_after-walk.ensures.later c.floor.ensures.known later c.in_ok-edits.ensures.later g.inserted is.inserted)
    c.settled_groups.result.now c.settled_groups.ensures.lengths

pub with_settled-requires-clause-deleted : goal.with_settled-requires-clause-deleted
with_settled-requires-clause-deleted c =
    let h = c.args.revs.now in
    let later = c.in_ok-edits.later in
    AllByRecursion-weaker (HasLengths (length (union_at h h.floor))) (λ g. length g.deleted + count later ≡ length later)
    (λ g is. fits_settled h c.revisions_after-walk.ensures.later c.floor.ensures.known later c.in_ok-edits.ensures.later g.deleted is.deleted)
    c.settled_groups.result.now c.settled_groups.ensures.lengths

pub returns : goal.returns
returns c =
    let h = c.args.revs.now in
    subst (AreAllEdits h) (sym c.in_ok-with_settled.ensures)
    (all_edits_are h c.revisions_after-walk.ensures.later c.floor.ensures.known c.in_ok-edits.later c.in_ok-edits.ensures.later c.in_ok-edits.edits.items
    c.settled_groups.result.now c.in_ok-edits.ensures c.settled_groups.ensures.groups)
