use Rattle.std.proofs.Common.{◌∙◌}
use Rattle.rev_rebase.proofs.PlacesLemmas.{inserted_flags-bound, places_over, step-text}
use Rattle.rev_rebase.proofs.stale.rebase.Goals as goal

pub factor-requires-clause-bound : goal.factor-requires-clause-bound
factor-requires-clause-bound c = inserted_flags-bound c.args.revs.now c.args.rev c.args.units.now c.requires.alive c.requires.bound

pub carried_over-requires : goal.carried_over-requires
carried_over-requires c =
    rw (c.in_ok-dropped.ensures.dropped_is, c.in_ok-dropped.ensures.inserted_is, c.in_ok-dead.ensures)
    (places_over c.args.revs.now c.args.rev c.args.units.now (record { priority = c.args.priority; author = c.args.author }) c.revisions_after-later.result c.requires.base_known
    c.revisions_after-later.ensures.sound c.requires.alive c.requires.bound c.revisions_after-later.ensures.revisions).together

pub returns-clause-inserted : goal.returns-clause-inserted
returns-clause-inserted c =
    c.in_ok-inserted.ensures.inserted ∙
    rw (c.in_ok-dropped.ensures.inserted_is, c.in_ok-dead.ensures)
    (places_over c.args.revs.now c.args.rev c.args.units.now (record { priority = c.args.priority; author = c.args.author }) c.revisions_after-later.result c.requires.base_known
    c.revisions_after-later.ensures.sound c.requires.alive c.requires.bound c.revisions_after-later.ensures.revisions).insertions

pub returns-clause-deleted : goal.returns-clause-deleted
returns-clause-deleted c =
    c.in_ok-inserted.ensures.deleted ∙
    rw (c.in_ok-dropped.ensures.dropped_is, c.in_ok-dropped.ensures.inserted_is, c.in_ok-dead.ensures)
    (places_over c.args.revs.now c.args.rev c.args.units.now (record { priority = c.args.priority; author = c.args.author }) c.revisions_after-later.result c.requires.base_known
    c.revisions_after-later.ensures.sound c.requires.alive c.requires.bound c.revisions_after-later.ensures.revisions).deletions

pub returns-clause-step : goal.returns-clause-step
returns-clause-step c =
    step-text c.args.revs.now c.args.rev c.args.units.now c.args.priority c.args.author _ _ c.requires.alive (returns-clause-inserted c) c.in_ok-text.ensures
