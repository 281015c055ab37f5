use Rattle.std.proofs.Common.{length, ap, ◌∙◌}
use Rattle.std.proofs.lemmas.List.{length-map}
use Rattle.plain_text.specs.Numbers.{flipped}
use Rattle.plain_edits.specs.Undo.{undone_now}
use Rattle.rev_list.specs.Under.{is_hidden_under}
use Rattle.rev_list.specs.Hidden.{union_at}
use Rattle.rev_undo.proofs.StepLemmas.{SpeakFrom-revisions, recomputed}
use Rattle.rev_undo.proofs.hidden.hidden_with.Goals as goal

pub carried_under-requires : goal.carried_under-requires
carried_under-requires c =
    let h = c.args.revs.now in
    let set = flipped (undone_now h) c.args.differ.now in
    SpeakFrom-revisions h c.in_ok-start.start _ c.revisions_after-later.result c.in_ok-start.ensures.kept c.revisions_after-later.ensures.revisions
    (ap length c.in_ok-dead.ensures ∙ length-map (union_at h c.in_ok-start.start) (is_hidden_under h set c.in_ok-start.start))

pub returns : goal.returns
returns c =
    let h = c.args.revs.now in
    let set = flipped (undone_now h) c.args.differ.now in
    let later = c.revisions_after-later.ensures in
    (rw c.undone.ensures.groups at c.in_ok-carried_under.ensures) ∙
    recomputed h set c.in_ok-start.start c.in_ok-dead.dead c.revisions_after-later.result c.in_ok-start.ensures.kept later.later later.sound later.revisions c.in_ok-dead.ensures
