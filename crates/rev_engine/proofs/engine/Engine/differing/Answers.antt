use Rattle.std.proofs.Common.{◌≡◌, ap, ◌∙◌, subst}
use Rattle.plain_text.specs.Numbers.{flipped}
use Rattle.plain_edits.specs.Undo.{undone_now}
use Rattle.number_set.proofs.ForCallers.{flipped_back}
use Rattle.rev_list.specs.Edit.{undone_by}
use Rattle.rev_engine.specs.State.{State}
use Rattle.rev_engine.proofs.engine.Engine.differing.Goals as goal

pub returns : goal.returns
returns c =
    let h = c.self.inside.revs in
    let keys = c.args.groups.now.keys in
    let made : c.in_ok-of_set.field-0 ≡ flipped (undone_now h) keys =
    c.in_ok-of_set.ensures ∙ c.in_ok-differ.ensures.made ∙ ap (λ u. flipped u keys) c.undone.ensures.groups in
    subst (λ (s : State). undone_by s.revisions c.in_ok-of_set.field-0 ≡ keys) c.self.view_is
    (ap (flipped (undone_now h)) made ∙
    flipped_back (undone_now h) keys (rw c.undone.ensures.groups at c.undone.ensures.rising) c.in_ok-differ.ensures.others_rising)
