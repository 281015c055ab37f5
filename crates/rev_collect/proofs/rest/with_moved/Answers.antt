use Rattle.std.proofs.Common.{◌≡◌, fold}
use Rattle.std.proofs.lemmas.Result.{IfOk-weaker}
use Rattle.plain_text.specs.Numbers.{with_number}
use Rattle.rev_list.specs.declared.step.RevStep.TheVariants.{Edit, Undo}
use Rattle.rev_collect.specs.Inner.{IsMoved}
use Rattle.rev_collect.proofs.RestLemmas.{moved_edit, moved_undo}
use Rattle.rev_collect.proofs.rest.with_moved.Goals as goal

pub returns-in-Edit : goal.returns-in-Edit
returns-in-Edit c =
    rw c.in-Edit.is
    (IfOk-weaker c.with.result (λ made. made ≡ with_number c.args.moving.now c.in-Edit.edit.group) (IsMoved (Edit c.in-Edit.edit) c.args.moving.now)
    (λ made is. moved_edit c.args.moving.now made c.in-Edit.edit is) c.with.ensures.made)

pub returns-in-Undo : goal.returns-in-Undo
returns-in-Undo c =
    rw (c.in-Undo.is, ← c.as_slice.ensures.all)
    (IfOk-weaker c.with_all.result (λ made. made ≡ fold with_number c.args.moving.now c.as_slice.result.now) (IsMoved (Undo c.as_slice.result.now) c.args.moving.now)
    (λ made is. moved_undo c.args.moving.now made c.as_slice.result.now c.as_slice.ensures.rising is) c.with_all.ensures.made)
