use Rattle.std.proofs.Common.{ℕ, List, ◌-◌, subst, sym, arith}
use Rattle.std.proofs.lemmas.Result.{IfOk-weaker}
use Rattle.rev_list.specs.Hidden.{IsUndoAt}
use Rattle.rev_undo.specs.Start.{AreOpen, TurnsFirst}
use Rattle.rev_undo.proofs.StartLemmas.{firsts_over_edit, firsts_over_undo}
use Rattle.rev_undo.proofs.start.firsts_before.Goals as goal

pub returns-in-Edit : goal.returns-in-Edit
returns-in-Edit c = λ groups all.
    firsts_over_edit c.args.revs.now groups c.args.firsts _ c.args.at (omega (arith, c.requires.after)) (rw c.in-Edit.is at c.revision.ensures) all

pub returns-in-Undo : goal.returns-in-Undo
returns-in-Undo c =
    IfOk-weaker c.turned_over.result (TurnsFirst c.args.revs.now c.as_slice.result.now c.args.firsts)
    (λ made. (groups : List ℕ) → AreOpen c.args.revs.now groups c.args.at c.args.firsts → AreOpen c.args.revs.now groups (c.args.at - 1) made)
    (λ made turns groups all.
    firsts_over_undo c.args.revs.now groups c.as_slice.result.now c.args.firsts made c.args.at c.undone-sets.ensures.sets c.as_slice.ensures.rising
    (subst (IsUndoAt c.args.revs.now c.args.at) (sym c.as_slice.ensures.all) (rw c.in-Undo.is at c.revision.ensures)) turns all)
    c.turned_over.ensures
