use Rattle.std.proofs.Common.{◌≡◌, [], ◌∷◌}
use Rattle.std.proofs.lemmas.Result.{IfOk-weaker}
use Rattle.plain_text.specs.Numbers.{turned}
use Rattle.rev_undo.specs.Start.{TurnsFirst}
use Rattle.rev_undo.proofs.StartLemmas.{turns_one, turns_none}
use Rattle.rev_undo.proofs.start.turned_by.Goals as goal

pub returns-in-Some : goal.returns-in-Some
returns-in-Some c =
    IfOk-weaker c.turned.result (λ made. made ≡ turned c.args.firsts c.in-Some.first) (TurnsFirst c.args.revs.now (c.args.group ∷ []) c.args.firsts)
    (λ made is. rw is (turns_one c.args.revs.now c.args.firsts c.args.group c.in-Some.first c.turned.ensures.rising (rw c.in-Some.is at c.first_edit.ensures)))
    c.turned.ensures.made

pub returns-in-None : goal.returns-in-None
returns-in-None c = turns_none c.args.revs.now c.args.firsts c.args.group (rw c.in-None.is at c.first_edit.ensures)
