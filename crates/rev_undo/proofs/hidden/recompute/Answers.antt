use Rattle.std.proofs.Common.{◌≡◌, ap, ◌∙◌}
use Rattle.std.proofs.lemmas.Result.{IfOk-weaker}
use Rattle.plain_text.specs.Numbers.{flipped}
use Rattle.plain_edits.specs.History.{head}
use Rattle.plain_edits.specs.Undo.{undone_now}
use Rattle.rev_list.specs.Under.{hidden_under}
use Rattle.number_set.proofs.ForCallers.{flipped_back}
use Rattle.rev_undo.proofs.hidden.recompute.Goals as goal

pub returns : goal.returns
returns c =
    let h = c.args.revs.now in
    let keys = c.args.groups.now.keys in
    let back : flipped (undone_now h) c.in_ok-differ.differ ≡ keys =
    ap (flipped (undone_now h)) (c.in_ok-differ.ensures.made ∙ ap (λ u. flipped u keys) c.undone.ensures.groups) ∙
    flipped_back (undone_now h) keys (rw c.undone.ensures.groups at c.undone.ensures.rising) c.in_ok-differ.ensures.others_rising in
    IfOk-weaker c.hidden_with.result (λ dead. dead ≡ hidden_under h (flipped (undone_now h) c.in_ok-differ.differ) (head h))
    (λ dead. dead ≡ hidden_under h keys (head h)) (λ dead is. is ∙ ap (λ set. hidden_under h set (head h)) back) c.hidden_with.ensures
