use Rattle.std.proofs.Common.{◌≡◌, ap, ◌∙◌}
use Rattle.std.proofs.lemmas.Result.{IfOk-weaker}
use Rattle.plain_text.specs.Numbers.{flipped}
use Rattle.plain_edits.specs.History.{head}
use Rattle.plain_edits.specs.Undo.{undone_now}
use Rattle.rev_list.specs.Under.{hidden_under}
use Rattle.number_set.proofs.ForCallers.{flipped_nothing}
use Rattle.rev_undo.proofs.hidden.recompute_by.Goals as goal

pub returns : goal.returns
returns c =
    let h = c.args.revs.now in
    let same : c.in_ok-differ.differ ≡ c.args.groups.now =
    c.in_ok-differ.ensures.made ∙ ap (λ none. flipped none c.args.groups.now) c.new.ensures ∙ flipped_nothing c.args.groups.now c.requires.rising in
    IfOk-weaker c.hidden_with.result (λ dead. dead ≡ hidden_under h (flipped (undone_now h) c.in_ok-differ.differ) (head h))
    (λ dead. dead ≡ hidden_under h (flipped (undone_now h) c.args.groups.now) (head h))
    (λ dead is. is ∙ ap (λ differ. hidden_under h (flipped (undone_now h) differ) (head h)) same) c.hidden_with.ensures
