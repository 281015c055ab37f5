use Rattle.std.proofs.Common.{◌≡◌, sym, ◌∙◌}
use Rattle.std.proofs.lemmas.Result.{IfOk-weaker}
use Rattle.plain_edits.specs.History.{head}
use Rattle.rev_list.specs.Until.{history_until}
use Rattle.rev_list.proofs.UntilLemmas.{until-head}
use Rattle.rev_list.proofs.list.RevList.until_head.Goals as goal

pub returns : goal.returns
returns c =
    let h = c.args.self.now in
    IfOk-weaker c.copy.result (λ made. made ≡ h) (λ made. made ≡ history_until h (head h))
    (λ made is. is ∙ sym (until-head h c.revisions_after-walk.ensures.sound)) c.copy.ensures
