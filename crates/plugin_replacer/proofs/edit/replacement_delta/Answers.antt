use Rattle.std.proofs.Common.{◌∙◌}
use Rattle.std.proofs.lemmas.Result.{IfOk-weaker}
use Rattle.plugin_replacer.proofs.EditLemmas.{delta_of-replaces}
use Rattle.plugin_replacer.proofs.edit.replacement_delta.Goals as goal

pub returns : goal.returns
returns c =
    IfOk-weaker c.to_delta.result _ _
    (λ delta is. is.is ∙ delta_of-replaces c.args.text.now c.args.runs.now c.args.with.now c.in_ok-units.units c.in_ok-units.ensures) c.to_delta.ensures
