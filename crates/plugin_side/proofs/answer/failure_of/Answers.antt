use Rattle.std.proofs.Common.{codes, sym, ◌∙◌}
use Rattle.serde_json.specs.Find.{get}
use Rattle.serde_json.specs.View.{view}
use Rattle.plugin_side.specs.Inner.{failure_by}
use Rattle.plugin_side.proofs.Hears.{error_from-heard}
use Rattle.plugin_side.proofs.answer.failure_of.Goals as goal

pub returns : goal.returns
returns c =
    let error = view c.args.error.now in
    c.failure_by.ensures ∙ (λ i. failure_by (c.code_at-code.ensures i) (c.in_ok-message.ensures i)) ∙ sym (error_from-heard (get (codes "code") error) (get (codes "message") error))
