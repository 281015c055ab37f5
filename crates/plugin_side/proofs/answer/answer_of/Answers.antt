use Rattle.std.proofs.Common.{sym, ◌∙◌}
use Rattle.serde_json.specs.View.{view}
use Rattle.plugin_side.specs.Inner.{answer_by}
use Rattle.plugin_side.proofs.Hears.{value_answer-parts}
use Rattle.plugin_side.proofs.answer.answer_of.Goals as goal

pub returns : goal.returns
returns c = c.answer_by.ensures ∙ (λ i. answer_by (c.in_ok-id.ensures i) (c.in_ok-answer.ensures i)) ∙ sym (value_answer-parts (view c.args.value))
