use Rattle.edit_ops.specs.Replacements.{added_by, kept_by}
use Rattle.doc_text.specs.Writing.{head_text}
use Rattle.doc_session.specs.Step.{effect_on}
use Rattle.delta_core.proofs.ForCallers.{Fits-elements, applied-delta_by}
use Rattle.doc_session.proofs.laws.commands_put.Goals as goal

pub returns : goal.returns
returns c = λ plain act joined.
    let replacements = (effect_on plain act).replacements in
    (Fits-elements (kept_by replacements) (added_by replacements) (head_text plain.text), applied-delta_by (kept_by replacements) (added_by replacements) (head_text plain.text))
