use Rattle.rev_list.proofs.TextLemmas.{step_without_text, grown_flags, same_flags, hidden_without_text}
use Rattle.rev_list.proofs.laws.edit_step.Goals as goal

pub returns : goal.returns
returns c = record {
  step = step_without_text;
  grown = grown_flags;
  same_length = same_flags;
  hidden = hidden_without_text;
}
