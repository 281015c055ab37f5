use Rattle.plain_text.proofs.callers.InputLemmas.{concat-lines_of, ended_lines-append, unended-append}
use Rattle.plain_laws.proofs.laws.inputs_are_lines.Goals as goal

pub returns : goal.returns
returns c = record { whole = concat-lines_of; ended = ended_lines-append; rest = unended-append }
