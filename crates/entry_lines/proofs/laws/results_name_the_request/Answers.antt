use Rattle.entry_lines.proofs.Answers.{results_name_the_request}
use Rattle.entry_lines.proofs.laws.results_name_the_request.Goals as goal

pub returns : goal.returns
returns c = results_name_the_request
