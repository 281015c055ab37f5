use Rattle.xi_forms.proofs.SummaryLemmas.{valid_told}
use Rattle.xi_forms.proofs.summary.valid_in.Goals as goal

pub returns : goal.returns
returns c screen is = valid_told c.args.bytes.now c.count_valid.result screen c.count_valid.ensures is
