use Rattle.rev_list.proofs.UntilLemmas.{text_at-until, until-head}
use Rattle.rev_list.proofs.until_laws.until_is_what_was.Goals as goal

pub returns : goal.returns
returns c = record { texts = text_at-until; whole = until-head }
