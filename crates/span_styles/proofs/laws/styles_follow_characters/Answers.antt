use Rattle.span_styles.proofs.DeadLemmas.{styles_follow}
use Rattle.span_styles.proofs.laws.styles_follow_characters.Goals as goal

pub returns : goal.returns
returns c = styles_follow
