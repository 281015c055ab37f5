use Rattle.span_styles.proofs.BackLemmas.{spans_make}
use Rattle.span_styles.proofs.laws.spans_make_their_layers.Goals as goal

pub returns : goal.returns
returns c = spans_make
