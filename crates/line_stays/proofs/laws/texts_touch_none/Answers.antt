use Rattle.line_stays.proofs.TouchLemmas.{touches_none}
use Rattle.line_stays.proofs.laws.texts_touch_none.Goals as goal

pub returns : goal.returns
returns c = λ ends_of text draw other cuts one two. touches_none ends_of text draw other cuts one two
