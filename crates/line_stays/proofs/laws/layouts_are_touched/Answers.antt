use Rattle.line_stays.proofs.TouchLemmas.{touches_no_others}
use Rattle.line_stays.proofs.laws.layouts_are_touched.Goals as goal

pub returns : goal.returns
returns c = λ ends_of front gone come back draw other was_cut is_cut one two.
    touches_no_others ends_of front gone come back draw other was_cut is_cut one two
