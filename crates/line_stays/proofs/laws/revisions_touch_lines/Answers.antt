use Rattle.line_stays.proofs.RevisionLemmas.{touches-revised}
use Rattle.line_stays.proofs.laws.revisions_touch_lines.Goals as goal

pub returns : goal.returns
returns c = λ ends_of char xs ys draw other rise rises was_cut is_cut one two.
    touches-revised ends_of char xs ys draw other was_cut is_cut one two rise rises
