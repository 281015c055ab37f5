use Rattle.line_stays.proofs.ShowLemmas.{equal-planned, length-planned, valid-planned}
use Rattle.line_stays.proofs.laws.planned_screens_show.Goals as goal

pub returns : goal.returns
returns c = record {
  length = length-planned;
  equal = equal-planned;
  valid = valid-planned;
}
