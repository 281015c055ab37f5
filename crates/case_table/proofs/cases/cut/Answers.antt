use Rattle.case_table.proofs.Pieces.{pieces-cut_none, pieces-cut_some}
use Rattle.case_table.proofs.cases.cut.Goals as goal

pub returns-clause-last : goal.returns-clause-last
returns-clause-last c = pieces-cut_none c.args.text.now c.split_once.result c.split_once.ensures.cases

pub returns-clause-first : goal.returns-clause-first
returns-clause-first c = pieces-cut_some c.args.text.now c.split_once.result c.split_once.ensures.cases
