use Rattle.case_front.specs.Table.{front_names}
use Rattle.front_wire.proofs.RowLemmas.{row_of-own}
use Rattle.front_wire.proofs.act.line_row.Goals as goal

pub returns-clause-row : goal.returns-clause-row
returns-clause-row c = row_of-own front_names c.front_cases.result c.args.name.now c.find.result c.front_cases.ensures c.find.ensures.own
