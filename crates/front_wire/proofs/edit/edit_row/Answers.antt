use Rattle.case_front.specs.Table.{edit_names}
use Rattle.front_wire.proofs.RowLemmas.{row_of-own}
use Rattle.front_wire.proofs.edit.edit_row.Goals as goal

pub returns-clause-row : goal.returns-clause-row
returns-clause-row c = row_of-own edit_names c.edit_cases.result c.args.name.now c.find.result c.edit_cases.ensures c.find.ensures.own
