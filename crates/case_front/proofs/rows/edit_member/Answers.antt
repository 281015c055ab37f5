use Rattle.std.proofs.Common.{arith}
use Rattle.case_front.specs.Table.{edit_table}
use Rattle.case_front.proofs.Past.{member_at-past}
use Rattle.case_front.proofs.rows.edit_member.Goals as goal

pub returns-else-row-lt-EDIT_METHODS : goal.returns-else-row-lt-EDIT_METHODS
returns-else-row-lt-EDIT_METHODS c = member_at-past edit_table c.args.row c.args.place (omega arith)
