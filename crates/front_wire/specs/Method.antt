-- Methods in memory.
use Rattle.std.specs.Prelude.{List}
use Rattle.case_front.specs.Members.{PlainMember}
use Rattle.case_front.specs.Table.{Method as Row, front_table, edit_table}
use Rattle.front_wire.specs.declared.method.Table.{Table}
use Rattle.front_wire.specs.declared.method.Table.TheVariants.{Line, Edit}
use Rattle.front_wire.specs.declared.method.Method.{Method}
use Rattle.front_wire.specs.Members.{members_of_row}

-- the table that a value in memory stands for
abbrev pub table_of : Table → List Row
table_of Line = front_table
table_of Edit = edit_table

-- the members of a method
abbrev pub members : Method → List PlainMember
members method = members_of_row (table_of method.table) method.row
