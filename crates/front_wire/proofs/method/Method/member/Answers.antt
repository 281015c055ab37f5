use Rattle.std.proofs.Common.{◌∙◌}
use Rattle.front_wire.specs.declared.method.Table.TheVariants.{Line, Edit}
use Rattle.front_wire.proofs.RowLemmas.{member_at-method}
use Rattle.front_wire.proofs.method.Method.member.Goals as goal

pub returns-in-Line : goal.returns-in-Line
returns-in-Line c = c.front_member.ensures ∙ member_at-method c.args.self Line c.args.place c.in-Line.is

pub returns-in-Edit : goal.returns-in-Edit
returns-in-Edit c = c.edit_member.ensures ∙ member_at-method c.args.self Edit c.args.place c.in-Edit.is
