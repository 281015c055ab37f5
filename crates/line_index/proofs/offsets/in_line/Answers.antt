use Rattle.line_index.proofs.WholeLemmas.{inside-line, inside-none, inside-place, inside-start}
use Rattle.line_index.proofs.offsets.in_line.Goals as goal

pub returns-clause-line : goal.returns-clause-line
returns-clause-line c = inside-line c.args.text.now c.args.gap c.in_line_by.result c.in_line_by.ensures.line

pub returns-clause-start : goal.returns-clause-start
returns-clause-start c = inside-start c.args.text.now c.in_line_by.result c.in_line_by.ensures.start

pub returns-clause-place : goal.returns-clause-place
returns-clause-place c = inside-place c.args.text.now c.args.gap c.in_line_by.result c.in_line_by.ensures.place

pub returns-clause-none : goal.returns-clause-none
returns-clause-none c = inside-none c.args.text.now c.args.gap c.in_line_by.result c.in_line_by.ensures.line c.in_line_by.ensures.none
