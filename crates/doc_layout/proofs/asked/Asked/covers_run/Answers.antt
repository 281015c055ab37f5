use Rattle.std.proofs.Common.{sym, ◌∙◌}
use Rattle.doc_layout.proofs.AskedLemmas.{covered-first, covered-none, covered-stretch}
use Rattle.doc_layout.proofs.asked.Asked.covers_run.Goals as goal

pub returns-then-end-run : goal.returns-then-end-run
returns-then-end-run c = sym (covered-none c.args.self.now c.args.run c.args.len c.min-end.result c.min-end.ensures c.if-end-run.true)

pub returns-then-has : goal.returns-then-has
returns-then-has c =
    covered-stretch c.args.self.now c.args.run c.args.len c.min-end.result c.min-end.ensures c.if-end-run.false c.stretch_end.result
    (sym c.has.ensures ∙ c.if-has.true) c.stretch_end.ensures

pub returns-else-has : goal.returns-else-has
returns-else-has c =
    c.if-has.false ∙
    sym (covered-first c.args.self.now c.args.run c.args.len c.min-end.result c.min-end.ensures c.if-end-run.false (sym c.has.ensures ∙ c.if-has.false))
