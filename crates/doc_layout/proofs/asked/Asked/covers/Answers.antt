use Rattle.std.proofs.Common.{ap, sym, ◌∙◌}
use Rattle.std.specs.Prelude.{◌&&◌}
use Rattle.doc_layout.specs.Inner.{is_run_covered}
use Rattle.doc_layout.proofs.AskedLemmas.{is_covered-runs}
use Rattle.doc_layout.proofs.asked.Asked.covers.Goals as goal

pub returns-then-covers_run : goal.returns-then-covers_run
returns-then-covers_run c =
    c.covers_run-then-covers_run.ensures ∙
    sym (ap (λ b. b && is_run_covered c.args.self.now c.args.now.request c.args.len) (sym c.covers_run.ensures ∙ c.if-covers_run.true)) ∙
    is_covered-runs c.args.self.now c.args.now c.args.len

pub returns-else-covers_run : goal.returns-else-covers_run
returns-else-covers_run c =
    c.if-covers_run.false ∙
    sym (ap (λ b. b && is_run_covered c.args.self.now c.args.now.request c.args.len) (sym c.covers_run.ensures ∙ c.if-covers_run.false)) ∙
    is_covered-runs c.args.self.now c.args.now c.args.len
