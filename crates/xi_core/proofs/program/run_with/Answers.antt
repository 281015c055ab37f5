use Rattle.std.proofs.Common.{sym, subst}
use Rattle.std.specs.Prelude.{IfSome, length}
use Rattle.storm_lines.specs.Forms.{form_in}
use Rattle.xi_core.specs.Words.{EndsRun}
use Rattle.xi_core.proofs.program.run_with.Goals as goal

pub returns : goal.returns
returns g c =
    subst (λ status. IfSome (form_in c.args.words.now) (λ form. EndsRun form (length c.args.plugins.items) status)) (sym c.code_of.ensures)
    c.report_of-report.ensures
