use Rattle.std.proofs.Common.{◌≡◌, ℕ, Option, Some, None, refl}
use Rattle.std.specs.Prelude.{IfSome}
use Rattle.storm_lines.specs.declared.form.Form.{Form}
use Rattle.storm_lines.specs.declared.form.Form.TheVariants.{Threads, Alone, Storm}
use Rattle.storm_lines.specs.Forms.{form_in}
use Rattle.xi_core.specs.Words.{EndsRun}
use Rattle.xi_core.proofs.program.report_of.Goals as goal

-- of whichever form there is
ends_run : (form : Option Form) (plugins code : ℕ) → (form ≡ Some Threads → EndsRun Threads plugins code) →
    (form ≡ Some Alone → EndsRun Alone plugins code) →
    ((count seed : ℕ) → form ≡ Some (Storm count seed) → EndsRun (Storm count seed) plugins code) → IfSome form (λ f. EndsRun f plugins code)
ends_run None plugins code threads alone storm = tt
ends_run (Some Threads) plugins code threads alone storm = threads refl
ends_run (Some Alone) plugins code threads alone storm = alone refl
ends_run (Some (Storm count seed)) plugins code threads alone storm = storm count seed refl

pub returns : goal.returns
returns g c =
    let report = c.xi_main.ensures in
    ends_run (form_in c.args.words.now) _ _ (λ is. (_, _, (report.threads is).headline)) (λ is. (_, _, (report.alone is).headline))
    (λ count seed is. (_, _, _, (report.storm count seed is).ends))
