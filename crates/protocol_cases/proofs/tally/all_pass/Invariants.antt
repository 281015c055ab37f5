use Rattle.std.proofs.Common.{◌≡◌, drop}
use Rattle.std.specs.Prelude.{◌↔◌}
use Rattle.std.specs.List.{AllByRecursion}
use Rattle.protocol_cases.specs.declared.verdict.Verdict.TheVariants.{Passes}
use Rattle.protocol_cases.proofs.tally.all_pass.Given as goal

abbrev pub invariant-loop-verdict : goal.invariant-loop-verdict
invariant-loop-verdict l =
    AllByRecursion (λ verdict. verdict ≡ Passes) (drop l.verdict-index l.verdicts) ↔ AllByRecursion (λ verdict. verdict ≡ Passes) l.verdicts
