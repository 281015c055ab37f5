use Rattle.std.proofs.Common.{ap, sym, ◌∙◌}
use Rattle.protocol_cases.specs.declared.verdict.Verdict.TheVariants.{Fails, Passes}
use Rattle.protocol_cases.specs.Verdict.{verdict_from}
use Rattle.protocol_cases.proofs.JudgeLemmas.{passes_exact}
use Rattle.protocol_cases.proofs.verdict.judge.Goals as goal

pub returns-in-Some-clause-passes : goal.returns-in-Some-clause-passes
returns-in-Some-clause-passes c =
    passes_exact c.args.expected.now c.args.got.now c.args.players.now c.args.shelf.now c.args.status (Fails c.in-Some.fault)
    (ap verdict_from (sym c.in-Some.is ∙ c.in_ok-fault.ensures))

pub returns-in-None-clause-passes : goal.returns-in-None-clause-passes
returns-in-None-clause-passes c =
    passes_exact c.args.expected.now c.args.got.now c.args.players.now c.args.shelf.now c.args.status Passes (ap verdict_from (sym c.in-None.is ∙ c.in_ok-fault.ensures))
