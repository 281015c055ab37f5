use Rattle.std.proofs.Common.{◌+◌, List, ℕ, subst}
use Rattle.std.specs.Prelude.{IfNone, IfSome}
use Rattle.rope_metrics.specs.declared.measure.Measure.TheVariants.{Chars, Lines}
use Rattle.rope_metrics.specs.Measure.{HasNone, IsConverted}
use Rattle.line_index.proofs.offsets.starts_by.Goals as goal

pub returns-clause-first : goal.returns-clause-first
returns-clause-first g c =
    subst (λ (t : List ℕ). IfSome c.convert_both.result.0 (λ offset. IsConverted Lines Chars t c.args.index offset)) c.node.ensures c.convert_both.ensures.first

pub returns-clause-no_first : goal.returns-clause-no_first
returns-clause-no_first g c = subst (λ (t : List ℕ). IfNone c.convert_both.result.0 (HasNone Lines t c.args.index)) c.node.ensures c.convert_both.ensures.no_first

pub returns-clause-second : goal.returns-clause-second
returns-clause-second g c =
    subst (λ (t : List ℕ). IfSome c.convert_both.result.1 (λ offset. IsConverted Lines Chars t (c.args.index + 1) offset)) c.node.ensures
    c.convert_both.ensures.second

pub returns-clause-no_second : goal.returns-clause-no_second
returns-clause-no_second g c =
    subst (λ (t : List ℕ). IfNone c.convert_both.result.1 (HasNone Lines t (c.args.index + 1))) c.node.ensures c.convert_both.ensures.no_second
