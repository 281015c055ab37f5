use Rattle.std.proofs.Common.{List, ℕ, subst}
use Rattle.std.specs.Prelude.{IfNone, IfSome}
use Rattle.rope_metrics.specs.declared.line.InLine.{InLine}
use Rattle.rope_metrics.specs.declared.measure.Measure.TheVariants.{Bytes, Chars, Lines}
use Rattle.rope_metrics.specs.Measure.{HasNone, IsConverted}
use Rattle.line_index.proofs.offsets.in_line_by.Goals as goal

pub returns-clause-line : goal.returns-clause-line
returns-clause-line g c =
    subst (λ (t : List ℕ). IfSome c.in_line.result (λ (at : InLine). IsConverted Chars Lines t c.args.gap at.line)) c.node.ensures c.in_line.ensures.line

pub returns-clause-start : goal.returns-clause-start
returns-clause-start g c =
    subst (λ (t : List ℕ). IfSome c.in_line.result (λ (at : InLine). IsConverted Lines Bytes t at.line at.start)) c.node.ensures c.in_line.ensures.start

pub returns-clause-place : goal.returns-clause-place
returns-clause-place g c =
    subst (λ (t : List ℕ). IfSome c.in_line.result (λ (at : InLine). IsConverted Chars Bytes t c.args.gap at.place)) c.node.ensures c.in_line.ensures.place

pub returns-clause-none : goal.returns-clause-none
returns-clause-none g c = subst (λ (t : List ℕ). IfNone c.in_line.result (HasNone Chars t c.args.gap)) c.node.ensures c.in_line.ensures.none
