use Rattle.std.proofs.Common.{◌≡◌, length, ap, sym, subst, ◌∙◌}
use Rattle.std.specs.Prelude.{IfOk}
use Rattle.std.specs.Str.{all_scalars}
use Rattle.line_break.specs.Breaks.{breaks_of}
use Rattle.line_break.specs.Test.{AreBreaks}
use Rattle.line_break.proofs.TestLemmas.{AreBreaks-value, IfOk-more}
use Rattle.line_break.proofs.wrap.breaks.Goals as goal

pub invariant_of-cut-clause-scalars : goal.invariant_of-cut-clause-scalars
invariant_of-cut-clause-scalars g c = ap all_scalars c.as_str-text.ensures.characters ∙ c.as_str-text.ensures.scalars

pub invariant_of-cut-clause-counted : goal.invariant_of-cut-clause-counted
invariant_of-cut-clause-counted g c = c.char_count.ensures ∙ ap length (sym c.as_str-text.ensures.characters)

pub returns-clause-test : goal.returns-clause-test
returns-clause-test g c =
    subst (λ text. IfOk c.cut.result (AreBreaks c.args.width c.args.tab text)) c.as_str-text.ensures.characters c.cut.ensures

pub returns-clause-value : goal.returns-clause-value
returns-clause-value g c =
    IfOk-more (AreBreaks c.args.width c.args.tab c.args.line.now) (λ ends. ends ≡ breaks_of c.args.width c.args.tab c.args.line.now) c.cut.result
    (λ ends are. AreBreaks-value c.args.width c.args.tab c.args.line.now ends c.as_str-text.ensures.scalars are) (returns-clause-test g c)
