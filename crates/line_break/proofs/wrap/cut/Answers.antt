use Rattle.std.proofs.Common.{◌≡◌, ◌∷◌, [], ap, sym, arith, ◌∙◌}
use Rattle.std.specs.Str.{chars}
use Rattle.line_break.specs.Test.{AreBreaks, AreBreaksFrom}
use Rattle.line_break.proofs.TestLemmas.{AreBreaks-narrow, AreBreaks-empty, AreBreaks-cut, IfOk-more}
use Rattle.line_break.proofs.wrap.cut.Goals as goal

pub returns-then-line-eq0 : goal.returns-then-line-eq0
returns-then-line-eq0 c =
    let line = c.args.line.now in
    IfOk-more (λ ends. ends ≡ line.len ∷ []) (AreBreaks line.width line.tab (chars line.text.now)) c.whole.result
    (λ ends is. AreBreaks-narrow line.width line.tab (chars line.text.now) ends c.if-line-eq0.true (is ∙ ap (λ n. n ∷ []) line.counted)) c.whole.ensures

pub returns-then-line-eq0-2 : goal.returns-then-line-eq0-2
returns-then-line-eq0-2 c =
    let line = c.args.line.now in
    IfOk-more (λ ends. ends ≡ line.len ∷ []) (AreBreaks line.width line.tab (chars line.text.now)) c.whole-then-line-eq0-2.result
    (λ ends is. AreBreaks-empty line.width line.tab (chars line.text.now) ends (sym line.counted ∙ c.if-line-eq0-2.true) (is ∙ ap (λ n. n ∷ []) line.counted)) c.whole-then-line-eq0-2.ensures

pub returns : goal.returns
returns c =
    let line = c.args.line.now in
    let text = chars line.text.now in
    let counted = line.counted in
    IfOk-more (AreBreaksFrom line.width line.tab text 0) (AreBreaks line.width line.tab text) c.wrapped.result
    (λ ends are. AreBreaks-cut line.width line.tab text ends (omega (arith, c.if-line-eq0.false)) (omega (arith, counted, c.if-line-eq0-2.false)) are) c.wrapped.ensures
