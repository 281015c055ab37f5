use Rattle.std.proofs.Common.{sym, ◌∙◌, ap, arith}
use Rattle.std.specs.Prelude.{min}
use Rattle.std.proofs.lemmas.Bool.{ne_eqb}
use Rattle.line_cache.proofs.NextLemmas.{has_all-later, has_all-no, has_all-run, has_all-yes}
use Rattle.line_cache.proofs.mirror.Mirror.has_all.Goals as goal

pub returns-then-end-run : goal.returns-then-end-run
returns-then-end-run c =
    sym (has_all-yes c.args.self.now c.args.run
    (λ index inside low high. absurd (omega (arith, inside, low, high, c.if-end-run.true, c.min-end.ensures, c.len.ensures))))

pub returns-then-valid-run : goal.returns-then-valid-run
returns-then-valid-run c =
    has_all-run c.args.self.now c.args.run c.in-Some.valid c.min-end.result (c.min-end.ensures ∙ ap (min c.args.run.end) c.len.ensures) c.if-end-run.false
    c.in-Some.ensures.some c.if-valid-run.true

pub returns-else-valid-run : goal.returns-else-valid-run
returns-else-valid-run c =
    ne_eqb c.in-Some.valid.start c.args.run.start c.if-valid-run.false ∙
    sym (has_all-later c.args.self.now c.args.run c.in-Some.valid c.min-end.result (c.min-end.ensures ∙ ap (min c.args.run.end) c.len.ensures) c.if-end-run.false
    c.in-Some.ensures.some c.if-valid-run.false)

pub returns-in-None : goal.returns-in-None
returns-in-None c =
    sym (has_all-no c.args.self.now c.args.run c.args.run.start (omega (arith, c.if-end-run.false, c.min-end.ensures, c.len.ensures)) (omega arith)
    (omega (arith, c.if-end-run.false, c.min-end.ensures)) (c.in-None.ensures.none c.args.run.start (omega arith)))
