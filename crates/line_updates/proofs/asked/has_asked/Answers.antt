use Rattle.std.proofs.Common.{ap, sym, ◌∙◌}
use Rattle.std.specs.Prelude.{◌&&◌}
use Rattle.std.proofs.lemmas.Bool.{eqb-true}
use Rattle.line_cache.specs.Runs.{has_all}
use Rattle.line_updates.proofs.AskedLemmas.{lines-other, lines-same}
use Rattle.line_updates.proofs.asked.has_asked.Goals.{then-len, else-len}
use Rattle.line_updates.proofs.asked.has_asked.Goals as goal

pub returns-then-has_all : goal.returns-then-has_all
returns-then-has_all c = elim c.if-len.branch [
  | then-len w ↦
      c.has_all-then-has_all.ensures ∙
      ap (λ b. b && has_all c.args.had.now c.args.asked.request) (sym (sym w.has_all.ensures ∙ sym w.value-is ∙ c.if-has_all.true)) ∙
      lines-same c.args.had.now c.args.asked c.args.len (sym c.len.ensures ∙ w.if-len.true)
  | else-len w ↦ absurd (w.if-len.false (eqb-true c.len.result c.args.len (sym w.value-is ∙ c.if-has_all.true)))
]

pub returns-else-has_all : goal.returns-else-has_all
returns-else-has_all c = elim c.if-len.branch [
  | then-len w ↦
      c.if-has_all.false ∙
      ap (λ b. b && has_all c.args.had.now c.args.asked.request) (sym (sym w.has_all.ensures ∙ sym w.value-is ∙ c.if-has_all.false)) ∙
      lines-same c.args.had.now c.args.asked c.args.len (sym c.len.ensures ∙ w.if-len.true)
  | else-len w ↦
      c.if-has_all.false ∙
      lines-other c.args.had.now c.args.asked c.args.len (λ same. w.if-len.false (c.len.ensures ∙ same))
]
