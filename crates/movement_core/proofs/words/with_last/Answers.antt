use Rattle.std.proofs.Common.{refl, sym, ◌∙◌}
use Rattle.movement_core.proofs.WordLemmas.{IsTrail-between, IsTrail-run}
use Rattle.movement_core.proofs.words.with_last.Goals as goal

pub returns-then-is_between_words : goal.returns-then-is_between_words
returns-then-is_between_words c = λ text is.
    IsTrail-between text c.args.trail _ c.args.c is c.run_with-run.ensures refl (sym c.is_between_words.ensures ∙ c.if-is_between_words.true) refl

pub returns-else-is_between_words : goal.returns-else-is_between_words
returns-else-is_between_words c = λ text is.
    IsTrail-run text c.args.trail _ c.args.c is c.run_with-run.ensures refl (sym c.is_between_words.ensures ∙ c.if-is_between_words.false) refl
