use Rattle.std.proofs.Common.{sym, ◌∙◌}
use Rattle.rev_undo.proofs.AllowedLemmas.{known_none, known_some}
use Rattle.rev_undo.proofs.allowed.is_known.Goals as goal

pub returns-then-is_some : goal.returns-then-is_some
returns-then-is_some c = (
  λ is. known_some c.args.revs.now c.args.group c.first_edit.result c.if-group-gt0.true c.first_edit.ensures (sym c.is_some.ensures ∙ is),
  λ known. c.if-is_some.true,
)

pub returns-else-is_some : goal.returns-else-is_some
returns-else-is_some c =
    rw c.is_collected.ensures.collected
    (known_none c.args.revs.now c.args.group c.first_edit.result c.if-group-gt0.true c.first_edit.ensures (sym c.is_some.ensures ∙ c.if-is_some.false))
