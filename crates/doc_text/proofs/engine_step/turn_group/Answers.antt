use Rattle.std.proofs.Common.{Err, ap}
use Rattle.plain_edits.proofs.callers.CollectionLemmas.{all_has}
use Rattle.doc_text.proofs.engine_step.turn_group.Goals as goal

pub unreachable-requires : goal.unreachable-requires
unreachable-requires c =
    let frozen = c.in-Err-Frozen.ensures.frozen c.in-Err-Frozen.field-0-0 (ap Err c.in-Err-Frozen.field-0-is) in
    frozen.differs.1 (all_has _ _ c.in-Err-Frozen.field-0-0 c.requires.agrees frozen.differs.0)
