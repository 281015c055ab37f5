use Rattle.line_cases.proofs.styles.id_of.Goals as goal

pub define-requires : goal.define-requires
define-requires c = c.find.ensures.absent.0 c.in-None.is
