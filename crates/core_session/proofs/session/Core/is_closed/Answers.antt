use Rattle.std.proofs.Common.{sym, ◌∙◌}
use Rattle.core_session.proofs.KeptLemmas.{not_closed_of, stage_closed}
use Rattle.core_session.proofs.session.Core.is_closed.Goals as goal

pub returns-in-Closed : goal.returns-in-Closed
returns-in-Closed g c =
    let core = c.args.self.now in
    sym (stage_closed core.journal.items (sym c.in-Closed.is ∙ core.staged))

pub returns-in-Serves : goal.returns-in-Serves
returns-in-Serves g c =
    let core = c.args.self.now in
    sym (not_closed_of core.journal.items core.stage core.staged c.in-Serves.is)
