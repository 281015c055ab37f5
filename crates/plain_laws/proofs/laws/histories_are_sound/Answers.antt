use Rattle.plain_edits.proofs.callers.HistoryLemmas.{IsSound-loaded, IsSound-edited, IsSound-undid}
use Rattle.plain_laws.proofs.laws.histories_are_sound.Goals as goal

pub returns : goal.returns
returns c = record { at_loading = IsSound-loaded; after_edit = IsSound-edited; after_undo = IsSound-undid }
