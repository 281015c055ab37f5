use Rattle.rev_list.proofs.UnderEditLemmas.{hidden_under-edited, hidden_under-undid}
use Rattle.rev_list.proofs.undo_laws.one_more_revision.Goals as goal

pub returns-clause-edit : goal.returns-clause-edit
returns-clause-edit c = λ history e groups sound. hidden_under-edited history e groups sound

pub returns-clause-undo : goal.returns-clause-undo
returns-clause-undo c = λ history undone groups sound. hidden_under-undid history undone groups sound
