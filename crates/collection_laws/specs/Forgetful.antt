-- One that forgets: at each collection it keeps only what is left.
use Rattle.std.specs.Prelude.{List, [], ◌∷◌}
use Rattle.plain_edits.specs.History.{History}
use Rattle.plain_edits.specs.Edits.{edited, undid}
use Rattle.plain_edits.specs.Collection.{collected_at}
use Rattle.plain_edits.specs.HistorySteps.{Step, edits, undoes, collects, after_step, MayCome}
use Rattle.collection_laws.specs.Left.{left_of}

-- what it holds after a step
abbrev pub forgetful_step : History → Step → History
forgetful_step history (edits e) = edited history e
forgetful_step history (undoes groups) = undid history groups
forgetful_step history (collects floor groups) = left_of (collected_at history floor groups)

-- and after some steps
abbrev pub forgetful_steps : History → List Step → History
forgetful_steps history [] = history
forgetful_steps history (step ∷ steps) = forgetful_steps (forgetful_step history step) steps

-- each of some steps may come when its turn comes, by the history that forgot nothing
abbrev pub MayComeInTurn : History → List Step → Type 0
MayComeInTurn history [] = Unit {0}
MayComeInTurn history (step ∷ steps) = MayCome history step × MayComeInTurn (after_step history step) steps
