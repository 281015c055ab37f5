use Rattle.plain_edits.proofs.callers.CollectionLemmas.{greatest_clean_floor}
use Rattle.plain_laws.proofs.history_laws.clean_floors_are_greatest.Goals as goal

pub returns : goal.returns
returns c = record {
  is_within = λ history most. (greatest_clean_floor history.revisions most).is_within;
  clean = λ history most. (greatest_clean_floor history.revisions most).clean;
  greatest = λ history most other within clean. (greatest_clean_floor history.revisions most).greatest other within clean;
}
