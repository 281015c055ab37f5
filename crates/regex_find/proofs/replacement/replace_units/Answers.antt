use Rattle.regex_find.proofs.ReplaceLemmas.{Replaces-parts}
use Rattle.regex_find.proofs.replacement.replace_units.Goals as goal

pub returns : goal.returns
returns c = Replaces-parts _ _ _ _ _ _ c.char_count-base.ensures c.requires c.in_ok-kept.ensures c.in_ok-added.ensures
