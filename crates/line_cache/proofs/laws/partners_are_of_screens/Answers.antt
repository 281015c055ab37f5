use Rattle.line_cache.proofs.ScreenLemmas.{partners-of}
use Rattle.line_cache.proofs.laws.partners_are_of_screens.Goals as goal

pub returns : goal.returns
returns c = partners-of
