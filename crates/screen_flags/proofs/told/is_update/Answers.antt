use Rattle.std.proofs.Common.{◌∙◌, ap₂}
use Rattle.std.specs.Str.{bytes_eq}
use Rattle.screen_flags.proofs.SameLemmas.{chars-update}
use Rattle.screen_flags.proofs.told.is_update.Goals as goal

pub returns : goal.returns
returns c = c.is_same.ensures ∙ ap₂ bytes_eq c.as_str.ensures.characters chars-update
