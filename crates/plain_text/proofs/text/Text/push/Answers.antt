use Rattle.std.proofs.Common.{◌∙◌, ap, ◌++◌, ◌∷◌, []}
use Rattle.std.specs.Str.{chars}
use Rattle.std.proofs.lemmas.Str.{IsUtf8-string_bytes}
use Rattle.plain_text.proofs.callers.TextLemmas.{chars-push}
use Rattle.plain_text.proofs.text.Text.push.Goals as goal

pub returns-clause-pushed : goal.returns-clause-pushed
returns-clause-pushed c =
    ap chars c.in_ok-push.ensures.bytes ∙ chars-push _ c.args.character (IsUtf8-string_bytes c.self.inside.utf8) c.ranges.character.0 ∙
    ap (λ text. text ++ c.args.character ∷ []) c.self.view_is
