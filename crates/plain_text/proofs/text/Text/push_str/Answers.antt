use Rattle.std.proofs.Common.{◌∙◌, ap, ◌++◌}
use Rattle.std.specs.Str.{chars}
use Rattle.std.proofs.lemmas.Str.{IsUtf8-string_bytes, chars-append}
use Rattle.plain_text.proofs.text.Text.push_str.Goals as goal

pub returns-clause-pushed : goal.returns-clause-pushed
returns-clause-pushed c =
    ap chars c.in_ok-push_str.ensures.bytes ∙ chars-append _ _ (IsUtf8-string_bytes c.self.inside.utf8) ∙
    ap (λ text. text ++ chars c.args.other.now) c.self.view_is
