use Rattle.std.proofs.Common.{◌∙◌}
use Rattle.std.specs.String.{string_bytes}
use Rattle.std.proofs.lemmas.Str.{IsUtf8-string_bytes}
use Rattle.find_core.proofs.FoldLemmas.{chars-lower}
use Rattle.find_core.proofs.search.folded.Goals as goal

pub returns : goal.returns
returns c =
    let made = c.in_ok-to_ascii_lowercase.field-0 in
    c.from_string.ensures ∙
    chars-lower c.args.text.now c.as_str.result.now (string_bytes made) (IsUtf8-string_bytes made) c.as_str.ensures.utf8 c.in_ok-to_ascii_lowercase.ensures.ok
