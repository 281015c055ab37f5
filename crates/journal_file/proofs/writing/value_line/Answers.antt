use Rattle.std.proofs.Common.{◌++◌, [], ◌∷◌, string_bytes, ◌∙◌, ap, arith}
use Rattle.std.proofs.lemmas.Str.{IsUtf8-string_bytes, encodes-chars}
use Rattle.std.specs.Str.{encode_utf8_all}
use Rattle.json_rpc.specs.Line.{line_of}
use Rattle.journal_file.proofs.writing.value_line.Goals as goal

pub returns : goal.returns
unfolding line_of
returns c =
    ap encode_utf8_all c.from_string.ensures
    ∙ encodes-chars _ (IsUtf8-string_bytes c.push.new.self)
    ∙ c.in_ok-push.ensures.bytes
    ∙ ap (λ lf. string_bytes c.in_ok-text.text ++ lf) (c.in_ok-push.ensures.ascii (omega arith))
    ∙ ap (λ text. text ++ 10 ∷ []) (c.in_ok-text.ensures.text c.requires)
