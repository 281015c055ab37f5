use Rattle.std.proofs.Common.{◌≡◌, ◌+◌, ◌-◌, [], ◌∷◌, ◌++◌, length, ap, ◌∙◌, arith, length-append}
use Rattle.std.specs.String.{string_bytes}
use Rattle.std.specs.Str.{encode_utf8_all}
use Rattle.std.proofs.lemmas.Str.{encodes-chars, IsUtf8-string_bytes}
use Rattle.json_rpc.specs.Line.{line_feed}
use Rattle.entry_lines.proofs.Texts.{cut_before, cut_is}
use Rattle.entry_lines.proofs.cut.without_lf.Goals as goal

pub overflow_sub-len : goal.overflow_sub-len
overflow_sub-len c =
    let text = c.into_string-text.result in
    let (front, ends) = c.requires in
    let is : string_bytes text ≡ front ++ line_feed ∷ [] = c.into_string-text.ensures.utf8 ∙ ends in
    let long : length (string_bytes text) ≡ length front + 1 = ap length is ∙ length-append front (line_feed ∷ []) in
    omega (arith, long, c.len.ensures, text.bytes.ok.0)

pub truncate-requires : goal.truncate-requires
truncate-requires c fits =
    let text = c.into_string-text.result in
    let (front, ends) = c.requires in
    let is : string_bytes text ≡ front ++ line_feed ∷ [] = c.into_string-text.ensures.utf8 ∙ ends in
    let (inside, starts) = cut_before (string_bytes text) front (c.len.result - 1) is (omega (arith, c.len.ensures, text.bytes.ok.0)) in
    (inside, λ some. starts)

pub returns : goal.returns
returns c =
    let text = c.into_string-text.result in
    let (front, ends) = c.requires in
    let is : string_bytes text ≡ front ++ line_feed ∷ [] = c.into_string-text.ensures.utf8 ∙ ends in
    let left = c.truncate.new.self in
    ap (λ x. x ++ line_feed ∷ []) (ap encode_utf8_all c.from_string.ensures ∙ encodes-chars (string_bytes left) (IsUtf8-string_bytes left) ∙ c.truncate.ensures.bytes)
    ∙ cut_is (string_bytes text) front (c.len.result - 1) is (omega (arith, c.len.ensures, text.bytes.ok.0))
    ∙ c.into_string-text.ensures.utf8
