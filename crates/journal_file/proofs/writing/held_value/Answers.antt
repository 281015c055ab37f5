use Rattle.std.proofs.Common.{codes, IsUtf8, refl, sym, subst, ◌∙◌, arith}
use Rattle.std.proofs.lemmas.Result.{IfOk-weaker}
use Rattle.json.proofs.Printed.Utf8.{IsUtf8-are_ascii}
use Rattle.serde_json.specs.View.{view}
use Rattle.hex.specs.Hex.{IsBytes}
use Rattle.journal_file.proofs.LinedLemmas.{IsPlain-named, note_of-digits}
use Rattle.journal_file.proofs.writing.held_value.Goals as goal

pub returns-in-Ok-clause-plain : goal.returns-in-Ok-clause-plain
returns-in-Ok-clause-plain c =
    let utf8 : IsUtf8 c.in-Ok.text.now = subst IsUtf8 (sym c.in-Ok.ensures.cases.0) c.in-Ok.ensures.cases.1 in
    IfOk-weaker c.named_text.result _ _ (λ value is. IsPlain-named (view value) (codes "text") c.in-Ok.text.now is (IsUtf8-are_ascii _ refl) utf8)
    c.named_text.ensures

pub returns-in_ok-digits-in-Err-clause-plain : goal.returns-in_ok-digits-in-Err-clause-plain
returns-in_ok-digits-in-Err-clause-plain c =
    IfOk-weaker c.named_text-in-Err.result _ _
    (λ value is. IsPlain-named (view value) (codes "base16") c.as_str.result.now is (IsUtf8-are_ascii _ refl) c.as_str.utf8)
    c.named_text-in-Err.ensures

pub returns-in_ok-digits-in-Err-clause-reads : goal.returns-in_ok-digits-in-Err-clause-reads
returns-in_ok-digits-in-Err-clause-reads c =
    let fits : IsBytes c.args.bytes.now = λ i. let f = c.type_inv.bytes i in omega arith in
    IfOk-weaker c.named_text-in-Err.result _ _
    (λ value is. note_of-digits (view value) c.as_str.result.now c.args.bytes.now is (c.as_str.ensures.value ∙ c.in_ok-digits-in-Err.ensures) fits)
    c.named_text-in-Err.ensures
