use Rattle.std.proofs.Common.{◌≡◌, ◌-◌, length, take, ap, ◌∙◌, subst, arith}
use Rattle.std.specs.Prelude.{IfOk}
use Rattle.std.proofs.lemmas.List.{take_all}
use Rattle.doc_text.proofs.text.TextState.head_text.Goals as goal

pub returns : goal.returns
returns c = λ plain stands.
    let text = c.head_rope-text.result.now in
    subst (λ all. IfOk c.slice.result (λ made. made ≡ all))
    (ap (λ n. take (n - 0) text) c.len.ensures.count ∙ take_all (length text - 0) text (omega arith) ∙ c.head_rope-text.ensures.text plain stands)
    c.slice.ensures
