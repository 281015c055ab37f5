use Rattle.std.proofs.Common.{◌≡◌, ◌++◌, ◌∷◌, [], List, ℕ, String, Global, map, sym, ap, ◌∙◌, append_assoc, append-nil, arith}
use Rattle.std.proofs.lemmas.List.{nil_from_length}
use Rattle.std.specs.Prelude.{string_bytes}
use Rattle.std.specs.Str.{chars}
use Rattle.std.specs.Vec.Iter.{into_iter_items}
use Rattle.xi_core.proofs.words.texts.Goals as goal

pub loop-word-init : goal.loop-word-init
loop-word-init c = ap (λ texts. texts ++ map (λ word. chars (string_bytes word)) (into_iter_items c.args.args)) c.new-texts.ensures

pub loop-word-preserved : goal.loop-word-preserved
loop-word-preserved c =
    let f : String Global → List ℕ = λ word. chars (string_bytes word) in
    let texts = c.loop-word.texts in
    let later = map f (into_iter_items c.next.new.self) in
    ap (λ all. all ++ later) (c.in_ok-push.ensures.pushed ∙ ap (λ word. texts ++ word ∷ []) c.from_string.ensures) ∙
    append_assoc texts (f c.in-Some.word ∷ []) later ∙ ap (λ items. texts ++ map f items) (sym c.in-Some.ensures.items) ∙ c.loop-word.invariant

pub returns : goal.returns
returns c =
    let f : String Global → List ℕ = λ word. chars (string_bytes word) in
    let texts = c.loop-word.texts in
    let none : into_iter_items c.loop-word.rest ≡ [] = nil_from_length _ (omega (arith, c.in_default.ensures.cases.0, c.loop-word.rest.rest.ok.0)) in
    sym (append-nil texts) ∙ ap (λ items. texts ++ map f items) (sym none) ∙ c.loop-word.invariant
