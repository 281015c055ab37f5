use Rattle.std.proofs.Common.{refl, ap, subst, ◌∙◌, List, ℕ}
use Rattle.std.specs.Str.{IsUtf8}
use Rattle.std.proofs.lemmas.Str.{IsUtf8-string_bytes}
use Rattle.plain_text.proofs.callers.TextLemmas.{encodes-string}
use Rattle.plain_text.proofs.text.Text.from_utf8.Goals as goal

pub returns-in-Ok-clause-utf8 : goal.returns-in-Ok-clause-utf8
returns-in-Ok-clause-utf8 c =
    let same = ap (λ v. v.items) c.in-Ok.ensures.ok in
    (λ is. subst (λ (bs : List ℕ). IsUtf8 bs) same (IsUtf8-string_bytes c.in-Ok.utf8), λ is. refl)

pub returns-in-Ok-clause-made : goal.returns-in-Ok-clause-made
returns-in-Ok-clause-made c = encodes-string c.in-Ok.utf8 ∙ ap (λ v. v.items) c.in-Ok.ensures.ok
