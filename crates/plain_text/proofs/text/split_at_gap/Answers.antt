use Rattle.std.proofs.Common.{ap, sym, subst, ◌∙◌, take, drop, ℕ, List}
use Rattle.std.specs.Str.{IsUtf8, IsCharBoundary}
use Rattle.std.proofs.lemmas.Str.{IsUtf8-drop}
use Rattle.std.specs.Str.{chars}
use Rattle.plain_text.proofs.callers.TextLemmas.{IsCharBoundary-gap}
use Rattle.plain_text.proofs.callers.PlaceLemmas.{chars-take_place, chars-drop_place}
use Rattle.plain_text.proofs.text.split_at_gap.Goals as goal

pub split_at-requires : goal.split_at-requires
split_at-requires c = rw c.place_in.ensures (IsCharBoundary-gap _ _ c.utf8.text)

pub returns-clause-front : goal.returns-clause-front
returns-clause-front c =
    let bs = c.args.text.now in
    ap chars (c.split_at.ensures.front ∙ ap (λ (n : ℕ). take n bs) c.place_in.ensures) ∙ chars-take_place bs c.args.gap c.utf8.text

pub returns-clause-back : goal.returns-clause-back
returns-clause-back c =
    let bs = c.args.text.now in
    ap chars (c.split_at.ensures.back ∙ ap (λ (n : ℕ). drop n bs) c.place_in.ensures) ∙ chars-drop_place bs c.args.gap c.utf8.text

pub returns-clause-utf8 : goal.returns-clause-utf8
returns-clause-utf8 c =
    let bs = c.args.text.now in
    let boundary : IsCharBoundary bs c.place_in.result = rw c.place_in.ensures (IsCharBoundary-gap bs c.args.gap c.utf8.text) in
    subst (λ (t : List ℕ). IsUtf8 t) (sym c.split_at.ensures.back) (IsUtf8-drop bs c.place_in.result c.utf8.text boundary)
