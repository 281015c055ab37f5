use Rattle.std.proofs.Common.{◌≡◌, ◌≤◌, ℕ, List, length, take, drop, refl, sym, ap, subst, ◌∙◌, arith}
use Rattle.std.proofs.lemmas.Grind.{common_steps}
use Rattle.std.proofs.lemmas.Str.{IsUtf8-drop}
use Rattle.std.specs.Str.{chars, IsCharBoundary, IsUtf8}
use Rattle.plain_text.proofs.callers.TextLemmas.{IsCharBoundary-gap}
use Rattle.plain_text.proofs.callers.PlaceLemmas.{chars-drop_place, chars-take_place}
use Rattle.plain_text.specs.Text.{place_of}
use Rattle.rope_node.proofs.TextLemmas.{bytes-chars, length-short, plain-place}
use Rattle.rope_node.proofs.chunk.split_at_place.Goals as goal

pub split_at-requires : goal.split_at-requires
split_at-requires c =
    let place : place_of (chars c.args.text.now) c.args.gap ≡ c.args.gap = plain-place (chars c.args.text.now) c.args.gap c.requires.plain c.requires.inside in
    subst (λ (n : ℕ). IsCharBoundary c.args.text.now n) place (IsCharBoundary-gap c.args.text.now c.args.gap c.utf8.text)

pub returns-clause-front : goal.returns-clause-front
returns-clause-front c =
    let bs = c.args.text.now in
    let place : place_of (chars bs) c.args.gap ≡ c.args.gap = plain-place (chars bs) c.args.gap c.requires.plain c.requires.inside in
    ap chars (c.split_at.ensures.front ∙ ap (λ (n : ℕ). take n bs) (sym place)) ∙ chars-take_place bs c.args.gap c.utf8.text

pub returns-clause-back : goal.returns-clause-back
returns-clause-back c =
    let bs = c.args.text.now in
    let place : place_of (chars bs) c.args.gap ≡ c.args.gap = plain-place (chars bs) c.args.gap c.requires.plain c.requires.inside in
    ap chars (c.split_at.ensures.back ∙ ap (λ (n : ℕ). drop n bs) (sym place)) ∙ chars-drop_place bs c.args.gap c.utf8.text

pub returns-clause-utf8 : goal.returns-clause-utf8
returns-clause-utf8 c =
    let bs = c.args.text.now in
    let place : place_of (chars bs) c.args.gap ≡ c.args.gap = plain-place (chars bs) c.args.gap c.requires.plain c.requires.inside in
    let boundary : IsCharBoundary bs c.args.gap = subst (λ (n : ℕ). IsCharBoundary bs n) place (IsCharBoundary-gap bs c.args.gap c.utf8.text) in
    subst (λ (t : List ℕ). IsUtf8 t) (sym c.split_at.ensures.back) (IsUtf8-drop bs c.args.gap c.utf8.text boundary)

pub returns-clause-bytes : goal.returns-clause-bytes
returns-clause-bytes c =
    let bs = c.args.text.now in
    let place : place_of (chars bs) c.args.gap ≡ c.args.gap = plain-place (chars bs) c.args.gap c.requires.plain c.requires.inside in
    let own : c.args.gap ≤ length bs = omega (arith, bytes-chars bs c.utf8.text, length-short (chars bs), c.requires.inside) in
    let count : length (take c.args.gap bs) ≡ c.args.gap = grind (arith, common_steps) in
    ap length c.split_at.ensures.front ∙ count ∙ sym place
