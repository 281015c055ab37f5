use Rattle.std.proofs.Common.{◌≡◌, ℕ, List, subst, sym, ap, ◌∙◌, ◌+◌, length, rules}
use Rattle.std.specs.Str.{IsCharBoundary, chars}
use Rattle.std.proofs.lemmas.Str.{chars_from_encodes}
use Rattle.plain_text.specs.Text.{gap_of}
use Rattle.plain_text.proofs.callers.PlaceLemmas.{IsPlaced, between_places, IsPlaced-from, boundary-is_place}
use Rattle.plain_text.proofs.text.Text.gaps_between.Goals as goal

pub range-requires-clause-start_boundary : goal.range-requires-clause-start_boundary
range-requires-clause-start_boundary c = λ _.
    subst (λ (bs : List ℕ). IsCharBoundary bs c.args.from) (sym c.as_str.ensures.utf8)
    (boundary-is_place c.args.self.now c.args.from c.as_str.ensures.scalars c.requires.start)

pub range-requires-clause-end_boundary : goal.range-requires-clause-end_boundary
range-requires-clause-end_boundary c =
    subst (λ (bs : List ℕ). IsCharBoundary bs c.args.to) (sym c.as_str.ensures.utf8)
    (boundary-is_place c.args.self.now c.args.to c.as_str.ensures.scalars c.requires.end)

pub returns : goal.returns
returns c =
    let text = c.args.self.now in
    let same = c.as_str.ensures.characters in
    let one = IsPlaced-from text c.args.from c.requires.start in
    let other = IsPlaced-from text c.args.to c.requires.end in
    let counted : c.count.result ≡ length (chars c.range.result.now) = search (rules, chars_from_encodes) in
    let whole = between_places c.as_str.result.now c.args.from c.args.to one.0 other.0 c.as_str.utf8
    (subst (λ (t : List ℕ). IsPlaced t c.args.from one.0) (sym same) one.1)
    (subst (λ (t : List ℕ). IsPlaced t c.args.to other.0) (sym same) other.1) c.requires.ordered in
    let counts = ap (λ (n : ℕ). gap_of text c.args.from + n) (counted ∙ ap (λ (bs : List ℕ). length (chars bs)) c.range.ensures.value) in
    counts ∙ rw same at whole
