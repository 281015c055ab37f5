use Rattle.std.specs.Str.{IsCharBoundary}
use Rattle.std.proofs.Common.{ℕ, List, subst, sym}
use Rattle.plain_text.proofs.callers.PlaceLemmas.{boundary-is_place, is_place-boundary, same_test}
use Rattle.plain_text.proofs.text.Text.is_place.Goals as goal

pub returns : goal.returns
returns c =
    let text = c.args.self.now in
    let At = λ (bs : List ℕ). IsCharBoundary bs c.args.at in
    let same = c.as_str.ensures.utf8 in
    same_test _ _
    (λ is. is_place-boundary text c.args.at c.as_str.ensures.scalars (subst At same (c.is_char_boundary.ensures.test.0 is)))
    (λ is. c.is_char_boundary.ensures.test.1 (subst At (sym same) (boundary-is_place text c.args.at c.as_str.ensures.scalars is)))
