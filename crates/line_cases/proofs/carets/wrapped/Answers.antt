use Rattle.std.proofs.Common.{◌≡◌, ℕ, List, [], ◌∷◌, ◌++◌, length, true, Some, None, refl, ap, subst, sym, ◌∙◌, arith}
use Rattle.std.proofs.lemmas.Result.{IfOk-weaker}
use Rattle.std.specs.List.{Contains}
use Rattle.std.specs.Str.{all_scalars, chars}
use Rattle.unicode_segmentation.proofs.Computing.{unicode_segmentation}
use Rattle.plain_screen.specs.declared.piece.Piece.{Piece}
use Rattle.plain_screen.specs.View.{ArePieces}
use Rattle.cluster_core.specs.Boundaries.{text_boundaries}
use Rattle.movement_core.specs.Lines.{StartAtPlaces}
use Rattle.movement_core.specs.Places.{IsPlace}
use Rattle.line_cases.proofs.carets.wrapped.Goals as goal

-- `aa bb cc`
abbrev characters : List ℕ
characters = 97 ∷ 97 ∷ 32 ∷ 98 ∷ 98 ∷ 32 ∷ 99 ∷ 99 ∷ []

abbrev former : Piece
former = record { start = 0; end = 6; ln = Some 1 }

abbrev latter : Piece
latter = record { start = 6; end = 8; ln = None }

cut : ArePieces characters (former ∷ latter ∷ [])
cut = record {
  cuts = (characters, 6 ∷ 8 ∷ []) ∷ [];
  lines = refl;
  ends = ((omega arith, (omega arith, refl)), tt);
  is = refl;
}

abbrev ends : List ℕ
ends = 0 ∷ 1 ∷ 2 ∷ 3 ∷ 4 ∷ 5 ∷ 6 ∷ 7 ∷ 8 ∷ []

bounds : text_boundaries characters ≡ ends
unfolding unicode_segmentation
bounds = refl

begin : StartAtPlaces characters (former ∷ latter ∷ [])
begin = (place 0 (0, omega arith, refl), (place 6 (6, omega arith, refl), tt))
  where
    place : (gap : ℕ) → Contains ends gap → IsPlace characters gap
    place gap there = subst (λ list. Contains list gap) (sym bounds) there

listed : (empty one two : List Piece) → empty ≡ [] → one ≡ empty ++ former ∷ [] → two ≡ one ++ latter ∷ [] → two ≡ former ∷ latter ∷ []
listed empty one two none first second = second ∙ ap (λ list. list ++ latter ∷ []) (first ∙ ap (λ list. list ++ former ∷ []) none)

pub of_pieces-requires : goal.of_pieces-requires
unfolding chars
of_pieces-requires c =
    let pieces = listed _ _ _ c.new-pieces.ensures c.in_ok-push.ensures.pushed c.in_ok-push-2.ensures.pushed in
    let text : c.in_ok-text.text ≡ characters = c.in_ok-text.ensures.made in
    rw (text, pieces) cut

pub returns-clause-characters : goal.returns-clause-characters
unfolding chars
returns-clause-characters c =
    let text : c.in_ok-text.text ≡ characters = c.in_ok-text.ensures.made in
    IfOk-weaker c.of_pieces.result (λ view. view ≡ record { text = c.in_ok-text.text; pieces = c.push-2.new.self }) (λ view. all_scalars view.text ≡ true)
    (λ view is. ap (λ v. all_scalars v.text) is ∙ ap all_scalars text) c.of_pieces.ensures

pub returns-clause-starts : goal.returns-clause-starts
unfolding chars
returns-clause-starts c =
    let pieces = listed _ _ _ c.new-pieces.ensures c.in_ok-push.ensures.pushed c.in_ok-push-2.ensures.pushed in
    let text : c.in_ok-text.text ≡ characters = c.in_ok-text.ensures.made in
    let there : StartAtPlaces c.in_ok-text.text c.push-2.new.self =
    subst (λ characters. StartAtPlaces characters c.push-2.new.self) (sym text) (subst (λ list. StartAtPlaces characters list) (sym pieces) begin) in
    IfOk-weaker c.of_pieces.result (λ view. view ≡ record { text = c.in_ok-text.text; pieces = c.push-2.new.self }) (λ view. StartAtPlaces view.text view.pieces)
    (λ view is. subst (λ v. StartAtPlaces v.text v.pieces) (sym is) there) c.of_pieces.ensures

pub returns-clause-len : goal.returns-clause-len
unfolding chars
returns-clause-len c =
    let text : c.in_ok-text.text ≡ characters = c.in_ok-text.ensures.made in
    IfOk-weaker c.of_pieces.result (λ view. view ≡ record { text = c.in_ok-text.text; pieces = c.push-2.new.self }) (λ view. length view.text ≡ 8)
    (λ view is. ap (λ v. length v.text) is ∙ ap length text) c.of_pieces.ensures
