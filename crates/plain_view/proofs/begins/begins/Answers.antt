use Rattle.std.proofs.Common.{ℕ, ◌+◌, ◌-◌, ◌≡◌, ◌≤◌, rules, ◌++◌, ◌∷◌, List, [], None, length, drop, get_or, refl, ap, ap₂, sym, ◌∙◌, arith, append_assoc, length-drop}
use Rattle.std.specs.Str.{chars}
use Rattle.plain_text.specs.Text.{place_of}
use Rattle.plain_screen.specs.declared.piece.Piece.{Piece}
use Rattle.plain_view.specs.Viewed.{begins_of}
use Rattle.plain_view.proofs.PieceLemmas.{RiseWithin-pieces, rise-step, begins_of-step, place_of-from, place-le-length, drop-from}
use Rattle.plain_view.proofs.begins.begins.Goals as goal

pub loop-piece-init : goal.loop-piece-init
loop-piece-init c = record {
  is_text = c.utf8.text;
  rest = refl;
  begin = refl;
  rise = RiseWithin-pieces _ _ c.requires;
  kept = ap (λ (bs : List ℕ). bs ++ begins_of (chars c.args.text.now) c.args.pieces.now) c.new-begins.ensures;
}

pub overflow_sub-piece : goal.overflow_sub-piece
overflow_sub-piece c = (rise-step _ _ _ c.args.pieces.now (record { start = 0; end = 0; ln = None }) c.loop-piece-test.true c.loop-piece.invariant.rise).0

pub split_at_gap-requires : goal.split_at_gap-requires
split_at_gap-requires c =
    let step = rise-step _ _ _ c.args.pieces.now (record { start = 0; end = 0; ln = None }) c.loop-piece-test.true c.loop-piece.invariant.rise in
    let low = step.0 in let high = step.1 in
    omega (arith, ap length c.loop-piece.invariant.rest, length-drop c.loop-piece.gap (chars c.args.text.now))

pub overflow_add-begin : goal.overflow_add-begin
overflow_add-begin c =
    let d : Piece = record { start = 0; end = 0; ln = None } in
    let text = chars c.args.text.now in
    let step = rise-step _ _ _ c.args.pieces.now d c.loop-piece-test.true c.loop-piece.invariant.rise in
    let start = (get_or c.args.pieces.now c.loop-piece.piece-index d).start in
    let before : length c.split_at_gap.result.0.now ≡ place_of (drop c.loop-piece.gap text) (start - c.loop-piece.gap) =
    c.split_at_gap.ensures.bytes ∙ ap (λ (cs : List ℕ). place_of cs (start - c.loop-piece.gap)) c.loop-piece.invariant.rest in
    let inside : c.loop-piece.begin + length c.split_at_gap.result.0.now ≤ length c.args.text.now =
    omega (arith, before, c.loop-piece.invariant.begin, place_of-from text c.loop-piece.gap start step.0, place-le-length c.args.text.now start c.utf8.text) in
    search (rules, arith)

pub loop-piece-preserved : goal.loop-piece-preserved
loop-piece-preserved c =
    let d : Piece = record { start = 0; end = 0; ln = None } in
    let text = chars c.args.text.now in
    let step = rise-step _ _ _ c.args.pieces.now d c.loop-piece-test.true c.loop-piece.invariant.rise in
    let start = (get_or c.args.pieces.now c.loop-piece.piece-index d).start in
    let begin : c.loop-piece.begin + length c.split_at_gap.result.0.now ≡ place_of text start =
    ap₂ (λ (a b : ℕ). a + b) c.loop-piece.invariant.begin
    (c.split_at_gap.ensures.bytes ∙ ap (λ (cs : List ℕ). place_of cs (start - c.loop-piece.gap)) c.loop-piece.invariant.rest) ∙
    place_of-from text c.loop-piece.gap start step.0 in record {
      is_text = c.split_at_gap.ensures.utf8;
      rest = c.split_at_gap.ensures.back ∙ ap (drop (start - c.loop-piece.gap)) c.loop-piece.invariant.rest ∙ drop-from text c.loop-piece.gap start step.0;
      begin = begin;
      rise = step.2;
      kept =
          ap (λ (bs : List ℕ). bs ++ begins_of text (drop (c.loop-piece.piece-index + 1) c.args.pieces.now)) c.in_ok-push.ensures.pushed ∙
          append_assoc c.loop-piece.begins ((c.loop-piece.begin + length c.split_at_gap.result.0.now) ∷ []) (begins_of text (drop (c.loop-piece.piece-index + 1) c.args.pieces.now)) ∙
          ap (λ (n : ℕ). c.loop-piece.begins ++ (n ∷ begins_of text (drop (c.loop-piece.piece-index + 1) c.args.pieces.now))) begin ∙
          ap (λ (bs : List ℕ). c.loop-piece.begins ++ bs) (sym (begins_of-step text c.loop-piece.piece-index c.args.pieces.now d c.loop-piece-test.true)) ∙
          c.loop-piece.invariant.kept;
    }
