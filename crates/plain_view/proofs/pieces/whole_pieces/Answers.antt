use Rattle.std.proofs.Common.{◌+◌, ◌++◌, ◌∷◌, List, [], Some, length, ap, sym, ◌∙◌, arith, append_assoc, length-append}
use Rattle.std.specs.Char.{encode_utf8}
use Rattle.std.specs.Str.{chars}
use Rattle.std.proofs.lemmas.Str.{IsUtf8-past_char, len_utf8_bounds, length-encode}
use Rattle.plain_screen.specs.declared.piece.Piece.{Piece}
use Rattle.plain_view.proofs.PieceLemmas.{rest_pieces, rest_pieces-feed, rest_pieces-other, rest_pieces-end, rest_pieces-whole}
use Rattle.plain_view.proofs.pieces.whole_pieces.Goals as goal

pub loop-c-init : goal.loop-c-init
loop-c-init c =
    rw (c.into_iter-c-iterator.ensures.into_iter_gives, c.chars-c-items.ensures.rest) (record {
      is_text = c.utf8.text;
      rest = rw c.new-pieces.ensures (rest_pieces-whole (chars c.args.text.now));
      room = omega arith;
      few = omega arith;
    })

pub loop-c-preserved-then-c-eq10 : goal.loop-c-preserved-then-c-eq10
loop-c-preserved-then-c-eq10 c =
    let before = c.loop-c.invariant in
    let piece : Piece = record { start = c.loop-c.start; end = c.loop-c.end + 1; ln = Some c.loop-c.number } in
    let rest : List Piece = rest_pieces (c.loop-c.number + 1) (c.loop-c.end + 1) (c.loop-c.end + 1) (chars c.next.new.self.rest.now) in record {
      is_text = IsUtf8-past_char _ _ c.in-Some.c before.is_text c.in-Some.ensures.steps.0;
      rest =
          ap (λ (ps : List Piece). ps ++ rest) c.in_ok-push.ensures.pushed ∙ append_assoc c.loop-c.pieces (piece ∷ []) rest ∙
          ap (λ (ps : List Piece). c.loop-c.pieces ++ ps)
          (sym (rest_pieces-feed c.loop-c.number c.loop-c.start c.loop-c.end c.in-Some.c _ _ before.is_text c.in-Some.ensures.steps.0 c.if-c-eq10.true)) ∙
          before.rest;
      room = omega (arith, before.room, ap length c.in-Some.ensures.steps.0, length-append (encode_utf8 c.in-Some.c) c.next.new.self.rest.now, length-encode c.in-Some.c, (len_utf8_bounds c.in-Some.c).0);
      few = omega (arith, before.few);
    }

pub loop-c-preserved : goal.loop-c-preserved
loop-c-preserved c =
    let before = c.loop-c.invariant in record {
      is_text = IsUtf8-past_char _ _ c.in-Some.c before.is_text c.in-Some.ensures.steps.0;
      rest =
          ap (λ (ps : List Piece). c.loop-c.pieces ++ ps)
          (sym (rest_pieces-other c.loop-c.number c.loop-c.start c.loop-c.end c.in-Some.c _ _ before.is_text c.in-Some.ensures.steps.0 c.if-c-eq10.false)) ∙
          before.rest;
      room = omega (arith, before.room, ap length c.in-Some.ensures.steps.0, length-append (encode_utf8 c.in-Some.c) c.next.new.self.rest.now, length-encode c.in-Some.c, (len_utf8_bounds c.in-Some.c).0);
      few = omega (arith, before.few);
    }

pub returns : goal.returns
returns c =
    c.in_ok-push-2.ensures.pushed ∙
    ap (λ (ps : List Piece). c.loop-c.pieces ++ ps)
    (sym (rest_pieces-end c.loop-c.number c.loop-c.start c.loop-c.end _ c.in-None.ensures.steps.0.0)) ∙
    c.loop-c.invariant.rest
