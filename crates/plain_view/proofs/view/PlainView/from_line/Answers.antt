use Rattle.std.proofs.Common.{ℕ, List, drop, None, get_or, ap, sym, ◌∙◌, ◌≡◌}
use Rattle.std.specs.Str.{chars}
use Rattle.plain_text.specs.Text.{place_of}
use Rattle.plain_screen.specs.declared.piece.Piece.{Piece}
use Rattle.plain_text.proofs.callers.TextLemmas.{IsCharBoundary-place}
use Rattle.plain_screen.specs.View.{start_of}
use Rattle.plain_view.proofs.PieceLemmas.{begin_is, chars-from_gap, start_of-get}
use Rattle.plain_view.proofs.view.PlainView.from_line.Goals as goal

pub split_at-requires : goal.split_at-requires
split_at-requires c =
    let below = rw (sym c.self.view_is) at c.requires in
    let begin : get_or c.as_slice-2.result.now c.args.line 0 ≡ place_of c.self.inside.text (start_of c.self.inside.pieces c.args.line) =
    ap (λ (bs : List ℕ). get_or bs c.args.line 0) c.as_slice-2.ensures ∙
    begin_is c.self.inside.text c.self.inside.pieces c.self.inside.begins c.args.line c.self.invariant.kept below in
    rw (begin, c.as_str.ensures.utf8) (IsCharBoundary-place c.self.inside.text _ c.as_str.ensures.scalars)

pub returns-clause-start : goal.returns-clause-start
returns-clause-start c =
    let below = rw (sym c.self.view_is) at c.requires in
    let d : Piece = record { start = 0; end = 0; ln = None } in
    rw (← c.self.view_is)
    (ap (λ (ps : List Piece). (get_or ps c.args.line d).start) c.as_slice.ensures ∙ sym (start_of-get c.self.inside.pieces c.args.line d below))

pub returns-clause-rest : goal.returns-clause-rest
returns-clause-rest c =
    let below = rw (sym c.self.view_is) at c.requires in
    let text = c.self.inside.text in
    let begin : get_or c.as_slice-2.result.now c.args.line 0 ≡ place_of text (start_of c.self.inside.pieces c.args.line) =
    ap (λ (bs : List ℕ). get_or bs c.args.line 0) c.as_slice-2.ensures ∙
    begin_is text c.self.inside.pieces c.self.inside.begins c.args.line c.self.invariant.kept below in
    rw (← c.self.view_is)
    (ap chars (c.split_at.ensures.back ∙ ap (λ (n : ℕ). drop n c.as_str.result.now) begin) ∙
    chars-from_gap text c.as_str.result.now (start_of c.self.inside.pieces c.args.line) c.as_str.ensures.scalars c.as_str.ensures.utf8)
