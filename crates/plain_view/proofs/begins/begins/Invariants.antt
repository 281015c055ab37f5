use Rattle.std.proofs.Common.{◌≡◌, ◌++◌, length, drop}
use denote.Text.{Utf8}
use denote.Shadow.{shadow}
use Rattle.std.specs.Str.{chars}
use Rattle.plain_text.specs.Text.{place_of}
use Rattle.plain_view.specs.Viewed.{begins_of}
use Rattle.plain_view.proofs.PieceLemmas.{RiseWithin}
use Rattle.plain_view.proofs.begins.begins.Given as goal

abbrev pub invariant-loop-piece : goal.invariant-loop-piece
invariant-loop-piece l = record {
  is_text : shadow (Utf8 l.rest);
  rest : chars l.rest ≡ drop l.gap (chars l.text);
  begin : l.begin ≡ place_of (chars l.text) l.gap;
  rise : RiseWithin (length (chars l.text)) l.gap (drop l.piece-index l.pieces);
  kept : l.begins ++ begins_of (chars l.text) (drop l.piece-index l.pieces) ≡ begins_of (chars l.text) l.pieces;
}
