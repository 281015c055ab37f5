use Rattle.std.proofs.Common.{◌≡◌}
use Rattle.std.specs.Str.{chars, IsUtf8}
use Rattle.line_render.specs.Rendered.{ends_in_feed}
use Rattle.line_render.proofs.FeedLemmas.{feed_after}
use Rattle.line_render.proofs.lines.has_feed.Given as goal

abbrev pub invariant-loop-c : goal.invariant-loop-c
invariant-loop-c l = record {
  is_text : IsUtf8 l.c-iterator.rest.now;
  so_far : ends_in_feed (chars l.text) ≡ feed_after l.feed (chars l.c-iterator.rest.now);
}
