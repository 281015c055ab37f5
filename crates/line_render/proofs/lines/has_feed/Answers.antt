use Rattle.std.proofs.Common.{rules, sym, ◌∙◌}
use Rattle.std.specs.Str.{chars}
use Rattle.std.proofs.lemmas.Str.{IsUtf8-past_char}
use Rattle.line_render.proofs.FeedLemmas.{feed_after-start, feed_after-step, feed_after-end}
use Rattle.line_render.proofs.lines.has_feed.Goals as goal

pub loop-c-init : goal.loop-c-init
loop-c-init c = record {
  is_text = search rules;
  so_far = rw (c.into_iter-c-iterator.ensures.into_iter_gives, c.chars-c-items.ensures.rest) (feed_after-start (chars c.args.text.now));
}

pub loop-c-preserved : goal.loop-c-preserved
loop-c-preserved c = record {
  is_text = IsUtf8-past_char _ _ c.in-Some.c c.loop-c.invariant.is_text c.in-Some.ensures.steps.0;
  so_far = c.loop-c.invariant.so_far ∙ feed_after-step c.loop-c.feed _ c.next.new.self.rest.now c.in-Some.c c.loop-c.invariant.is_text c.in-Some.ensures.steps.0;
}

pub returns : goal.returns
returns c = sym (c.loop-c.invariant.so_far ∙ feed_after-end c.loop-c.feed _ c.in-None.ensures.steps.0.0)
