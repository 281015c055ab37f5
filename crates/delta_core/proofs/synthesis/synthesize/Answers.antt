use Rattle.delta_core.proofs.SynthesisLemmas.{IsReading-start, IsReading-next, IsBetween-all, reading_room}
use Rattle.delta_core.proofs.AppearLemmas.{GrowsByBlock-whole}
use Rattle.delta_core.proofs.synthesis.synthesize.Goals as goal

pub loop-rest-init : goal.loop-rest-init
loop-rest-init c = record {
  reading =
      IsReading-start _ _ _ _ _ _ c.new-units.result c.requires.before c.requires.after c.as_str-rest.ensures.characters c.walk-before.ensures.all c.walk-after.ensures.all
      c.new-units.ensures.base c.new-units.ensures.kept c.new-units.ensures.added;
  utf8 = c.as_str-rest.utf8;
}

pub loop-rest-preserved : goal.loop-rest-preserved
loop-rest-preserved c = record {
  reading =
      IsReading-next _ _ _ c.loop-rest.units c.put_block.new.units _ _ _ c.loop-rest.before c.loop-rest.after _ _ c.next_block-block.result.len
      c.next_block-block.result.dead_before c.next_block-block.result.dead_after c.loop-rest.invariant.reading c.next_block-block.ensures.before
      c.next_block-block.ensures.after c.split_at_gap.ensures.front c.split_at_gap.ensures.back
      (GrowsByBlock-whole _ _ _ c.next_block-block.result.len c.next_block-block.result.dead_before c.next_block-block.result.dead_after _ _
      c.in_ok-put_block.ensures.puts c.split_at_gap.ensures.front
      (reading_room _ _ _ c.loop-rest.units _ c.loop-rest.before c.loop-rest.after _ c.next_block-block.result.len c.next_block-block.result.dead_before
      c.loop-rest.invariant.reading c.next_block-block.ensures.before).0);
  utf8 = c.split_at_gap.ensures.utf8;
}

pub returns : goal.returns
returns c =
    IsBetween-all _ _ _ c.loop-rest.units c.in_ok-into_units.field-0 _ c.loop-rest.before c.loop-rest.after c.loop-rest.invariant.reading c.requires.before
    c.requires.after (c.is_empty.ensures.0 c.loop-rest-test.false) c.in_ok-into_units.ensures.canonical c.in_ok-into_units.ensures.base
    c.in_ok-into_units.ensures.kept c.in_ok-into_units.ensures.added
