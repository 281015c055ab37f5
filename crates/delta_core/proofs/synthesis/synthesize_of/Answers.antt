use Rattle.delta_core.proofs.AppearLemmas.{IsReadingWith-start, IsReadingWith-room, IsReadingWith-next, IsBetweenWith-all}
use Rattle.delta_core.proofs.synthesis.synthesize_of.Goals as goal

pub loop-rest-init : goal.loop-rest-init
loop-rest-init c = record {
  reading =
      IsReadingWith-start _ _ _ _ _ _ c.new-units.result c.requires.same_length c.requires.as_many c.as_str-rest.ensures.characters
      c.walk-before.ensures.all c.walk-after.ensures.all c.new-units.ensures.base c.new-units.ensures.kept c.new-units.ensures.added;
  utf8 = c.as_str-rest.utf8;
}

pub put_block-requires-clause-as_many : goal.put_block-requires-clause-as_many
put_block-requires-clause-as_many c =
    (IsReadingWith-room _ _ _ c.loop-rest.units _ c.loop-rest.before c.loop-rest.after _ _ c.next_block-block.result.len
    c.next_block-block.result.dead_before c.next_block-block.result.dead_after c.loop-rest.invariant.reading c.next_block-block.ensures.before
    c.next_block-block.ensures.after).0

pub loop-rest-preserved : goal.loop-rest-preserved
loop-rest-preserved c = record {
  reading =
      IsReadingWith-next _ _ _ c.loop-rest.units c.put_block.new.units _ _ c.loop-rest.before c.loop-rest.after _ _ c.next_block-block.result.len
      c.next_block-block.result.dead_before c.next_block-block.result.dead_after c.loop-rest.invariant.reading c.next_block-block.ensures.before
      c.next_block-block.ensures.after c.in_ok-rest.ensures.puts;
  utf8 = c.in_ok-rest.ensures.utf8;
}

pub returns : goal.returns
returns c =
    IsBetweenWith-all _ _ _ c.loop-rest.units c.in_ok-into_units.field-0 _ c.loop-rest.before c.loop-rest.after c.loop-rest.invariant.reading
    c.requires.same_length (c.is_empty.ensures.0 c.loop-rest-test.false) c.in_ok-into_units.ensures.canonical c.in_ok-into_units.ensures.base
    c.in_ok-into_units.ensures.kept c.in_ok-into_units.ensures.added
