use Rattle.std.proofs.Common.{take}
use Rattle.std.specs.List.{flat_map}
use Rattle.plain_text.specs.InputLines.{lines_of}
use Rattle.macro_record.specs.Played.{with_lf}
use Rattle.macro_record.proofs.WalkLemmas.{room_step, made_step}
use Rattle.macro_record.proofs.playing.first_lines.Goals as goal

pub loop-left-preserved : goal.loop-left-preserved
loop-left-preserved c =
    let lines = lines_of c.loop-left.rest.now in
    let more = lines_of c.cut_line.result.1.now in
    let line = c.cut_line.result.0.now in
    let left = c.loop-left.left in
    record {
      room = room_step left lines more line c.cut_line.ensures.lines c.loop-left.invariant.room;
      so_far =
          made_step (flat_map with_lf (take c.args.count (lines_of c.args.bytes.now))) c.loop-left.made.items c.push_line.new.made.items left lines more line
          c.cut_line.ensures.lines c.loop-left-test.true c.in_ok-push_line.ensures c.loop-left.invariant.so_far;
    }
