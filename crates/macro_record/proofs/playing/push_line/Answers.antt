use Rattle.macro_record.proofs.LineLemmas.{pushed_ended, pushed_lacking}
use Rattle.macro_record.proofs.playing.push_line.Goals as goal

pub returns-in_ok-push-in-Some : goal.returns-in_ok-push-in-Some
returns-in_ok-push-in-Some c =
    pushed_lacking c.push.new.self.items c.extend_from_slice.new.self.items c.args.made.now.items c.args.line.now c.in-Some._front.now c.in-Some.last.now
    c.in-Some.ensures.cases.0 c.if-last-ne10.true c.in_ok-extend_from_slice.ensures.items c.in_ok-push-in-Some.ensures.items

pub returns-in_default : goal.returns-in_default
returns-in_default c =
    pushed_ended c.extend_from_slice.new.self.items c.args.made.now.items c.args.line.now c.in-Some._front.now c.in-Some.last.now
    c.in-Some.ensures.cases.0 c.if-last-ne10.false c.in_ok-extend_from_slice.ensures.items
