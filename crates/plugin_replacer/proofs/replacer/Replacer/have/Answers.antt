use Rattle.std.proofs.Common.{◌≢◌, None, Some, refl, sym, subst, ◌∙◌, arith}
use Rattle.std.specs.Str.{encode_utf8_all}
use Rattle.plugin_side.specs.Heard.{heard_in}
use Rattle.plugin_mirror.specs.declared.fault.BookFault.TheVariants.{NoMemory}
use Rattle.plugin_replacer.specs.Replacing.{line_course, turn_course}
use Rattle.plugin_replacer.specs.Turns.{TakesCourse, PutsFirst, in_utf8}
use Rattle.plugin_replacer.proofs.StepLemmas.{on_err_any, handed_on}
use Rattle.plugin_replacer.proofs.CourseLemmas.{TakenSoFar-start, TakenSoFar-next, TakenSoFar-ended, TakenSoFar-short, TakenSoFar-end, TakenSoFar-unasked}
use Rattle.plugin_replacer.proofs.replacer.Replacer.have.Goals as goal

pub loop-line-init : goal.loop-line-init
loop-line-init g c = record {
  found = refl;
  new = refl;
  so_far = TakenSoFar-start (g.M.Spot.found_in c.args.self.now.spot) c.args.self.now.new c.args.self.now.state c.args.lines.now (in_utf8 c.args.given.now);
}

pub loop-line-preserved : goal.loop-line-preserved
loop-line-preserved g c =
    let old = c.args.self.now in
    let inv = c.loop-line.invariant in
    record {
      found = c.heed.ensures.found ∙ inv.found;
      new = c.heed.ensures.new ∙ inv.new;
      so_far =
          TakenSoFar-next (g.M.Spot.found_in old.spot) old.new old.state c.loop-line.self.state c.heed.new.self.state c.args.lines.now c.loop-line.line-index c.line-item.result
          (in_utf8 c.args.given.now) (in_utf8 c.loop-line.given) (in_utf8 c.heed.new.given) inv.so_far c.loop-line-test.true c.line-item.is
          (subst (λ course. TakesCourse course c.heed.new.self.state None (in_utf8 c.loop-line.given) (in_utf8 c.heed.new.given))
          (λ i. line_course (inv.found i) (inv.new i) c.loop-line.self.state (heard_in (encode_utf8_all c.line-item.result))) c.in_ok-heed.ensures.all);
    }

pub returns-in_err-heed-clause-ended : goal.returns-in_err-heed-clause-ended
returns-in_err-heed-clause-ended g c =
    let old = c.args.self.now in
    let inv = c.loop-line.invariant in
    let why = c.in_err-heed.field-0.0 in
    let now = c.heed.new.self.state in
    let from = in_utf8 c.args.given.now in
    let to = in_utf8 c.heed.new.given in
    handed_on (λ fault. fault ≢ NoMemory → TakesCourse (turn_course (g.M.Spot.found_in old.spot) old.new old.state (in_utf8 c.args.lines.now)) now (Some fault) from to)
    c.from_residual.result why c.from_residual.ensures.1
    (λ other.
    TakenSoFar-ended (g.M.Spot.found_in old.spot) old.new old.state c.loop-line.self.state now c.args.lines.now c.loop-line.line-index c.line-item.result why from
    (in_utf8 c.loop-line.given) to inv.so_far c.loop-line-test.true c.line-item.is
    (subst (λ course. TakesCourse course now (Some why) (in_utf8 c.loop-line.given) to)
    (λ i. line_course (inv.found i) (inv.new i) c.loop-line.self.state (heard_in (encode_utf8_all c.line-item.result))) (c.in_err-heed.ensures.ended other)))

pub returns-in_err-heed-clause-first : goal.returns-in_err-heed-clause-first
returns-in_err-heed-clause-first g c =
    let old = c.args.self.now in
    let inv = c.loop-line.invariant in
    on_err_any _
    (TakenSoFar-short (g.M.Spot.found_in old.spot) old.new old.state c.loop-line.self.state c.args.lines.now c.loop-line.line-index c.line-item.result
    (in_utf8 c.args.given.now) (in_utf8 c.loop-line.given) (in_utf8 c.heed.new.given) inv.so_far c.loop-line-test.true c.line-item.is
    (subst (λ course. PutsFirst course.asks (in_utf8 c.loop-line.given) (in_utf8 c.heed.new.given))
    (λ i. line_course (inv.found i) (inv.new i) c.loop-line.self.state (heard_in (encode_utf8_all c.line-item.result))) c.in_err-heed.ensures.first))

pub returns-clause-all : goal.returns-clause-all
returns-clause-all g c =
    let old = c.args.self.now in
    TakenSoFar-end (g.M.Spot.found_in old.spot) old.new old.state c.loop-line.self.state c.ask.new.self.state c.args.lines.now c.loop-line.line-index
    (in_utf8 c.args.given.now) (in_utf8 c.loop-line.given) (in_utf8 c.ask.new.given) c.loop-line.invariant.so_far (omega (arith, c.loop-line-test.false)) c.in_ok-ask.ensures.all

pub returns-in_err-ask-clause-first : goal.returns-in_err-ask-clause-first
returns-in_err-ask-clause-first g c =
    let old = c.args.self.now in
    on_err_any _
    (subst (λ given. PutsFirst (turn_course (g.M.Spot.found_in old.spot) old.new old.state (in_utf8 c.args.lines.now)).asks (in_utf8 c.args.given.now) (in_utf8 given)) (sym c.in_err-ask.ensures.none)
    (TakenSoFar-unasked (g.M.Spot.found_in old.spot) old.new old.state c.loop-line.self.state c.args.lines.now c.loop-line.line-index
    (in_utf8 c.args.given.now) (in_utf8 c.loop-line.given) c.loop-line.invariant.so_far))
