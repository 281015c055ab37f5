use Rattle.std.proofs.Common.{◌≡◌, ◌++◌, ◌+◌, ℕ, List, [], drop, refl, append-nil, sym, ap, ◌∙◌, subst, append_assoc, arith}
use Rattle.std.proofs.lemmas.List.{take-append-drop}
use Rattle.xi_top.specs.Ending.{Outcome}
use Rattle.xi_top.specs.InnerRun.{HasTaken, GoesOn, EndsLine, HasNoEnd, begun_of}
use Rattle.xi_top.proofs.EnterLemmas.{reads_on}
use Rattle.xi_top.proofs.LineLemmas.{none_found, line_found}
use Rattle.xi_top.proofs.IntakeLemmas.{failed_with, goes_begin, stops_within}
use Rattle.xi_top.proofs.feed.Intake.feed.Goals as goal

pub loop-at-init : goal.loop-at-init
loop-at-init g c =
    let At : List ℕ → Type 0 = λ bytes. HasTaken (g.L.LineTaker.seen c.args.taker.now) bytes (begun_of c.args.self.now) in
    record {
      ready = c.requires.ready;
      later = g.met.L.LineTaker.same c.args.taker.now;
      small = c.requires.small;
      heavier = omega arith;
      done = ([], refl, λ taken at. subst At (sym (append-nil taken)) at);
    }

pub end_line-requires-clause-reads : goal.end_line-requires-clause-reads
end_line-requires-clause-reads g c =
    let law = g.met.L.LineTaker in
    let now = c.loop-at.taker in
    reads_on (g.L.LineTaker.serves c.args.taker.now) (g.L.LineTaker.serves now)
    (λ before who ask given after. law.serves_on c.args.taker.now now before who ask given after c.loop-at.invariant.later) c.requires.reads

pub returns-in_err-end_line-clause-later : goal.returns-in_err-end_line-clause-later
returns-in_err-end_line-clause-later g c =
    g.met.L.LineTaker.onward c.args.taker.now c.loop-at.taker c.end_line.new.taker c.loop-at.invariant.later c.end_line.ensures.later

pub returns-in_err-end_line-clause-goes : goal.returns-in_err-end_line-clause-goes
returns-in_err-end_line-clause-goes g c = λ taken at.
    let rest = c.loop-at.rest.now in
    let line = c.split_at.result.0.now in
    let later = c.split_at.result.1.now in
    let n = c.in-Some.at + 1 in
    let done = c.loop-at.invariant.done in
    let split : rest ≡ line ++ later =
    sym (take-append-drop n rest) ∙ ap (λ x. x ++ drop n rest) (sym c.split_at.ensures.front) ∙ ap (λ x. line ++ x) (sym c.split_at.ensures.back) in
    let found = c.in-Some.ensures in
    let ends : EndsLine line = subst EndsLine (sym c.split_at.ensures.front) (line_found rest c.in-Some.at found.0.high found.0.before found.1) in
    let ending = c.in_err-end_line.field-0.0 in
    let journal = g.L.LineTaker.seen c.end_line.new.taker in
    let At : Outcome → Type 0 = λ outcome. GoesOn journal (taken ++ c.args.chunk.now) (begun_of c.end_line.new.self) outcome in
    subst At (sym (failed_with c.from_residual.result ending c.from_residual.ensures.1))
    (stops_within taken done.0 line later c.args.chunk.now journal (begun_of c.end_line.new.self) ending
    (done.1 ∙ ap (λ x. done.0 ++ x) split) (c.in_err-end_line.ensures.goes (taken ++ done.0) ends (done.2 taken at)))

pub loop-at-preserved : goal.loop-at-preserved
loop-at-preserved g c =
    let rest = c.loop-at.rest.now in
    let line = c.split_at.result.0.now in
    let later = c.split_at.result.1.now in
    let n = c.in-Some.at + 1 in
    let done = c.loop-at.invariant.done in
    let split : rest ≡ line ++ later =
    sym (take-append-drop n rest) ∙ ap (λ x. x ++ drop n rest) (sym c.split_at.ensures.front) ∙ ap (λ x. line ++ x) (sym c.split_at.ensures.back) in
    let found = c.in-Some.ensures in
    let ends : EndsLine line = subst EndsLine (sym c.split_at.ensures.front) (line_found rest c.in-Some.at found.0.high found.0.before found.1) in
    let fed = c.in_ok-end_line.ensures.fed in
    record {
      ready = c.end_line.ensures.ready;
      later = g.met.L.LineTaker.onward c.args.taker.now c.loop-at.taker c.end_line.new.taker c.loop-at.invariant.later c.end_line.ensures.later;
      small = fed.small;
      heavier = omega (arith, fed.heavier, c.loop-at.invariant.heavier, c.split_at.ensures.front_len, c.split_at.ensures.back_len);
      done = (
        done.0 ++ line,
        done.1 ∙ ap (λ x. done.0 ++ x) split ∙ sym (append_assoc done.0 line later),
        λ taken at.
            let At : List ℕ → Type 0 = λ bytes. HasTaken (g.L.LineTaker.seen c.end_line.new.taker) bytes (begun_of c.end_line.new.self) in
            subst At (append_assoc taken done.0 line) (c.in_ok-end_line.ensures.goes (taken ++ done.0) ends (done.2 taken at)),
      );
    }

pub returns-clause-goes : goal.returns-clause-goes
returns-clause-goes g c = λ taken at.
    let rest = c.loop-at.rest.now in
    let done = c.loop-at.invariant.done in
    let none : HasNoEnd rest = none_found rest c.in_default.ensures in
    let journal = g.L.LineTaker.seen c.loop-at.taker in
    let At : List ℕ → Type 0 = λ bytes. GoesOn journal bytes (begun_of c.begin.new.self) c.begin.result in
    subst At (append_assoc taken done.0 rest ∙ ap (λ x. taken ++ x) (sym done.1))
    (goes_begin (taken ++ done.0) rest journal (begun_of c.loop-at.self) (begun_of c.begin.new.self) c.begin.result none (done.2 taken at) c.begin.ensures)
