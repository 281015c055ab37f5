use Rattle.std.proofs.Common.{◌≡◌, ◌+◌, ◌≤◌, ◌++◌, ℕ, length, length-append, ap, sym, ◌∙◌, subst, arith, rules}
use Rattle.xi_top.specs.Ending.{Outcome, too_long}
use Rattle.xi_top.specs.InnerRun.{Counts, GoesOn, begun_of}
use Rattle.xi_top.proofs.EnterLemmas.{no_fault}
use Rattle.xi_top.proofs.IntakeLemmas.{ends_some, failed_with, goes_next, stops_line, stops_long_line, stops_no_room, takes_line}
use Rattle.xi_top.proofs.feed.Intake.end_line.Goals as goal

pub returns-then-ending-len-clause-later : goal.returns-then-ending-len-clause-later
returns-then-ending-len-clause-later g c = g.met.L.LineTaker.same c.args.taker.now

pub returns-then-is_err-clause-later : goal.returns-then-is_err-clause-later
returns-then-is_err-clause-later g c = g.met.L.LineTaker.same c.args.taker.now

pub returns-then-ending-len-clause-goes : goal.returns-then-ending-len-clause-goes
returns-then-ending-len-clause-goes g c = λ taken ends at.
    let begun = c.args.self.now.begun in (
      tt,
      stops_long_line taken c.args.ending.now (g.L.LineTaker.seen c.args.taker.now) (begun_of c.args.self.now) ends at
          (omega (arith, c.if-ending-len.true, c.len.ensures, begun.ok.0, c.requires.small.room, length-append begun.items c.args.ending.now)),
    )

pub returns-then-is_err-clause-goes : goal.returns-then-is_err-clause-goes
returns-then-is_err-clause-goes g c = λ taken ends at.
    let begun = begun_of c.args.self.now in
    (tt, stops_no_room taken c.args.ending.now (g.L.LineTaker.seen c.args.taker.now) begun at (ends_some begun.bytes c.args.ending.now ends))

pub returns-in_err-enter-clause-goes : goal.returns-in_err-enter-clause-goes
returns-in_err-enter-clause-goes g c = λ taken ends at.
    let l = g.L.LineTaker in
    let old = l.seen c.args.taker.now in
    let new = l.seen c.enter.new.taker in
    let begun = c.args.self.now.begun in
    let line = c.hand_over.result in
    let is : line ≡ begun.items ++ c.args.ending.now = search rules in
    let fits : length line ≤ too_long =
    omega (arith, c.if-ending-len.false, c.len.ensures, begun.ok.0, c.requires.small.room, ap length is, length-append begun.items c.args.ending.now) in
    let ending = c.in_err-enter.field-0.0 in
    let At : Outcome → Type 0 = λ outcome. GoesOn new (taken ++ c.args.ending.now) (begun_of c.hand_over.new.self) outcome in
    subst At (sym (failed_with c.from_residual.result ending c.from_residual.ensures.1)) (
      no_fault old new line ending c.in_err-enter.ensures.entered,
      stops_line taken c.args.ending.now line old new (begun_of c.args.self.now) ends at is ending fits c.requires.small.few c.in_err-enter.ensures.entered,
    )

pub returns-clause-goes : goal.returns-clause-goes
returns-clause-goes g c = λ taken ends at.
    let l = g.L.LineTaker in
    let old = l.seen c.args.taker.now in
    let new = l.seen c.enter.new.taker in
    let begun = c.args.self.now.begun in
    let line = c.hand_over.result in
    let is : line ≡ begun.items ++ c.args.ending.now = search rules in
    let fits : length line ≤ too_long =
    omega (arith, c.if-ending-len.false, c.len.ensures, begun.ok.0, c.requires.small.room, ap length is, length-append begun.items c.args.ending.now) in
    let At : ℕ → Type 0 = λ count. Counts count c.next_line.result in
    let count : c.next_line.new.self.taken ≡ c.args.self.now.taken + 1 = c.next_line.ensures.count ∙ ap (λ n. n + 1) c.hand_over.ensures.taken in
    goes_next (taken ++ c.args.ending.now) new (begun_of c.next_line.new.self) c.next_line.result
    (takes_line taken c.args.ending.now line old new (begun_of c.args.self.now) ends at is (begun_of c.next_line.new.self) fits c.requires.small.few
    c.in_ok-enter.ensures.entered (c.next_line.ensures.bytes ∙ c.hand_over.ensures.none) count)
    (subst At (sym c.next_line.ensures.count) c.next_line.ensures.counts)
