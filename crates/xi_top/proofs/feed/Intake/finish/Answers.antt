use Rattle.std.proofs.Common.{◌≡◌, ◌≢◌, [], ℕ, List, length, ap, subst, arith}
use Rattle.std.proofs.lemmas.Bool.Decides.{nat_tests}
use Rattle.std.proofs.lemmas.List.{nil_from_length}
use Rattle.xi_top.specs.InnerRun.{Enters, begun_of}
use Rattle.xi_top.proofs.IntakeLemmas.{finish_empty, finish_last}
use Rattle.xi_top.proofs.feed.Intake.finish.Goals as goal

pub returns-then-is_empty-clause-finishes : goal.returns-then-is_empty-clause-finishes
returns-then-is_empty-clause-finishes g c = λ taken at.
    let begun = c.args.self.now.begun in
    let none : length begun.items ≡ 0 = grind (arith, nat_tests, c.if-is_empty.true, c.is_empty.ensures, begun.ok.0) in
    finish_empty taken (g.L.LineTaker.seen c.args.taker.now) (begun_of c.args.self.now) at (nil_from_length begun.items none)

pub returns-clause-finishes : goal.returns-clause-finishes
returns-clause-finishes g c = λ taken at.
    let l = g.L.LineTaker in
    let begun = c.args.self.now.begun in
    let Entered : List ℕ → Type 0 = λ line. Enters (l.seen c.args.taker.now) (l.seen c.enter.new.taker) line c.enter.result in
    let some : begun.items ≢ [] = λ nil. grind (arith, nat_tests, c.if-is_empty.false, c.is_empty.ensures, begun.ok.0, ap length nil) in
    finish_last taken (l.seen c.args.taker.now) (l.seen c.enter.new.taker) (begun_of c.args.self.now) at c.requires.small some c.enter.result
    (subst Entered c.hand_over.ensures.line c.enter.ensures.entered)

pub returns-then-is_empty-clause-none : goal.returns-then-is_empty-clause-none
returns-then-is_empty-clause-none g c =
    let begun = c.args.self.now.begun in
    let none : length begun.items ≡ 0 = grind (arith, nat_tests, c.if-is_empty.true, c.is_empty.ensures, begun.ok.0) in
    nil_from_length begun.items none
