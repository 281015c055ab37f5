use Rattle.std.proofs.Common.{◌≡◌, ◌-◌, length, drop, sym, ap, subst, ◌∙◌, arith}
use Rattle.line_cache.specs.Ahead.{Ahead}
use Rattle.line_cache.proofs.AheadLemmas.{alike-ahead, drop-further}
use Rattle.line_cache.proofs.StayLemmas.{drop-some}
use Rattle.line_cache.proofs.old_lines.OldLines.stretch_from.Goals as goal

pub front-requires : goal.front-requires
front-requires c = λ none.
    let own = c.self.inside in
    let done = ap (λ (a : Ahead). a.done) c.self.view_is in
    let long = ap (λ (a : Ahead). length a.truths) c.self.view_is in
    drop-some own.ahead (c.args.old - own.done) (omega (arith, done, long, c.requires.ahead, c.requires.inside)) (sym c.skip.ensures ∙ none)

pub returns-clause-same : goal.returns-clause-same
returns-clause-same c = λ all left k lt.
    let own = c.self.inside in
    let done = ap (λ (a : Ahead). a.done) c.self.view_is in
    let rest = subst (λ (a : Ahead). drop a.done all ≡ a.truths) (sym c.self.view_is) left.1 in
    alike-ahead all c.skip.new.self c.args.old c.front.result
    (drop-further all own.ahead c.skip.new.self own.done c.args.old (omega (arith, done, c.requires.ahead)) rest c.skip.ensures) c.front.ensures k lt
