use Rattle.std.proofs.Common.{ap₂, sym, subst, ◌∙◌, arith}
use Rattle.std.specs.Prelude.{Option, ℕ}
use Rattle.match_index.specs.Found.{first_from, runs_in}
use Rattle.doc_view.specs.Inner.{AreFoundApart, earlier}
use Rattle.doc_view.proofs.AnewLemmas.{AreBothFrom-next, AreBothFrom-start, AreFoundApart-both, shared-inside}
use Rattle.doc_view.proofs.same.found_apart.Goals as goal

pub loop-found-init : goal.loop-found-init
loop-found-init c = AreBothFrom-start c.args.matches.now c.args.others.now

pub loop-found-preserved : goal.loop-found-preserved
loop-found-preserved c =
    (AreBothFrom-next c.loop-found.at (runs_in c.args.matches.now) (runs_in c.args.others.now) c.in-Some.found c.loop-found.invariant
    (sym (sym c.in-Some.is ∙ c.shared_from.ensures))).1

pub loop-found-smaller : goal.loop-found-smaller
loop-found-smaller c =
    let is = sym (sym c.in-Some.is ∙ c.shared_from.ensures) in
    let past =
    AreBothFrom-next c.loop-found.at (runs_in c.args.matches.now) (runs_in c.args.others.now) c.in-Some.found c.loop-found.invariant is in
    let inside = shared-inside c.args.matches.now c.loop-found.at (first_from c.loop-found.at (runs_in c.args.others.now)) c.in-Some.found is in
    omega (arith, past.0, inside)

pub returns : goal.returns
returns c =
    subst (λ (gap : Option ℕ). AreFoundApart gap (runs_in c.args.matches.now) (runs_in c.args.others.now))
    (sym (c.earlier.ensures ∙ ap₂ earlier c.start_from.ensures c.start_from-2.ensures))
    (AreFoundApart-both c.loop-found.at (runs_in c.args.matches.now) (runs_in c.args.others.now) c.loop-found.invariant)
