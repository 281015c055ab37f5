use Rattle.std.proofs.Common.{◌∙◌, ap, arith, sym}
use Rattle.plain_text.specs.declared.run.Run.{Run}
use Rattle.std.specs.Prelude.{List}
use Rattle.match_index.specs.Inner.{strides_under, with_joined}
use Rattle.match_index.proofs.JoinedLemmas.{rest-none, rest-right, steps, touching-all, touching-start}
use Rattle.match_index.proofs.TreeLemmas.{count-small}
use Rattle.match_index.proofs.joined.joined_matches.Goals as goal

pub loop-found-init : goal.loop-found-init
loop-found-init c = record {
  made =
      c.new-runs.ensures ∙
      sym (touching-start c.args.len (strides_under c.args.strides.now) c.args.run c.ending_by-index.result.0 c.ending_by-index.result.1 c.ending_by-index.ensures);
  behind = c.ending_by-index.ensures.ends;
  past = c.ending_by-index.ensures.past;
}

pub returns-then-found-run : goal.returns-then-found-run
returns-then-found-run c =
    c.loop-found.invariant.made ∙
    touching-all c.args.len (strides_under c.args.strides.now) c.args.run c.loop-found.index
    (rest-right c.args.len 0 (strides_under c.args.strides.now) c.loop-found.index c.args.run c.in-Some.found c.requires
    (sym (sym c.in-Some.is ∙ c.run_behind.ensures)) c.if-found-run.true)

pub overflow_add-index : goal.overflow_add-index
overflow_add-index c =
    let on =
    steps c.args.len (strides_under c.args.strides.now) c.args.run c.loop-found.index c.loop-found.end c.in-Some.found (sym c.in-Some.is ∙ c.run_behind.ensures)
    c.loop-found.invariant.behind c.loop-found.invariant.past (omega (arith, c.if-found-run.false)) in
    let inside = on.inside in
    omega (arith, inside, count-small (strides_under c.args.strides.now) c.summary-all.ensures.fits)

pub loop-found-smaller : goal.loop-found-smaller
loop-found-smaller c =
    let on =
    steps c.args.len (strides_under c.args.strides.now) c.args.run c.loop-found.index c.loop-found.end c.in-Some.found (sym c.in-Some.is ∙ c.run_behind.ensures)
    c.loop-found.invariant.behind c.loop-found.invariant.past (omega (arith, c.if-found-run.false)) in
    let inside = on.inside in omega (arith, inside)

pub loop-found-preserved : goal.loop-found-preserved
loop-found-preserved c =
    let on =
    steps c.args.len (strides_under c.args.strides.now) c.args.run c.loop-found.index c.loop-found.end c.in-Some.found (sym c.in-Some.is ∙ c.run_behind.ensures)
    c.loop-found.invariant.behind c.loop-found.invariant.past (omega (arith, c.if-found-run.false)) in
    record {
      made =
          c.in_ok-put_joined.ensures ∙ ap (λ (runs : List Run). with_joined runs c.in-Some.found) c.loop-found.invariant.made ∙ sym on.made;
      behind = on.ends;
      past = λ more. on.past;
    }

pub returns : goal.returns
returns c =
    c.loop-found.invariant.made ∙
    touching-all c.args.len (strides_under c.args.strides.now) c.args.run c.loop-found.index
    (rest-none c.args.len 0 (strides_under c.args.strides.now) c.loop-found.index c.args.run (sym c.run_behind.ensures ∙ c.in_default.is))
