use Rattle.std.proofs.Common.{◌≡◌, ◌+◌, List, Bool, [], ◌∷◌, drop, ap, subst, sym, arith}
use Rattle.std.specs.Prelude.{IfOk, None, slice_index_or}
use Rattle.std.proofs.lemmas.List.{drop_more, length-drop, nil_from_length}
use Rattle.plain_text.specs.declared.selection.Region.{Region}
use Rattle.plain_text.specs.Numbers.{has}
use Rattle.line_render.specs.Rendered.{carets_of}
use Rattle.line_stays.proofs.FlagLemmas.{AreGathered, gathered-all, gathered-none}
use Rattle.line_stays.proofs.RegionLemmas.{RegionsRise, caret-step, regions-rise}
use Rattle.line_stays.proofs.flags.carets_in.Goals as goal

pub loop-region-init : goal.loop-region-init
loop-region-init c = (0, regions-rise c.args.regions.now c.requires.selection, subst (λ (flags : List Bool). AreGathered c.args.from c.args.n (has (carets_of c.args.regions.now)) (has (carets_of c.args.regions.now)) 0 flags) (sym c.none-flags.ensures) (gathered-none c.args.from c.args.n (has (carets_of c.args.regions.now))))

pub loop-region-preserved : goal.loop-region-preserved
loop-region-preserved c =
    let regions = c.args.regions.now in
    let index = c.loop-region.region-index in
    let was = c.loop-region.invariant in
    let none : Region = record { anchor = 0; caret = 0; goal = None } in
    let parts : drop index regions ≡ slice_index_or regions index none ∷ drop (index + 1) regions = drop_more regions index none c.loop-region-test.true in
    caret-step c.args.from c.args.n (has (carets_of regions)) was.0 c.loop-region.flags _ c.saturating_add.result (slice_index_or regions index none)
    (drop (index + 1) regions) (subst (RegionsRise was.0) parts was.1)
    (subst (λ (rs : List Region). AreGathered c.args.from c.args.n (has (carets_of regions)) (has (carets_of rs)) was.0 c.loop-region.flags) parts was.2)
    c.saturating_add.ensures c.requires.fits c.in_ok-put_run.ensures

pub returns : goal.returns
returns c =
    let regions = c.args.regions.now in
    let was = c.loop-region.invariant in
    let nothing : drop c.loop-region.region-index regions ≡ [] =
    nil_from_length _ (omega (arith, length-drop c.loop-region.region-index regions, c.loop-region-test.false)) in
    subst (λ (flags : List Bool). IfOk c.filled.result (λ made. made ≡ flags))
    (gathered-all c.args.from c.args.n (has (carets_of regions)) (has (carets_of (drop c.loop-region.region-index regions))) was.0 c.loop-region.flags was.2
    (λ k less. ap (λ (rs : List Region). has (carets_of rs) (c.args.from + k)) nothing)) c.filled.ensures
