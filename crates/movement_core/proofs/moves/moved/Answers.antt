use Rattle.std.proofs.Common.{◌≡◌, List, ap, length, map, subst, sym, ◌∙◌}
use Rattle.std.specs.Prelude.{IfOk}
use Rattle.plain_text.specs.declared.selection.Region.{Region}
use Rattle.selection_core.specs.Mapped.{AreWithin}
use Rattle.selection_core.specs.Selection.{selection_of}
use Rattle.movement_core.specs.Motions.{region_after}
use Rattle.movement_core.proofs.FitLemmas.{IfOk-more}
use Rattle.movement_core.proofs.MoveLemmas.{AreWithin-after, AreWithin-selection}
use Rattle.movement_core.proofs.moves.moved.Goals as goal

pub returns-clause-regions : goal.returns-clause-regions
returns-clause-regions g c =
    let after = region_after c.args.tab (g.T.TextView.text_of c.args.view.now) (g.T.TextView.pieces_of c.args.view.now) c.args.motion c.args.extend in
    subst (λ (rs : List Region). IfOk c.of_regions.result (λ sel. sel.regions ≡ selection_of rs))
    (c.in_ok-regions.ensures ∙ ap (λ (rs : List Region). map after rs) c.as_slice.ensures) c.of_regions.ensures.regions

pub returns-clause-inside : goal.returns-clause-inside
returns-clause-inside g c =
    let text = g.T.TextView.text_of c.args.view.now in
    let pieces = g.T.TextView.pieces_of c.args.view.now in
    let after = region_after c.args.tab text pieces c.args.motion c.args.extend in
    let regions : List Region = map after c.args.sel.now.regions in
    let within = AreWithin-selection (length text) regions (AreWithin-after c.args.tab text pieces c.requires.characters c.args.motion c.args.extend c.args.sel.now.regions c.requires.inside) in
    IfOk-more (λ sel. sel.regions ≡ selection_of regions) (λ sel. AreWithin (length text) sel.regions) c.of_regions.result
    (λ sel is. subst (AreWithin (length text)) (sym is) within) (returns-clause-regions g c)
