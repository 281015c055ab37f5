use Rattle.std.proofs.Common.{length, refl, sym, subst, ◌∙◌}
use Rattle.std.proofs.lemmas.List.{length-map}
use Rattle.match_index.specs.Found.{runs_in}
use Rattle.plain_screen.specs.Touched.{partners_of}
use Rattle.line_cache.specs.Stays.{AreStaysFrom}
use Rattle.doc_layout.specs.Layout.{layout, layout_line}
use Rattle.line_stays.specs.Change.{touched_by}
use Rattle.line_stays.proofs.NoneLemmas.{length-partners_of}
use Rattle.line_stays.proofs.SettledLemmas.{settled-all}
use Rattle.line_stays.proofs.stays.stays_of.Goals as goal

pub returns-clause-sound : goal.returns-clause-sound
returns-clause-sound g c =
    subst (λ n. AreStaysFrom 0 0 n (length (g.T.TextView.pieces_of c.args.after.now.view.now)) c.in_ok-stays.stays) (sym c.requires.count) c.in_ok-stays.ensures.among

pub returns-clause-partners : goal.returns-clause-partners
returns-clause-partners g c =
    let text = g.T.TextView.text_of c.args.before.now.view.now in
    let pieces = g.T.TextView.pieces_of c.args.before.now.view.now in
    let other = g.T.TextView.text_of c.args.after.now.view.now in
    let parts = g.T.TextView.pieces_of c.args.after.now.view.now in
    let before = layout text pieces c.args.before.now.sel.now.regions (runs_in c.args.before.now.results.now) c.args.before.now.layers.now in
    let after = layout other parts c.args.after.now.sel.now.regions (runs_in c.args.after.now.results.now) c.args.after.now.layers.now in
    settled-all c.args.had.now (partners_of (touched_by c.args.change other) before after) (length pieces) (length parts) (length parts) c.in_ok-stays.stays
    (length-partners_of (touched_by c.args.change other) before after ∙
    length-map parts (layout_line other c.args.after.now.sel.now.regions (runs_in c.args.after.now.results.now) c.args.after.now.layers.now))
    refl c.in_ok-stays.ensures
