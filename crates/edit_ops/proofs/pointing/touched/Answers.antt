use Rattle.std.proofs.Common.{arith, length, map, refl}
use Rattle.selection_core.specs.Selection.{caret_of}
use Rattle.edit_ops.specs.Regions.{ranged, toggled, without_goal}
use Rattle.edit_ops.proofs.SelectedLemmas.{AreSelected-one, AreSelected-told, AreWithin-ranged, AreWithin-toggled, AreWithin-without_goal}
use Rattle.edit_ops.proofs.pointing.touched.Goals as goal

pub returns-in-Point : goal.returns-in-Point
returns-in-Point g c =
    let low = c.requires.gap in rw c.in-Point.is (AreSelected-one (g.T.TextView.text_of c.args.view.now) (caret_of c.args.gap) _ c.caret_at.result refl (omega arith) c.caret_at.ensures.regions)

pub returns-in-Toggle : goal.returns-in-Toggle
returns-in-Toggle g c =
    let regions = map without_goal c.args.sel.now.regions in
    rw c.in-Toggle.is
    (AreSelected-told (g.T.TextView.text_of c.args.view.now) (toggled c.args.gap regions) c.toggle.result
    (AreWithin-toggled (length (g.T.TextView.text_of c.args.view.now)) c.args.gap regions c.requires.gap (AreWithin-without_goal (length (g.T.TextView.text_of c.args.view.now)) c.args.sel.now.regions c.requires.inside))
    c.toggle.ensures.regions c.toggle.ensures.sound)

pub returns-in-Range : goal.returns-in-Range
returns-in-Range g c =
    let regions = map without_goal c.args.sel.now.regions in
    rw c.in-Range.is
    (AreSelected-told (g.T.TextView.text_of c.args.view.now) (ranged c.args.gap regions) c.range_to.result
    (AreWithin-ranged (length (g.T.TextView.text_of c.args.view.now)) c.args.gap regions c.requires.gap (AreWithin-without_goal (length (g.T.TextView.text_of c.args.view.now)) c.args.sel.now.regions c.requires.inside))
    c.range_to.ensures.regions c.range_to.ensures.sound)
