use Rattle.std.proofs.Common.{ℕ, map, subst}
use Rattle.std.specs.Prelude.{IfOk}
use Rattle.edit_ops.specs.Inner.{AreSelected}
use Rattle.edit_ops.specs.Regions.{regions_touched, without_goal}
use Rattle.edit_ops.proofs.pointing.touched_at.Goals as goal

pub returns : goal.returns
returns g c =
    subst
    (λ (gap : ℕ). IfOk c.touched.result (λ after. AreSelected (g.T.TextView.text_of c.args.view.now) (regions_touched (g.T.TextView.text_of c.args.view.now) c.args.ty gap (map without_goal c.args.sel.now.regions)) after.regions))
    c.in_ok-gap.ensures.value c.touched.ensures
