use Rattle.std.proofs.Common.{suc, string_bytes, subst}
use Rattle.outside.specs.Paths.{LinksTo}
use Rattle.outside.proofs.saving.target_of.Goals as goal

-- src/saving.rt:65:5
pub loop-preserved : goal.loop-preserved
loop-preserved g c = (
  suc c.loop.invariant.0,
  (
    string_bytes c.loop.reached,
    c.loop.invariant.1,
    subst (λ link. LinksTo link (string_bytes c.in_ok-reached-in-Ok.reached)) c.as_str-in-Ok.ensures.value c.in_ok-reached-in-Ok.ensures,
  ),
)
