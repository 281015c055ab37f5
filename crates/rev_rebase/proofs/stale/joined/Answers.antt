use Rattle.std.proofs.Common.{◌++◌, flat_map, ap, ◌∙◌}
use Rattle.rev_rebase.proofs.JoinedLemmas.{added_text-joined}
use Rattle.rev_rebase.proofs.stale.joined.Goals as goal

pub loop-added-init : goal.loop-added-init
loop-added-init c =
    ap (λ made. made ++ flat_map (λ added. added.text) c.args.units.now.added) c.new-made.ensures ∙
    added_text-joined c.args.units.now c.requires
