use Rattle.std.proofs.Common.{◌≡◌, ◌++◌, drop, map}
use Rattle.selection_core.specs.Selection.{lesser_end}
use Rattle.edit_ops.specs.Commands.{tab_text}
use Rattle.edit_ops.specs.Replacements.{replaced_by}
use Rattle.edit_ops.proofs.tabs.tabs_of.Given as goal

abbrev pub invariant-loop-region : goal.invariant-loop-region
invariant-loop-region g l =
    l.tabs ++
    map (λ region. replaced_by (tab_text l.config (g.T.TextView.text_of l.view) (g.T.TextView.pieces_of l.view) (lesser_end region)) region)
    (drop l.region-index l.region-items) ≡
    map (λ region. replaced_by (tab_text l.config (g.T.TextView.text_of l.view) (g.T.TextView.pieces_of l.view) (lesser_end region)) region) l.region-items
