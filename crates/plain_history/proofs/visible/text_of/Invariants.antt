use Rattle.std.proofs.Common.{◌≡◌, ◌++◌, drop, map}
use Rattle.std.specs.List.{filter}
use Rattle.plain_edits.specs.History.{Tagged, is_visible}
use Rattle.plain_history.proofs.visible.text_of.Given as goal

abbrev pub invariant-loop-tagged : goal.invariant-loop-tagged
invariant-loop-tagged l =
    l.text ++ map (λ (tagged : Tagged). tagged.character) (filter (is_visible l.revisions l.at) (drop l.tagged-index l.characters)) ≡
    map (λ (tagged : Tagged). tagged.character) (filter (is_visible l.revisions l.at) l.characters)
