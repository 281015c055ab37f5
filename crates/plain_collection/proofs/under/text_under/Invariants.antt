use Rattle.std.proofs.Common.{◌≡◌, ◌++◌, drop, map}
use Rattle.std.specs.List.{filter}
use Rattle.plain_edits.specs.History.{Tagged, is_visible_under}
use Rattle.plain_collection.proofs.under.text_under.Given as goal

abbrev pub invariant-loop-tagged : goal.invariant-loop-tagged
invariant-loop-tagged l =
    l.text ++ map (λ (tagged : Tagged). tagged.character) (filter (is_visible_under l.history.revisions l.groups l.at) (drop l.tagged-index l.tagged-items)) ≡
    map (λ (tagged : Tagged). tagged.character) (filter (is_visible_under l.history.revisions l.groups l.at) l.history.characters)
