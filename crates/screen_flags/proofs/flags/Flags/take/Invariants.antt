use Rattle.std.proofs.Common.{◌≡◌, ◌≤◌, ◌++◌, length, drop}
use Rattle.serde_json.specs.View.{items_view}
use Rattle.screen_flags.specs.Flags.{changes_in, flags_after}
use Rattle.screen_flags.proofs.flags.Flags.take.Given as goal

abbrev pub invariant-loop-item : goal.invariant-loop-item
invariant-loop-item l =
    (l.at ≤ length l.self-inside.flags.items) ×
    (l.made.items ++ flags_after (drop l.at l.self-inside.flags.items) (changes_in (items_view (drop l.item-index l.fn.items))) ≡
    flags_after l.self-inside.flags.items (changes_in (items_view l.fn.items)))
