use Rattle.std.proofs.Common.{◌≡◌, ◌++◌, map, drop}
use Rattle.std.specs.Str.{encode_utf8_all}
use Rattle.plugin_side.specs.Asking.{turn_bytes}
use Rattle.plugin_mirror.specs.Asks.{commands}
use Rattle.plugin_mirror.proofs.asks.ask_lines.Given as goal

abbrev pub invariant-loop-leaf : goal.invariant-loop-leaf
invariant-loop-leaf l =
    map encode_utf8_all l.lines ++ map turn_bytes (commands l.piece l.id (drop l.leaf-index l.leaves)) ≡ map turn_bytes (commands l.piece l.next l.leaves)
