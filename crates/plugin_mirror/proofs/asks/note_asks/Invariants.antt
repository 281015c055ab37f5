use Rattle.std.proofs.Common.{◌≡◌, ◌++◌, take, drop, length}
use Rattle.plugin_mirror.specs.Asks.{leaves_asked, next_asked}
use Rattle.plugin_mirror.proofs.asks.note_asks.Given as goal

abbrev pub invariant-loop-place : goal.invariant-loop-place
invariant-loop-place l =
    record {
      len : length l.leaves.items ≡ length l.initial.leaves.items;
      next : next_asked l.id (drop l.place l.leaves.items) ≡ next_asked l.next l.initial.leaves.items;
      leaves :
          take l.place l.leaves.items ++ leaves_asked l.id (drop l.place l.leaves.items) ≡ leaves_asked l.next l.initial.leaves.items;
    }
