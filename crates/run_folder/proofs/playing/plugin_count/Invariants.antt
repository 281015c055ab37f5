use Rattle.std.proofs.Common.{◌≡◌, drop}
use Rattle.run_folder.specs.Folder.{count_from, plugin_count}
use Rattle.run_folder.proofs.playing.plugin_count.Given as goal

-- those before this place were counted
abbrev pub invariant-loop-entry : goal.invariant-loop-entry
invariant-loop-entry l = count_from l.count (drop l.entry-index l.journal) ≡ plugin_count l.journal
