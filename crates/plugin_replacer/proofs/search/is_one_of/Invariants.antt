use Rattle.std.proofs.Common.{◌≡◌, drop}
use Rattle.plugin_replacer.specs.Replacing.{is_one_of}
use Rattle.plugin_replacer.proofs.search.is_one_of.Given as goal

abbrev pub invariant-loop-other : goal.invariant-loop-other
invariant-loop-other l = is_one_of (drop l.other-index l.views) l.view ≡ is_one_of l.views l.view
