use Rattle.std.proofs.Common.{◌≡◌, ◌++◌, drop}
use Rattle.plugin_mirror.specs.Leaf.{settled, whole_page}
use Rattle.plugin_mirror.proofs.leaf.Leaf.settled.Given as goal

abbrev pub invariant-loop-notice : goal.invariant-loop-notice
invariant-loop-notice l =
    settled (drop l.notice-index l.self.kept) l.page ≡
    settled l.self.kept (whole_page l.self (l.self.page.text ++ l.last))
