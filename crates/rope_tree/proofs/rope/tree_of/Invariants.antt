use denote.Text.{Utf8}
use denote.Shadow.{shadow}
use Rattle.std.proofs.Common.{◌≡◌, ◌++◌, length}
use Rattle.std.specs.Str.{chars}
use Rattle.rope_node.specs.Node.{text_of}
use Rattle.rope_tree.proofs.rope.tree_of.Given as goal

abbrev pub invariant-loop-left : goal.invariant-loop-left
invariant-loop-left l = record {
  is_text : shadow (Utf8 l.rest);
  made : text_of l.tree ++ chars l.rest ≡ l.text;
  count : l.left ≡ length (chars l.rest);
}

abbrev pub decreases-loop-left : goal.decreases-loop-left
decreases-loop-left l = l.left
