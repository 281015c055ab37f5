use Rattle.std.proofs.Common.{◌≡◌, ℕ, take, Some, slice_get}
use Rattle.plain_edits.specs.declared.style.Style.{Style}
use Rattle.span_styles.proofs.table.StyleTableTryClone.copy.Given as goal

abbrev pub invariant-loop-style : goal.invariant-loop-style
invariant-loop-style l = record {
  so_far : l.made ≡ take l.style-index l.style-items;
  all : l.style-items ≡ l.self;
  distinct : (i j : ℕ) (style : Style) → slice_get l.style-items i ≡ Some style → slice_get l.style-items j ≡ Some style → i ≡ j;
}
