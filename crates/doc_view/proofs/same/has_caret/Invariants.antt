use Rattle.std.proofs.Common.{◌≡◌, drop}
use Rattle.plain_text.specs.Numbers.{has}
use Rattle.line_render.specs.Rendered.{carets_of}
use Rattle.doc_view.proofs.same.has_caret.Given as goal

abbrev pub invariant-loop-region : goal.invariant-loop-region
invariant-loop-region l = has (carets_of (drop l.region-index l.regions)) l.gap ≡ has (carets_of l.regions) l.gap
