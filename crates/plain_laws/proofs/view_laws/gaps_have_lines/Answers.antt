use Rattle.plain_screen.proofs.callers.ViewLemmas.{IsLayoutLineOf-layout_line_of, IsLayoutLineOf-only, IsLogicalLineOf-logical_line_of}
use Rattle.plain_laws.proofs.view_laws.gaps_have_lines.Goals as goal

pub returns : goal.returns
returns c = record { line = IsLayoutLineOf-layout_line_of; only = IsLayoutLineOf-only; logical = IsLogicalLineOf-logical_line_of }
