use Rattle.std.proofs.Common.{List, ℕ, sym, subst}
use Rattle.cluster_core.specs.Plain.{IsPrintable}
use Rattle.cluster_core.proofs.PrintableLemmas.{column_after-printable}
use Rattle.cluster_core.proofs.widths.column_after.Goals as goal

pub returns-then-is_printable-clause-value : goal.returns-then-is_printable-clause-value
returns-then-is_printable-clause-value c =
    sym (column_after-printable c.args.tab c.args.column c.args.cluster.now c.utf8.cluster
    (subst (λ (bs : List ℕ). IsPrintable bs) c.as_bytes.ensures.value (c.is_printable.ensures c.if-is_printable.true)))
