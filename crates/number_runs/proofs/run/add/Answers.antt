use Rattle.std.proofs.Common.{◌≡◌, ◌-◌, sym, ◌∙◌, ap, arith}
use Rattle.std.proofs.lemmas.List.{get_or_default}
use Rattle.number_runs.specs.declared.run.NumberRun.{NumberRun}
use Rattle.number_runs.proofs.RunLemmas.{Adds-longer, Adds-push, IsFree, free_last, free_none, greater_end}
use Rattle.number_runs.proofs.run.add.Goals as goal
use Rattle.number_runs.proofs.run.add.Goals.{else-n-gt0-via-then-n-gt0+else-saturating_sub-index, else-n-gt0-via-else-n-gt0}

pub returns-then-saturating_sub-index : goal.returns-then-saturating_sub-index
returns-then-saturating_sub-index c =
    let items = c.args.runs.now.items in
    let last = c.index_mut.result.now in
    let tested : c.index.result.now.end ≡ last.end =
    ap (λ (r : NumberRun). r.end) (c.index.ensures ∙ (get_or_default items _ _ _ (omega arith) ∙ sym c.index_mut.ensures.value)) in
    let read : c.index-then-saturating_sub-index.result.now.end ≡ last.end =
    ap (λ (r : NumberRun). r.end) (c.index-then-saturating_sub-index.ensures ∙ (get_or_default items _ _ _ (omega arith) ∙ sym c.index_mut.ensures.value)) in
    let ends = greater_end _ _ _ c.max-end.ensures in
    Adds-longer 0 0 (c.len-n.result - 1) items last c.args.run c.max-end.result c.requires.apart (omega arith) (sym c.index_mut.ensures.value) c.requires.by
    (omega (arith, tested, c.if-saturating_sub-index.true)) c.requires.order (omega (arith, read, ends.0)) ends.1 (rw read at ends.2)

pub returns : goal.returns
returns c =
    let items = c.args.runs.now.items in
    let free : IsFree c.args.run.start items =
    elim c.else-n-gt0.branch [
      | else-n-gt0-via-then-n-gt0+else-saturating_sub-index w ↦
          free_last (c.len-n.result - 1) items w.index.result.now c.args.run.start (omega arith) (sym w.index.ensures) (omega (arith, w.if-saturating_sub-index.false))
      | else-n-gt0-via-else-n-gt0 w ↦ free_none items c.args.run.start (omega arith)
    ] in
    rw c.in_ok-push.ensures.items (Adds-push 0 0 items c.args.run c.requires.apart free (omega arith) c.requires.order)
