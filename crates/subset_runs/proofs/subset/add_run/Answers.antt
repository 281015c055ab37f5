use Rattle.std.proofs.Common.{◌≡◌, ℕ, ◌-◌, ◌≤◌, sym, ◌∙◌, subst, ap, set, arith}
use Rattle.std.proofs.lemmas.List.{get_or_default}
use Rattle.subset_runs.specs.Runs.{next_start}
use Rattle.subset_runs.specs.Inner.{AddsRun}
use Rattle.subset_runs.proofs.RunLemmas.{AddsRun-longer, AddsRun-push, next_start-free, next_start-empty}
use Rattle.subset_runs.proofs.subset.add_run.Goals as goal
use Rattle.subset_runs.proofs.subset.add_run.Goals.{else-n-gt0-via-then-n-gt0+else-index-start, else-n-gt0-via-else-n-gt0}

pub returns-then-index-start-clause-ok : goal.returns-then-index-start-clause-ok
returns-then-index-start-clause-ok c =
    let items = c.args.runs.now.items in
    let last = c.index_mut.result.now in
    let same : c.index.result.now ≡ last =
    c.index.ensures ∙ (get_or_default items _ _ _ (omega arith) ∙ sym c.index_mut.ensures.value) in
    let at_start : last.1 ≡ c.args.start = ap (λ (r : ℕ × ℕ). r.1) (sym same) ∙ c.if-index-start.true in
    let longer = AddsRun-longer 0 (c.len-n.result - 1) items last c.args.end c.requires.apart (omega arith) (sym c.index_mut.ensures.value) (omega arith) in
    subst (λ (s : ℕ). AddsRun 0 items (set items (c.len-n.result - 1) (last.0, c.args.end)) s c.args.end) at_start longer

pub returns-clause-ok : goal.returns-clause-ok
returns-clause-ok c =
    let items = c.args.runs.now.items in
    let free : next_start 0 items ≤ c.args.start =
    elim c.else-n-gt0.branch [
      | else-n-gt0-via-then-n-gt0+else-index-start w ↦
          next_start-free _ items w.index.result.now c.args.start (omega arith) (sym w.index.ensures) w.if-index-start.false c.requires.within
      | else-n-gt0-via-else-n-gt0 w ↦ omega (arith, next_start-empty items (omega arith))
    ] in
    rw c.in_ok-push.ensures.items (AddsRun-push 0 items c.args.start c.args.end c.requires.apart free c.requires.order)
