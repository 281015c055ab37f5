use Rattle.std.proofs.Common.{◌≡◌, ◌+◌, List, Bool, [], ◌∷◌, drop, length, ap, subst, sym, ◌∙◌, arith}
use Rattle.std.specs.Prelude.{IfOk, slice_index_or}
use Rattle.std.proofs.lemmas.List.{drop_more, length-drop, nil_from_length}
use Rattle.plain_text.specs.declared.run.Run.{Run}
use Rattle.match_index.specs.Found.{runs_in}
use Rattle.doc_layout.specs.Found.{RiseApart, is_found}
use Rattle.line_stays.proofs.JoinLemmas.{touching-found, touching-rise}
use Rattle.line_stays.proofs.FlagLemmas.{AreGathered, flags-same, gathered-all, gathered-none}
use Rattle.line_stays.proofs.RegionLemmas.{found-step}
use Rattle.line_stays.proofs.flags.found_in.Goals as goal

pub loop-run-init : goal.loop-run-init
loop-run-init g c =
    let range : Run = record { start = c.args.from; end = c.args.from + c.args.n } in (
      0,
      subst (RiseApart (length c.args.shown.now.results.now.text) 0) (sym (c.as_slice-run-items.ensures ∙ c.in_ok-results.ensures))
          (touching-rise range c.args.shown.now.results.now),
      subst (λ (flags : List Bool). AreGathered c.args.from c.args.n (is_found c.as_slice-run-items.result.now) (is_found c.as_slice-run-items.result.now) 0 flags)
          (sym c.none-flags.ensures) (gathered-none c.args.from c.args.n (is_found c.as_slice-run-items.result.now)),
    )

pub loop-run-preserved : goal.loop-run-preserved
loop-run-preserved g c =
    let runs = c.as_slice-run-items.result.now in
    let index = c.loop-run.run-index in
    let was = c.loop-run.invariant in
    let none : Run = record { start = 0; end = 0 } in
    let parts : drop index runs ≡ slice_index_or runs index none ∷ drop (index + 1) runs = drop_more runs index none c.loop-run-test.true in
    found-step c.args.from c.args.n (is_found runs) was.0 c.loop-run.flags _ (length c.args.shown.now.results.now.text) (slice_index_or runs index none)
    (drop (index + 1) runs) (subst (RiseApart (length c.args.shown.now.results.now.text) was.0) parts was.1)
    (subst (λ (rs : List Run). AreGathered c.args.from c.args.n (is_found runs) (is_found rs) was.0 c.loop-run.flags) parts was.2) c.in_ok-put_run.ensures

pub returns : goal.returns
returns g c =
    let range : Run = record { start = c.args.from; end = c.args.from + c.args.n } in
    let runs = c.as_slice-run-items.result.now in
    let was = c.loop-run.invariant in
    let nothing : drop c.loop-run.run-index runs ≡ [] = nil_from_length _ (omega (arith, length-drop c.loop-run.run-index runs, c.loop-run-test.false)) in
    subst (λ (flags : List Bool). IfOk c.filled.result (λ made. made ≡ flags))
    (gathered-all c.args.from c.args.n (is_found runs) (is_found (drop c.loop-run.run-index runs)) was.0 c.loop-run.flags was.2
    (λ k less. ap (λ (rs : List Run). is_found rs (c.args.from + k)) nothing) ∙
    flags-same c.args.from (is_found runs) (is_found (runs_in c.args.shown.now.results.now)) c.args.n
    (λ k less. ap (λ (rs : List Run). is_found rs (c.args.from + k)) (c.as_slice-run-items.ensures ∙ c.in_ok-results.ensures) ∙
    touching-found range c.args.shown.now.results.now (c.args.from + k) (omega arith) (omega (arith, less)))) c.filled.ensures
