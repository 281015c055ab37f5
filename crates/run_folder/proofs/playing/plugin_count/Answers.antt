use Rattle.std.proofs.Common.{rules, ◌≡◌, ◌+◌, drop, get_or, refl, ap, sym, ◌∙◌, arith}
use Rattle.std.proofs.lemmas.List.{at_drop_all}
use Rattle.run_folder.specs.Folder.{count_from, plugin_count}
use Rattle.run_folder.proofs.FolderLemmas.{count_step}
use Rattle.run_folder.proofs.playing.plugin_count.Goals as goal

pub loop-entry-init : goal.loop-entry-init
unfolding plugin_count
loop-entry-init c = refl

pub loop-entry-preserved : goal.loop-entry-preserved
loop-entry-preserved c =
    let items = c.args.journal.now in
    let at = c.loop-entry.entry-index in
    let item = c.entry-item.result in
    let here : item ≡ get_or items at item = search rules in
    ap (λ count. count_from count (drop (at + 1) items)) c.with_caller-count.ensures ∙
    count_step items at c.loop-entry.count item (omega (arith, c.loop-entry-test.true)) here ∙ c.loop-entry.invariant

pub returns : goal.returns
returns c =
    sym (at_drop_all (count_from c.loop-entry.count) c.args.journal.now c.loop-entry.entry-index (omega (arith, c.loop-entry-test.false))) ∙
    c.loop-entry.invariant
