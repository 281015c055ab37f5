use Rattle.std.proofs.Common.{List, Bool, ap, sym, ◌∙◌, length}
use Rattle.std.proofs.lemmas.List.{length-map}
use Rattle.std.proofs.lemmas.Result.{IfOk-weaker}
use Rattle.subset_runs.specs.Subset.{complement, items_outside, minus}
use Rattle.subset_runs.proofs.ForCallers.{length-at_each}
use Rattle.rev_engine.proofs.FlatLemmas.{length-members}
use Rattle.rev_engine.proofs.step.units_between.Goals as goal

pub picked-requires : goal.picked-requires
picked-requires c =
    c.requires.before ∙
    (sym (length-at_each _ c.args.before.now c.args.after.now (sym c.requires.before ∙ c.requires.after)) ∙
    (ap length (sym c.in_ok-appears.ensures) ∙ (sym (length-map c.in_ok-appears.appears _) ∙ ap length (sym c.in_ok-gone.ensures))))

pub synthesize_of-requires-clause-as_many : goal.synthesize_of-requires-clause-as_many
synthesize_of-requires-clause-as_many c =
    length-members (minus c.args.before.now c.args.after.now) c.args.union.now
    (c.requires.before ∙ sym (length-at_each _ c.args.before.now c.args.after.now (sym c.requires.before ∙ c.requires.after))) ∙
    ap (λ (flags : List Bool). length (items_outside (complement flags) c.args.union.now)) (sym c.in_ok-appears.ensures) ∙
    ap (λ (flags : List Bool). length (items_outside flags c.args.union.now)) (sym c.in_ok-gone.ensures) ∙ ap length (sym c.in_ok-text.ensures)

pub returns : goal.returns
returns c =
    IfOk-weaker c.synthesize_of.result _ _
    (λ units between. between.each c.args.union.now c.requires.before
    (ap (λ (flags : List Bool). items_outside (complement flags) c.args.union.now) (sym c.in_ok-appears.ensures) ∙
    (ap (λ (flags : List Bool). items_outside flags c.args.union.now) (sym c.in_ok-gone.ensures) ∙ sym c.in_ok-text.ensures)))
    c.synthesize_of.ensures
