use Rattle.std.proofs.Common.{◌≡◌, List, ℕ, Bool, ap, arith, replicate, sym, ◌∙◌, false, length}
use Rattle.std.proofs.lemmas.Result.{IfOk-weaker}
use Rattle.plain_text.specs.Text.{byte_len}
use Rattle.subset_runs.specs.Subset.{items_outside}
use Rattle.delta_core.specs.Units.{text_after}
use Rattle.rev_engine.proofs.ByteLemmas.{byte_len-outside}
use Rattle.rev_engine.proofs.FlatLemmas.{length-none, outside-none, outside-uncounted}
use Rattle.rev_engine.proofs.step.without.Goals as goal

pub returns-then-count-eq0 : goal.returns-then-count-eq0
returns-then-count-eq0 c =
    IfOk-weaker c.copy.result _ _
    (λ made is. is ∙ sym (outside-uncounted c.args.dropped.now c.args.union.now c.requires.as_many (omega (arith, c.count.ensures, c.if-count-eq0.true))))
    c.copy.ensures

pub units_between-requires-clause-before : goal.units_between-requires-clause-before
units_between-requires-clause-before c = sym (ap length c.none-none.ensures ∙ length-none c.len.result ∙ c.len.ensures.count)

pub edited-requires-clause-base : goal.edited-requires-clause-base
edited-requires-clause-base c =
    let all : items_outside c.none-none.result c.args.union.now ≡ c.args.union.now =
    ap (λ (flags : List Bool). items_outside flags c.args.union.now) (c.none-none.ensures ∙ ap (λ n. replicate n false) c.len.ensures.count) ∙
    outside-none c.args.union.now in
    c.in_ok-units.ensures.base ∙ ap length all

pub edited-requires-clause-fits : goal.edited-requires-clause-fits
edited-requires-clause-fits c =
    let all : items_outside c.none-none.result c.args.union.now ≡ c.args.union.now =
    ap (λ (flags : List Bool). items_outside flags c.args.union.now) (c.none-none.ensures ∙ ap (λ n. replicate n false) c.len.ensures.count) ∙
    outside-none c.args.union.now in
    let made : byte_len (text_after c.in_ok-units.units c.args.union.now) ≡ byte_len (items_outside c.args.dropped.now c.args.union.now) =
    ap (λ (xs : List ℕ). byte_len (text_after c.in_ok-units.units xs)) (sym all) ∙ ap byte_len c.in_ok-units.ensures.leads in
    omega (arith, made, byte_len-outside c.args.dropped.now c.args.union.now, c.requires.fits)

pub returns : goal.returns
returns c =
    let all : items_outside c.none-none.result c.args.union.now ≡ c.args.union.now =
    ap (λ (flags : List Bool). items_outside flags c.args.union.now) (c.none-none.ensures ∙ ap (λ n. replicate n false) c.len.ensures.count) ∙
    outside-none c.args.union.now in
    IfOk-weaker c.edited.result _ _
    (λ made is. is ∙ ap (text_after c.in_ok-units.units) (sym all) ∙ c.in_ok-units.ensures.leads) c.edited.ensures
