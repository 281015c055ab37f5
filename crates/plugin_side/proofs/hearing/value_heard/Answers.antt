use Rattle.std.proofs.Common.{None, codes, option_map, sym, ap, ◌∙◌}
use Rattle.serde_json.specs.Find.{get}
use Rattle.serde_json.specs.View.{view}
use Rattle.plugin_side.specs.declared.heard.Heard.TheVariants as Hears
use Rattle.plugin_side.specs.Heard.{heard_of}
use Rattle.plugin_side.proofs.Hears.{value_heard-with_id, none_there, value_heard-without_id}
use Rattle.plugin_side.proofs.hearing.value_heard.Goals as goal

pub returns-then-has_id : goal.returns-then-has_id
returns-then-has_id c =
    c.answer_or_nothing.ensures ∙ ap (heard_of None) c.in_ok-answer.ensures ∙ sym (value_heard-with_id (view c.args.value) (sym c.has_id.ensures ∙ c.if-has_id.true))

pub told_of-requires : goal.told_of-requires
told_of-requires c = none_there (get (codes "id") (view c.args.value)) (sym c.has_id.ensures ∙ c.if-has_id.false)

pub returns : goal.returns
returns c =
    c.told_or_nothing.ensures
    ∙ ap (λ told. heard_of (option_map Hears.Told told) None) c.in_ok-told.ensures
    ∙ sym (value_heard-without_id (view c.args.value) (sym c.has_id.ensures ∙ c.if-has_id.false))
