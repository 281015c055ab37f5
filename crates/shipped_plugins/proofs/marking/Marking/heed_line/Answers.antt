use Rattle.std.proofs.Common.{◌≡◌, sym, ap, subst, ◌∙◌}
use Rattle.std.specs.Str.{encode_utf8_all}
use Rattle.std.proofs.lemmas.Result.{on_err_weaker}
use Rattle.plugin_side.specs.declared.heard.Heard.TheVariants as Hears
use Rattle.plugin_side.specs.Heard.{heard_in}
use Rattle.shipped_plugins.specs.Turns.{ComesFirst, utf8_of}
use Rattle.shipped_plugins.specs.Todo.{settles, todo_step}
use Rattle.shipped_plugins.proofs.TurnLemmas.{HeedsFirst-one}
use Rattle.shipped_plugins.proofs.marking.Marking.heed_line.Goals as goal

pub returns-in-Answer-clause-first : goal.returns-in-Answer-clause-first
returns-in-Answer-clause-first c =
    let now = c.args.self.now in
    let heard : heard_in (encode_utf8_all c.args.line.now) ≡ Hears.Answer c.in-Answer.id c.in-Answer.answer = sym c.in_ok-told.ensures ∙ c.in-Answer.is in
    let same : settles now c.number_of.result c.in-Answer.answer ≡ todo_step now (heard_in (encode_utf8_all c.args.line.now)) =
    ap (λ id. settles now id c.in-Answer.answer) c.number_of.ensures ∙ sym (ap (todo_step now) heard) in
    on_err_weaker c.settle.result
    (λ first.
    HeedsFirst-one todo_step now c.settle.new.self (encode_utf8_all c.args.line.now) (utf8_of c.args.given.now) (utf8_of c.settle.new.given)
    (subst (λ step. ComesFirst step c.settle.new.self (utf8_of c.args.given.now) (utf8_of c.settle.new.given)) same first))
    c.settle.ensures.first
