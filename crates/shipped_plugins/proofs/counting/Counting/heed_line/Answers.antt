use Rattle.std.proofs.Common.{◌≡◌, sym, ap, subst, ◌∙◌}
use Rattle.std.specs.Str.{encode_utf8_all}
use Rattle.std.proofs.lemmas.Result.{on_err_weaker}
use Rattle.plugin_side.specs.declared.heard.Heard.TheVariants as Hears
use Rattle.plugin_side.specs.Heard.{heard_in}
use Rattle.shipped_plugins.specs.Turns.{ComesFirst, utf8_of}
use Rattle.shipped_plugins.specs.Storm.{counts, storm_step}
use Rattle.shipped_plugins.proofs.TurnLemmas.{HeedsFirst-one}
use Rattle.shipped_plugins.proofs.counting.Counting.heed_line.Goals as goal

pub returns-in-Told-clause-first : goal.returns-in-Told-clause-first
returns-in-Told-clause-first c =
    let now = c.args.self.now in
    let heard : heard_in (encode_utf8_all c.args.line.now) ≡ Hears.Told c.in-Told.told = sym c.in_ok-told.ensures ∙ c.in-Told.is in
    let same : counts now c.told_change.result ≡ storm_step now (heard_in (encode_utf8_all c.args.line.now)) =
    ap (counts now) c.told_change.ensures ∙ sym (ap (storm_step now) heard) in
    on_err_weaker c.count.result
    (λ first.
    HeedsFirst-one storm_step now c.count.new.self (encode_utf8_all c.args.line.now) (utf8_of c.args.given.now) (utf8_of c.count.new.given)
    (subst (λ step. ComesFirst step c.count.new.self (utf8_of c.args.given.now) (utf8_of c.count.new.given)) same first))
    c.count.ensures.first
