use Rattle.std.proofs.Common.{◌≡◌, true, get_or, refl, ap, sym, ◌∙◌}
use Rattle.std.specs.Str.{bytes_eq, encode_utf8_all}
use Rattle.session_step.proofs.OpenLemmas.{IsFirstNamed-at}
use Rattle.session_step.proofs.opened.place_of.Goals as goal

pub returns-then-eq : goal.returns-then-eq
returns-then-eq c =
    let none = c.index-held-at.result in
    let own = get_or c.args.held.now c.loop-at.at none in
    let named : bytes_eq (encode_utf8_all c.args.name.now) (encode_utf8_all own.id) ≡ true =
    ap (λ name. bytes_eq name (encode_utf8_all own.id)) (sym c.as_str.ensures.utf8) ∙
    ap (λ id. bytes_eq c.as_str.result.now id) (sym c.as_str-in-loop-at.ensures.utf8) ∙ sym c.eq.ensures ∙ c.if-eq.true in
    IsFirstNamed-at c.args.held.now c.args.name.now c.loop-at.at none own c.loop-at-test.true refl c.loop-at.invariant.1 named
