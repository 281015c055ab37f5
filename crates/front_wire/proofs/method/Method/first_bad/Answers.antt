use Rattle.std.proofs.Common.{◌≡◌, ◌∙◌, ◌≤◌, length, true, false, refl, sym, ap, arith}
use Rattle.std.specs.Prelude.{option_map}
use Rattle.serde_json.specs.View.{view}
use Rattle.case_front.specs.Members.{plain_member}
use Rattle.front_wire.specs.Members.{is_given}
use Rattle.front_wire.specs.Method.{members}
use Rattle.front_wire.proofs.BadLemmas.{first_bad-none, first_bad-past, first_bad-there, members-few}
use Rattle.front_wire.proofs.method.Method.first_bad.Goals as goal

pub loop-place-init : goal.loop-place-init
loop-place-init c = refl

pub returns-in_default : goal.returns-in_default
returns-in_default c =
    let none = sym c.member.ensures ∙ ap (option_map plain_member) c.in_default.is in
    sym (first_bad-none (members c.args.self) c.loop-place.place (view c.args.params.now) none) ∙ c.loop-place.invariant

pub returns-then-not-is_given : goal.returns-then-not-is_given
returns-then-not-is_given c =
    let m = plain_member c.in-Some.member in
    let there = sym c.member.ensures ∙ ap (option_map plain_member) c.in-Some.is in
    let bad = ap (is_given m) (sym c.found.ensures) ∙ sym c.is_given.ensures ∙ c.if-not-is_given.true in
    sym (first_bad-there (members c.args.self) c.loop-place.place m (view c.args.params.now) false there bad) ∙ c.loop-place.invariant

pub loop-place-preserved : goal.loop-place-preserved
loop-place-preserved c =
    let m = plain_member c.in-Some.member in
    let there = sym c.member.ensures ∙ ap (option_map plain_member) c.in-Some.is in
    let right = ap (is_given m) (sym c.found.ensures) ∙ sym c.is_given.ensures ∙ c.if-not-is_given.false in
    sym (first_bad-there (members c.args.self) c.loop-place.place m (view c.args.params.now) true there right) ∙ c.loop-place.invariant

pub returns : goal.returns
returns c =
    let few = members-few c.args.self in
    let past : length (members c.args.self) ≤ c.loop-place.place = omega (arith, few) in
    sym (first_bad-past (members c.args.self) c.loop-place.place (view c.args.params.now) past) ∙ c.loop-place.invariant
