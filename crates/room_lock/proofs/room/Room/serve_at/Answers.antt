use Rattle.std.proofs.Common.{◌≡◌, ℕ, Bool, List, length, ◌<◌, ◌^◌, ap, sym, ◌∙◌, subst}
use Rattle.xi_plain.specs.declared.entry.Entry.{Entry}
use Rattle.xi_plain.specs.Reply.{has_entry}
use Rattle.xi_plain.specs.Room.{AddsEntryIf}
use Rattle.room_lock.specs.declared.view.Stage.TheVariants.{Idle}
use Rattle.room_lock.specs.Inner.{at_stage, with_turn}
use Rattle.room_lock.proofs.Turns.{served_turn}
use Rattle.room_lock.proofs.room.Room.serve_at.Goals as goal

pub count-place-requires-clause-adds : goal.count-place-requires-clause-adds
count-place-requires-clause-adds g c =
    let before = c.take-object.result in
    let object = c.serve-reply.new.self in
    let put = c.put.ensures.put in
    let me = ap (λ m. m.0) put ∙ ap (λ m. m.0) c.take-object.ensures.view in
    let adds = g.met.O.Object.one_entry before (g.O.Object.journal before) c.args.caller c.args.ask c.serve-reply.result (g.O.Object.journal object) c.serve-reply.ensures.served in (
      object,
      ap (λ m. m.1) put,
      subst (λ (z : Bool × (List Entry × ℕ)). AddsEntryIf z.0 z.1.0 z.1.1 (g.O.Object.journal object))
          (λ i. (sym c.has_entry-entered.ensures i, (sym (ap (λ x. x.seen) me) i, sym (ap (λ x. x.caller) me ∙ c.requires.caller) i))) adds,
      g.met.O.Object.short object,
    )

pub pass_on-requires-clause-holds : goal.pass_on-requires-clause-holds
pass_on-requires-clause-holds g c =
    let object = c.serve-reply.new.self in
    let put = ap (λ m. m.1) c.put.ensures.put in
    let counted = c.count-place.ensures.counted object put in (
      object,
      ap (λ m. m.1) counted ∙ put,
      sym (ap (λ m. m.0.seen) counted),
      g.met.O.Object.onward _ _ _ c.take-object.ensures.grown c.serve-reply.ensures.grown,
    )

pub returns-clause-served : goal.returns-clause-served
returns-clause-served g c =
    let first = c.args.self.now.table.shared.key.first.value in
    let journal = g.O.Object.journal in
    let before = c.take-object.result in
    let object = c.serve-reply.new.self in
    let v = c.args.seat.now.me.0 in
    let me = ap (λ m. m.0) c.put.ensures.put ∙ ap (λ m. m.0) c.take-object.ensures.view in
    let counted = c.count-place.ensures.counted object (ap (λ m. m.1) c.put.ensures.put) in
    let now : c.pass_on.new.seat.me.0 ≡ at_stage Idle (with_turn (journal object) (with_turn (journal before) v)) =
    ap (λ m. m.0) c.pass_on.ensures.passed ∙ (ap (λ m. at_stage Idle m.0) counted ∙ ap (λ x. at_stage Idle (with_turn (journal object) x)) me) in
    let served = c.serve-reply.ensures.served in
    let grown = c.take-object.ensures.grown in
    let to : (c.args.caller, journal object) ≡ (v.caller, c.pass_on.new.seat.me.0.seen) = λ i. (sym c.requires.caller i, sym (ap (λ x. x.seen) now) i) in
    served_turn g.O.Object.legal first g.O.Object.serves c.args.ask c.serve-reply.result _ _ _ (journal before)
    (record {
      room = c.pass_on.ensures.seat ∙ (c.count-place.ensures.seat ∙ (c.put.ensures.seat ∙ c.take-object.ensures.seat));
      caller = ap (λ x. x.caller) now;
      made = ap (λ x. x.made) now;
    })
    c.take-object.ensures.agrees
    (c.count-place.ensures.place ∙ ap (λ x. length x.seen) me)
    c.has_entry-entered.ensures
    (subst (λ (z : ℕ × List Entry). AddsEntryIf (has_entry c.serve-reply.result) (journal before) z.0 z.1) to (g.met.O.Object.one_entry _ _ _ _ _ _ served))
    (subst (g.O.Object.legal first) (ap (λ z. z.1) to) (g.met.O.Object.legal_on first object (journal object) (g.met.O.Object.onward first before object grown c.serve-reply.ensures.grown) (g.met.O.Object.legal_now object)))
    (subst (λ (z : ℕ × List Entry). g.O.Object.serves first (journal before) z.0 c.args.ask c.serve-reply.result z.1) to (g.met.O.Object.serves_on first before _ _ _ _ _ grown served))

pub returns-clause-short : goal.returns-clause-short
returns-clause-short g c =
    let me = ap (λ m. m.0) c.put.ensures.put ∙ ap (λ m. m.0) c.take-object.ensures.view in
    subst (λ (n : ℕ). n < 2 ^ 63) (sym (c.count-place.ensures.place ∙ ap (λ x. length x.seen) me)) (g.met.O.Object.short c.take-object.result)
