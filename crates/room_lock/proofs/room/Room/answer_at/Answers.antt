use Rattle.std.proofs.Common.{◌≡◌, ℕ, List, ap, sym, ◌∙◌, subst}
use Rattle.xi_plain.specs.declared.entry.Entry.{Entry}
use Rattle.room_lock.specs.declared.view.Stage.TheVariants.{Idle}
use Rattle.room_lock.specs.Inner.{Agrees, at_stage, with_turn}
use Rattle.room_lock.proofs.Turns.{answered_turn}
use Rattle.room_lock.proofs.room.Room.answer_at.Goals as goal

pub count-len-requires-clause-adds : goal.count-len-requires-clause-adds
count-len-requires-clause-adds g c =
    let me = ap (λ m. m.0) c.put.ensures.put ∙ ap (λ m. m.0) c.take-object.ensures.view in
    (c.take-object.result, ap (λ m. m.1) c.put.ensures.put, sym (ap (λ x. x.seen) me), g.met.O.Object.short c.take-object.result)

pub pass_on-requires-clause-holds : goal.pass_on-requires-clause-holds
pass_on-requires-clause-holds g c =
    let object = c.take-object.result in
    let put = ap (λ m. m.1) c.put.ensures.put in
    let counted = c.count-len.ensures.counted object put in
    (object, ap (λ m. m.1) counted ∙ put, sym (ap (λ m. m.0.seen) counted), c.take-object.ensures.grown)

pub returns-clause-answered : goal.returns-clause-answered
returns-clause-answered g c =
    let first = c.args.self.now.table.shared.key.first.value in
    let journal = g.O.Object.journal in
    let object = c.take-object.result in
    let v = c.args.seat.now.me.0 in
    let me = ap (λ m. m.0) c.put.ensures.put ∙ ap (λ m. m.0) c.take-object.ensures.view in
    let counted = c.count-len.ensures.counted object (ap (λ m. m.1) c.put.ensures.put) in
    let now : c.pass_on.new.seat.me.0 ≡ at_stage Idle (with_turn (journal object) (with_turn (journal object) v)) =
    ap (λ m. m.0) c.pass_on.ensures.passed ∙ (ap (λ m. at_stage Idle m.0) counted ∙ ap (λ x. at_stage Idle (with_turn (journal object) x)) me) in
    let grown = c.take-object.ensures.grown in
    let seen : journal object ≡ c.pass_on.new.seat.me.0.seen = sym (ap (λ x. x.seen) now) in
    answered_turn g.O.Object.legal first g.O.Object.answers c.args.query c.answer-answer.result _ _
    (record {
      room = c.pass_on.ensures.seat ∙ (c.count-len.ensures.seat ∙ (c.put.ensures.seat ∙ c.take-object.ensures.seat));
      caller = ap (λ x. x.caller) now;
      made = ap (λ x. x.made) now;
    })
    (subst (λ l. Agrees l v.caller v.seen) seen c.take-object.ensures.agrees)
    (subst (g.O.Object.legal first) seen (g.met.O.Object.legal_on first object (journal object) grown (g.met.O.Object.legal_now object)))
    (subst (λ (z : ℕ × List Entry). g.O.Object.answers first z.1 z.0 c.args.query c.answer-answer.result) (λ i. (sym c.requires.caller i, seen i))
    (g.met.O.Object.answers_on first object _ _ _ _ grown c.answer-answer.ensures))
