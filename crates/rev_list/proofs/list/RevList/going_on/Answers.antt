use Rattle.std.proofs.Common.{◌≡◌, ◌+◌, ◌-◌, length, length-append, arith, ap, ap₂, sym, ◌∙◌}
use Rattle.std.specs.Arc.{arc_value}
use Rattle.plain_edits.specs.History.{head}
use Rattle.plain_edits.specs.Undo.{undone_now}
use Rattle.rev_list.specs.Kept.{dead_now, history_of, steps_of}
use Rattle.rev_list.specs.Until.{after_records, AreRecordsAfter}
use Rattle.rev_list.proofs.GoOnLemmas.{gone_on, numbers_last, on_from}
use Rattle.rev_list.proofs.RecordLemmas.{head-history_of}
use Rattle.rev_list.proofs.list.RevList.going_on.Goals as goal

pub back-requires : goal.back-requires
back-requires c =
    let o = c.other.inside in
    (on_from (arc_value o.settled) o.records c.other.invariant.sound c.other.invariant.kept c.other.invariant.numbers (head c.args.self.now)
    (c.head.result - c.floor.result) (rw (← c.other.view_is) at c.requires.kept)
    (ap₂ (λ a b. a - b) c.head.ensures (rw (← c.other.view_is) at c.floor.ensures.floor))).within

pub firsts_with-requires : goal.firsts_with-requires
firsts_with-requires c =
    let o = c.other.inside in
    let are : AreRecordsAfter c.args.other.now (head c.args.self.now) c.in_ok-later.later =
    rw (c.in_ok-later.ensures, ← c.other.view_is)
    (on_from (arc_value o.settled) o.records c.other.invariant.sound c.other.invariant.kept c.other.invariant.numbers (head c.args.self.now)
    (c.head.result - c.floor.result) (rw (← c.other.view_is) at c.requires.kept)
    (ap₂ (λ a b. a - b) c.head.ensures (rw (← c.other.view_is) at c.floor.ensures.floor))).are in
    (c.requires.led c.in_ok-later.later are).may

pub joined-requires : goal.joined-requires
joined-requires c =
    let s = c.self.inside in
    let o = c.other.inside in
    let are : AreRecordsAfter c.args.other.now (head c.args.self.now) c.in_ok-later.later =
    rw (c.in_ok-later.ensures, ← c.other.view_is)
    (on_from (arc_value o.settled) o.records c.other.invariant.sound c.other.invariant.kept c.other.invariant.numbers (head c.args.self.now)
    (c.head.result - c.floor.result) (rw (← c.other.view_is) at c.requires.kept)
    (ap₂ (λ a b. a - b) c.head.ensures (rw (← c.other.view_is) at c.floor.ensures.floor))).are in
    let here : head c.args.self.now ≡ (arc_value s.settled).floor + length s.records =
    rw (← c.self.view_is) (head-history_of (arc_value s.settled) s.records) in
    omega (
      arith,
      here,
      c.self.invariant.numbers,
      length-append s.records c.in_ok-later.later,
      numbers_last c.args.self.now c.in_ok-later.later (c.requires.led c.in_ok-later.later are).may (omega (arith, here, c.self.invariant.numbers)),
    )

pub invariant_of-result-2 : goal.invariant_of-result-2
invariant_of-result-2 c =
    let s = c.self.inside in
    let o = c.other.inside in
    let later = c.in_ok-later.later in
    let are : AreRecordsAfter c.args.other.now (head c.args.self.now) later =
    rw (c.in_ok-later.ensures, ← c.other.view_is)
    (on_from (arc_value o.settled) o.records c.other.invariant.sound c.other.invariant.kept c.other.invariant.numbers (head c.args.self.now)
    (c.head.result - c.floor.result) (rw (← c.other.view_is) at c.requires.kept)
    (ap₂ (λ a b. a - b) c.head.ensures (rw (← c.other.view_is) at c.floor.ensures.floor))).are in
    let led = c.requires.led later are in
    let on = history_of (arc_value s.settled) (steps_of s.records) in
    let same : after_records on later ≡ after_records c.args.self.now later = ap (λ h. after_records h later) c.self.view_is in
    rw (c.in_ok-try_clone.ensures, c.in_ok-joined.ensures, c.in_ok-try_clone-2.ensures, c.in_ok-copy.ensures, c.firsts.view_is)
    (gone_on (arc_value s.settled) s.records later (arc_value s.dead) (arc_value o.dead) s.firsts c.in_ok-firsts.firsts s.undone o.undone c.self.invariant
    (rw (← c.self.view_is) at led.may)
    (c.other.invariant.dead ∙ ap dead_now c.other.view_is ∙ sym led.dead ∙ ap dead_now (sym same))
    (rw same c.in_ok-firsts.ensures)
    (c.other.invariant.undone ∙ ap undone_now c.other.view_is ∙ sym led.undone ∙ ap undone_now (sym same))).holds

pub returns : goal.returns
returns c =
    let s = c.self.inside in
    let o = c.other.inside in
    let later = c.in_ok-later.later in
    let are : AreRecordsAfter c.args.other.now (head c.args.self.now) later =
    rw (c.in_ok-later.ensures, ← c.other.view_is)
    (on_from (arc_value o.settled) o.records c.other.invariant.sound c.other.invariant.kept c.other.invariant.numbers (head c.args.self.now)
    (c.head.result - c.floor.result) (rw (← c.other.view_is) at c.requires.kept)
    (ap₂ (λ a b. a - b) c.head.ensures (rw (← c.other.view_is) at c.floor.ensures.floor))).are in
    let led = c.requires.led later are in
    let on = history_of (arc_value s.settled) (steps_of s.records) in
    let same : after_records on later ≡ after_records c.args.self.now later = ap (λ h. after_records h later) c.self.view_is in
    record {
      records = later;
      are = are;
      is =
          rw (c.in_ok-try_clone.ensures, c.in_ok-joined.ensures)
          ((gone_on (arc_value s.settled) s.records later (arc_value s.dead) (arc_value o.dead) s.firsts c.in_ok-firsts.firsts s.undone o.undone c.self.invariant
          (rw (← c.self.view_is) at led.may)
          (c.other.invariant.dead ∙ ap dead_now c.other.view_is ∙ sym led.dead ∙ ap dead_now (sym same))
          (rw same c.in_ok-firsts.ensures)
          (c.other.invariant.undone ∙ ap undone_now c.other.view_is ∙ sym led.undone ∙ ap undone_now (sym same))).history ∙ same);
    }
