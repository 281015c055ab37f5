use Rattle.std.proofs.Common.{[], ◌∷◌, ap, sym, ◌∙◌}
use Rattle.std.specs.Arc.{arc_value}
use Rattle.std.specs.List.{fold}
use Rattle.plain_text.specs.Numbers.{with_number}
use Rattle.rev_list.specs.Groups.{first_with, rev_of}
use Rattle.rev_list.specs.Kept.{history_of, steps_of}
use Rattle.rev_list.specs.Settled.{Settled, settled_history}
use Rattle.rev_list.proofs.RecordLemmas.{collected-history_of, holds_settled, settled_same}
use Rattle.rev_list.proofs.list.RevList.settled.Goals as goal

pub invariant_of-result-2 : goal.invariant_of-result-2
invariant_of-result-2 c =
    let s = c.self.inside in
    let settled = arc_value s.settled in
    let h = history_of settled (steps_of s.records) in
    let keys = c.args.collected.now.keys in
    let is =
    c.in_ok-new.ensures.ok ∙ (c.in_ok-settled.ensures ∙
    settled_same c.args.groups.items (rw (← c.self.view_is) at c.head-head.ensures) c.len.ensures (c.in_ok-undone.ensures ∙ c.self.invariant.undone)
    (ap (λ (x : Settled). fold with_number x.collected keys) c.deref-2.ensures ∙ ap (λ xs. fold with_number xs keys) (sym (collected-history_of settled (steps_of s.records))))) in
    rw (c.new-2.ensures, c.in_ok-new-2.ensures.ok, c.in_ok-copy.ensures, c.firsts.view_is)
    (holds_settled settled (arc_value c.in_ok-new.field-0) s.records (arc_value s.dead) c.args.dead s.firsts c.in_ok-firsts.firsts s.undone c.args.groups.items keys c.self.invariant
    (rw (← c.self.view_is) at c.requires) is
    (λ group. c.in_ok-firsts.ensures group ∙ ap (λ groups. first_with (rev_of (0 ∷ []) (0 ∷ []) group) groups group) c.deref.ensures.value))

pub returns : goal.returns
returns c =
    let s = c.self.inside in
    let settled = arc_value s.settled in
    let keys = c.args.collected.now.keys in
    let is =
    c.in_ok-new.ensures.ok ∙ (c.in_ok-settled.ensures ∙
    settled_same c.args.groups.items (rw (← c.self.view_is) at c.head-head.ensures) c.len.ensures (c.in_ok-undone.ensures ∙ c.self.invariant.undone)
    (ap (λ (x : Settled). fold with_number x.collected keys) c.deref-2.ensures ∙ ap (λ xs. fold with_number xs keys) (sym (collected-history_of settled (steps_of s.records))))) in
    rw (c.new-2.ensures, ← c.self.view_is) (ap settled_history is)
