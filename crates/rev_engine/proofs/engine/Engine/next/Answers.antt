use Rattle.std.proofs.Common.{refl, subst, sym}
use Rattle.plain_edits.specs.History.{History}
use Rattle.plain_edits.specs.Edits.{edited}
use Rattle.rev_engine.specs.Given.{MayAsk}
use Rattle.rev_engine.specs.State.{IsHistoryOf, State}
use Rattle.rev_engine.specs.Engine.{IsChangeBy, in_characters}
use Rattle.rev_engine.specs.Inner.{IsFitting}
use Rattle.rev_engine.proofs.DoneLemmas.{based-fitting, fits-bytes, fits-characters, goes-on, positions-after}
use Rattle.rev_engine.proofs.engine.Engine.next.Goals as goal

pub put_in-requires-clause-based : goal.put_in-requires-clause-based
put_in-requires-clause-based c =
    based-fitting _ c.args.rev c.args.fitting c.self.invariant.positions
    (subst (λ s. IsFitting s c.args.rev c.args.fitting) (sym c.self.view_is) c.requires.fits)

pub put_in-requires-clause-bound : goal.put_in-requires-clause-bound
put_in-requires-clause-bound c =
    fits-characters _ _ c.args.rev c.args.fitting c.self.invariant (subst (λ s. IsFitting s c.args.rev c.args.fitting) (sym c.self.view_is) c.requires.fits)

pub put_in-requires-clause-fits : goal.put_in-requires-clause-fits
put_in-requires-clause-fits c =
    fits-bytes _ _ c.args.rev c.args.fitting c.self.invariant (subst (λ s. IsFitting s c.args.rev c.args.fitting) (sym c.self.view_is) c.requires.fits)

pub units_to-requires-clause-positions : goal.units_to-requires-clause-positions
units_to-requires-clause-positions c =
    positions-after _ _ c.args.rev c.args.fitting c.self.invariant (subst (λ s. IsFitting s c.args.rev c.args.fitting) (sym c.self.view_is) c.requires.fits)
    _ _ c.in_ok-made.ensures

pub shown_after-requires-clause-base : goal.shown_after-requires-clause-base
shown_after-requires-clause-base c =
    (goes-on _ _ c.args.rev c.args.fitting c.self.invariant (subst (λ s. IsFitting s c.args.rev c.args.fitting) (sym c.self.view_is) c.requires.fits)
    _ _ c.in_ok-made.ensures (subst (λ (s : State). MayAsk s.revisions c.args.fitting.edit.group) (sym c.self.view_is) c.requires.may) _
    (subst (λ (s : State). (h : History) → IsHistoryOf s.union s.revisions h → IsChangeBy h (edited h (in_characters c.args.rev c.args.fitting.edit)) c.in_ok-units.units)
    (sym c.self.view_is) c.in_ok-units.ensures.change)).base

pub shown_after-requires-clause-fits : goal.shown_after-requires-clause-fits
shown_after-requires-clause-fits c =
    (goes-on _ _ c.args.rev c.args.fitting c.self.invariant (subst (λ s. IsFitting s c.args.rev c.args.fitting) (sym c.self.view_is) c.requires.fits)
    _ _ c.in_ok-made.ensures (subst (λ (s : State). MayAsk s.revisions c.args.fitting.edit.group) (sym c.self.view_is) c.requires.may) _
    (subst (λ (s : State). (h : History) → IsHistoryOf s.union s.revisions h → IsChangeBy h (edited h (in_characters c.args.rev c.args.fitting.edit)) c.in_ok-units.units)
    (sym c.self.view_is) c.in_ok-units.ensures.change)).short

pub shown_after-requires-clause-positions : goal.shown_after-requires-clause-positions
shown_after-requires-clause-positions c =
    ((goes-on _ _ c.args.rev c.args.fitting c.self.invariant (subst (λ s. IsFitting s c.args.rev c.args.fitting) (sym c.self.view_is) c.requires.fits)
    _ _ c.in_ok-made.ensures (subst (λ (s : State). MayAsk s.revisions c.args.fitting.edit.group) (sym c.self.view_is) c.requires.may) _
    (subst (λ (s : State). (h : History) → IsHistoryOf s.union s.revisions h → IsChangeBy h (edited h (in_characters c.args.rev c.args.fitting.edit)) c.in_ok-units.units)
    (sym c.self.view_is) c.in_ok-units.ensures.change)).holds _ refl).positions

pub shown_after-requires-clause-shown : goal.shown_after-requires-clause-shown
shown_after-requires-clause-shown c =
    ((goes-on _ _ c.args.rev c.args.fitting c.self.invariant (subst (λ s. IsFitting s c.args.rev c.args.fitting) (sym c.self.view_is) c.requires.fits)
    _ _ c.in_ok-made.ensures (subst (λ (s : State). MayAsk s.revisions c.args.fitting.edit.group) (sym c.self.view_is) c.requires.may) _
    (subst (λ (s : State). (h : History) → IsHistoryOf s.union s.revisions h → IsChangeBy h (edited h (in_characters c.args.rev c.args.fitting.edit)) c.in_ok-units.units)
    (sym c.self.view_is) c.in_ok-units.ensures.change)).holds _ refl).shown

pub invariant_of-result : goal.invariant_of-result
invariant_of-result c =
    (goes-on _ _ c.args.rev c.args.fitting c.self.invariant (subst (λ s. IsFitting s c.args.rev c.args.fitting) (sym c.self.view_is) c.requires.fits)
    _ _ c.in_ok-made.ensures (subst (λ (s : State). MayAsk s.revisions c.args.fitting.edit.group) (sym c.self.view_is) c.requires.may) _
    (subst (λ (s : State). (h : History) → IsHistoryOf s.union s.revisions h → IsChangeBy h (edited h (in_characters c.args.rev c.args.fitting.edit)) c.in_ok-units.units)
    (sym c.self.view_is) c.in_ok-units.ensures.change)).holds _ c.in_ok-text.ensures
