-- What is read of a revision, and why it is not.
use Rattle.std.proofs.Common.{◌≡◌, ℕ, ◌+◌, ◌^◌, ◌<◌, ◌↔◌, Bool, true, false, List, [], ◌∷◌, length, Some, None, Result, Ok, Err, refl, ap, sym, subst, ◌∙◌}
use Rattle.std.proofs.Math.Nat.{ℕ_set}
use Rattle.std.proofs.Math.Logic.{∥∥₁_elim}
use Rattle.std.specs.Prelude.{if◌then◌else◌, nat_lt}
use Rattle.std.specs.Coded.{Unit-prop, le_prop}
use Rattle.std.proofs.lemmas.Bool.{lt-ltb, ltb-true}
use Rattle.plain_text.specs.declared.run.Run.{Run}
use Rattle.plain_edits.specs.declared.delta.Added.{Added}
use Rattle.plain_edits.specs.declared.delta.UnitDelta.{UnitDelta}
use Rattle.plain_edits.specs.declared.fault.EditFault.{EditFault}
use Rattle.plain_edits.specs.Edits.{collected, unknown}
use Rattle.plain_edits.specs.EditFault.{Refuses}
use Rattle.plain_edits.specs.UnitDelta.{AreAdds, AreRuns, IsUnitDelta}
use Rattle.plain_edits.specs.History.{History, head, text_at}
use Rattle.span_styles.specs.Layers.{length_after}
use Rattle.span_styles.proofs.ForCallers.{length_after-text}
use Rattle.rev_list.specs.declared.fault.RevFault.{RevFault}
use Rattle.rev_list.specs.declared.fault.RevFault.TheVariants as Rev
use Rattle.rev_list.specs.Hidden.{IsCollected, IsUnknown}
use Rattle.rev_list.specs.RevFault.{fault_of_base}
use Rattle.rev_engine.specs.State.{State}
use Rattle.rev_engine.specs.Engine.{IsSince, StandsFor}
use Rattle.stale_spans.specs.Read.{IsEdit}
use Rattle.doc_text.specs.Asking.{acknowledgement_refusal}
use Rattle.doc_text.specs.InMemory.{head_shown}
use Rattle.doc_text.specs.Inner.{StandsForSome}
use Rattle.doc_text.proofs.HeadLemmas.{head_shown-stands}

-- ---- refusals

module _ {X : Type 0} (h : History) (rev : ℕ) (answer : Result X RevFault)
    (above : (n : ℕ) → (answer ≡ Err (Rev.Unknown n)) ↔ IsUnknown h rev n)
    (below : (n : ℕ) → (answer ≡ Err (Rev.Collected n)) ↔ IsCollected h rev n) where
  -- an answer comes of a revision from the floor to the head
  pub kept-answered : (value : X) → answer ≡ Ok value → acknowledgement_refusal h rev ≡ None
  kept-answered value is = by (nat_lt (head h) rev) (nat_lt rev h.floor) (ltb-true (head h) rev) (ltb-true rev h.floor)
    where
      by : (high low : Bool) → (high ≡ true → head h < rev) → (low ≡ true → rev < h.floor) →
          (if high then Some (unknown (head h)) else (if low then Some (collected h.floor) else None)) ≡ None
      by true low past under = absurd (let same = (above (head h)).1 (past refl, refl) in cc)
      by false true past under = absurd (let same = (below h.floor).1 (under refl, refl) in cc)
      by false false past under = refl

  pub Refuses-revision : (given : RevFault) (fault : EditFault) → answer ≡ Err given → fault ≡ fault_of_base given → Refuses (acknowledgement_refusal h rev) fault
  Refuses-revision given fault is same = subst (Refuses (acknowledgement_refusal h rev)) (sym same) (by given is)
    where
      by : (given : RevFault) → answer ≡ Err given → Refuses (acknowledgement_refusal h rev) (fault_of_base given)
      by Rev.NoMemory is = λ some. absurd (some refl)
      by (Rev.Unknown last) is = λ some.
          let at = (above last).0 is in
          ap (λ b. if b then Some (unknown (head h)) else (if nat_lt rev h.floor then Some (collected h.floor) else None)) (lt-ltb (head h) rev at.0) ∙
          ap (λ n. Some (unknown n)) (sym at.1)
      by (Rev.Collected first) is = λ some.
          let at = (below first).0 is in
          not_above (nat_lt (head h) rev) (ltb-true (head h) rev) ∙ ap (λ b. if b then Some (collected h.floor) else None) (lt-ltb rev h.floor at.0) ∙
          ap (λ n. Some (collected n)) (sym at.1)
        where
          not_above : (b : Bool) → (b ≡ true → head h < rev) →
              (if b then Some (unknown (head h)) else (if nat_lt rev h.floor then Some (collected h.floor) else None)) ≡
              (if nat_lt rev h.floor then Some (collected h.floor) else None)
          not_above true past = absurd (let same = (above (head h)).1 (past refl, refl) in cc)
          not_above false past = refl

-- ---- facts that have one proof at most

AreRuns-prop : (base from : ℕ) (runs : List Run) → IsProp (AreRuns base from runs)
AreRuns-prop base from [] = le_prop
AreRuns-prop base from (run ∷ runs) = hlevel (le_prop, AreRuns-prop base run.end runs)

AreAdds-prop : (base from : ℕ) (adds : List Added) → IsProp (AreAdds base from adds)
AreAdds-prop base from [] = Unit-prop
AreAdds-prop base from (added ∷ adds) = hlevel (le_prop, AreAdds-prop base (added.gap + 1) adds)

IsUnitDelta-prop : (units : UnitDelta) → IsProp (IsUnitDelta units)
IsUnitDelta-prop units = hlevel (AreRuns-prop units.base 0 units.kept, AreAdds-prop units.base 0 units.added)

-- ---- the edit, whatever the history

module _ (engine : State) (rev : ℕ) (units : UnitDelta) (some : StandsForSome engine)
    (since : (h : History) → StandsFor engine h → IsSince h rev units) where
  pub length_after-since : length_after units ≡ length (head_shown engine)
  length_after-since =
      ∥∥₁_elim some (ℕ_set _ _) (λ (s : (h : History) × StandsFor engine h).
      length_after-text units (text_at s.0 rev) (sym (since s.0 s.1).base) ∙
      ap length ((since s.0 s.1).leads ∙ sym (head_shown-stands engine s.0 s.1)))

  pub IsEdit-since : (text : List ℕ) → ((h : History) → StandsFor engine h → text ≡ text_at h rev) → length (head_shown engine) < 2 ^ 64 →
      IsEdit (record { text = text; units = units })
  IsEdit-since text is bound = record {
    well_formed = ∥∥₁_elim some (IsUnitDelta-prop units) (λ (s : (h : History) × StandsFor engine h). (since s.0 s.1).canonical.well_formed);
    base = ∥∥₁_elim some (ℕ_set _ _) (λ (s : (h : History) × StandsFor engine h). (since s.0 s.1).base ∙ ap length (sym (is s.0 s.1)));
    bound = subst (λ n. n < 2 ^ 64) (sym length_after-since) bound;
  }
