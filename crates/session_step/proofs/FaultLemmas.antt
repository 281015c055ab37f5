-- What an edit comes to where it is refused.
use Rattle.std.proofs.Common.{◌≡◌, ◌≢◌, Option, refl, subst}
use Rattle.std.proofs.Math.Logic.{∥∥₁_elim}
use Rattle.xi_plain.specs.declared.command.EditAct.{EditAct}
use Rattle.doc_session.specs.InMemory.{Doc}
use Rattle.doc_session.specs.declared.event.Event.TheVariants.{Front}
use Rattle.doc_text.specs.declared.fault.DocFault.{DocFault}
use Rattle.doc_text.specs.declared.fault.DocFault.TheVariants.{Unknown, Collected, Misfit, Spent, BadParams, NoMemory}
use Rattle.doc_session.specs.Document.{Document}
use Rattle.doc_text.specs.Fault.{DocRefuses}
use Rattle.doc_session.specs.Laws.{IsSpentIfAny}
use Rattle.doc_text.specs.Refusal.{DocRefusal}
use Rattle.doc_session.specs.Stands.{DocStandsFor}
use Rattle.doc_session.specs.Step.{refusal_at}
use Rattle.doc_session.proofs.ForCallers.{command_fits}
use Rattle.session_step.specs.InnerStep.{IsSpentOrLack}

-- no refusal is one for characters spent but that one
spent_fault : (refusal : Option DocRefusal) (fault : DocFault) → IsSpentIfAny refusal → DocRefuses refusal fault → IsSpentOrLack fault
spent_fault refusal (Unknown head) alone refuses = subst IsSpentIfAny (refuses other) alone
  where
    other : Unknown head ≢ NoMemory
    other is = cc
spent_fault refusal (Collected floor) alone refuses = subst IsSpentIfAny (refuses other) alone
  where
    other : Collected floor ≢ NoMemory
    other is = cc
spent_fault refusal (Misfit first) alone refuses = subst IsSpentIfAny (refuses other) alone
  where
    other : Misfit first ≢ NoMemory
    other is = cc
spent_fault refusal (BadParams member) alone refuses = subst IsSpentIfAny (refuses other) alone
  where
    other : BadParams member ≢ NoMemory
    other is = cc
spent_fault refusal (Spent total) alone refuses = tt
spent_fault refusal NoMemory alone refuses = tt

prop : (fault : DocFault) (p q : IsSpentOrLack fault) → p ≡ q
prop (Unknown head) p q = absurd p
prop (Collected floor) p q = absurd p
prop (Misfit first) p q = absurd p
prop (BadParams member) p q = absurd p
prop (Spent total) p q = refl
prop NoMemory p q = refl

-- the fault of an edit that a document refuses
pub IsSpentOrLack-edited : (doc : Doc) (act : EditAct) (fault : DocFault) → ∥ ((plain : Document) × DocStandsFor doc plain) ∥₁ →
    ((plain : Document) → DocStandsFor doc plain → DocRefuses (refusal_at plain (Front act)) fault) → IsSpentOrLack fault
IsSpentOrLack-edited doc act fault known refuses =
    ∥∥₁_elim known (prop fault) (λ (s : (plain : Document) × DocStandsFor doc plain).
    spent_fault (refusal_at s.0 (Front act)) fault (command_fits doc s.0 act s.1) (refuses s.0 s.1))
