-- What is said of a result, in other words.
use Rattle.std.proofs.Common.{◌≡◌, ℕ, List, length, Option, None, Result, Ok, Err, IfOk, OnOk, ap}
use Rattle.plain_edits.specs.Edits.{Refusal}
use Rattle.doc_session.specs.declared.event.Effects.{Effects}
use Rattle.doc_session.specs.InMemory.{Doc}
use Rattle.doc_text.specs.Refusal.{edit_refused}

-- what is taken has no refusal, as a document says it
pub accepted-edit : {T E : Type 0} (result : Result T E) (refusal : Option Refusal) → OnOk result (refusal ≡ None) → OnOk result (edit_refused refusal ≡ None)
accepted-edit (Ok made) refusal none = ap edit_refused none
accepted-edit (Err fault) refusal none = tt

-- where the sessions are the same, there are as many
pub as_many-same : {E : Type 0} (result : Result (Doc × Effects) E) (sessions : List (Option ℕ)) → IfOk result (λ made. made.0.text.sessions ≡ sessions) →
    IfOk result (λ made. length made.0.text.sessions ≡ length sessions)
as_many-same (Ok made) sessions same = ap length same
as_many-same (Err fault) sessions same = tt
