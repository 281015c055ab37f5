-- What the sessions of a document have acknowledged, and the least of it.
use Rattle.std.proofs.Common.{◌≡◌, ℕ, zero, suc, ◌≤◌, Bool, true, false, if◌then◌else◌, List, [], ◌∷◌, Option, Some, None, refl, arith}
use Rattle.std.specs.Prelude.{replicate, slice_index_or, slice_set, nat_lt}
use Rattle.std.proofs.Math.Nat.{le-max_left, max-le, min-le_left, min-le_right}
use Rattle.std.proofs.lemmas.Bool.{ltb-false}
use Rattle.plain_edits.specs.Edits.{collected, unknown}
use Rattle.plain_edits.specs.History.{History, head, loaded}
use Rattle.doc_text.specs.Asking.{acknowledgement_refusal}
use Rattle.doc_text.specs.Collecting.{AreAcknowledged, AreEnded, IsAcknowledged, acknowledged_by, least_acknowledged, session_of, with_session}

-- where no session is open, the least acknowledgement is the head
pub least-ended : (head : ℕ) (sessions : List (Option ℕ)) → AreEnded sessions → least_acknowledged head sessions ≡ head
least-ended head [] ended = refl
least-ended head (None ∷ sessions) ended = least-ended head sessions ended.1
least-ended head (Some rev ∷ sessions) ended = absurd (some ended.0)
  where
    some : (Some rev ≡ None) → ⊥
    some is = cc

-- ---- what is acknowledged, where the history goes on

pub AreAcknowledged-later : (h later : History) (sessions : List (Option ℕ)) → later.floor ≡ h.floor → head h ≤ head later →
    AreAcknowledged h sessions → AreAcknowledged later sessions
AreAcknowledged-later h later [] floor more are = tt
AreAcknowledged-later h later (None ∷ sessions) floor more are = (tt, AreAcknowledged-later h later sessions floor more are.1)
AreAcknowledged-later h later (Some rev ∷ sessions) floor more are = (
  (omega (arith, floor, are.0.0), omega (arith, more, are.0.1)),
  AreAcknowledged-later h later sessions floor more are.1,
)

-- where the floor rises, up to the least of it
pub AreAcknowledged-raised : (h later : History) (sessions : List (Option ℕ)) → later.floor ≤ least_acknowledged (head h) sessions → head later ≡ head h →
    AreAcknowledged h sessions → AreAcknowledged later sessions
AreAcknowledged-raised h later [] floor same are = tt
AreAcknowledged-raised h later (None ∷ sessions) floor same are = (tt, AreAcknowledged-raised h later sessions floor same are.1)
AreAcknowledged-raised h later (Some rev ∷ sessions) floor same are =
    let rest = least_acknowledged (head h) sessions in (
      (omega (arith, floor, min-le_left rev rest), omega (arith, same, are.0.1)),
      AreAcknowledged-raised h later sessions (omega (arith, floor, min-le_right rev rest)) same are.1,
    )

-- the least of it is a kept revision
pub least-kept : (h : History) (sessions : List (Option ℕ)) → h.floor ≤ head h → AreAcknowledged h sessions → h.floor ≤ least_acknowledged (head h) sessions
least-kept h [] within are = within
least-kept h (None ∷ sessions) within are = least-kept h sessions within are.1
least-kept h (Some rev ∷ sessions) within are = omega (arith, are.0.0, least-kept h sessions within are.1)

-- where a session changes
AreAcknowledged-set : (h : History) (sessions : List (Option ℕ)) (i : ℕ) (session : Option ℕ) → IsAcknowledged h session → AreAcknowledged h sessions →
    AreAcknowledged h (slice_set sessions i session)
AreAcknowledged-set h [] i session is are = tt
AreAcknowledged-set h (first ∷ sessions) zero session is are = (is, are.1)
AreAcknowledged-set h (first ∷ sessions) (suc i) session is are = (are.0, AreAcknowledged-set h sessions i session is are.1)

IsAcknowledged-get : (h : History) (sessions : List (Option ℕ)) (i : ℕ) → AreAcknowledged h sessions → IsAcknowledged h (slice_index_or sessions i None)
IsAcknowledged-get h [] i are = tt
IsAcknowledged-get h (first ∷ sessions) zero are = are.0
IsAcknowledged-get h (first ∷ sessions) (suc i) are = IsAcknowledged-get h sessions i are.1

IsAcknowledged-by : (h : History) (rev : ℕ) (session : Option ℕ) → h.floor ≤ rev → rev ≤ head h → IsAcknowledged h session →
    IsAcknowledged h (acknowledged_by rev session)
IsAcknowledged-by h rev None low high is = tt
IsAcknowledged-by h rev (Some last) low high is = (omega (arith, is.0, le-max_left last rev), max-le is.1 high)

pub AreAcknowledged-ended : (h : History) (sessions : List (Option ℕ)) (caller : ℕ) → AreAcknowledged h sessions → AreAcknowledged h (with_session sessions caller None)
AreAcknowledged-ended h sessions caller are = AreAcknowledged-set h sessions _ None tt are

-- ---- a refusal

floor-kept : (low : Bool) (rev floor : ℕ) → nat_lt rev floor ≡ low → (if low then Some (collected floor) else None) ≡ None → floor ≤ rev
floor-kept true rev floor is none = absurd cc
floor-kept false rev floor is none = ltb-false rev floor is

kept-by : (high : Bool) (h : History) (rev : ℕ) → nat_lt (head h) rev ≡ high →
    (if high then Some (unknown (head h)) else (if nat_lt rev h.floor then Some (collected h.floor) else None)) ≡ None → (h.floor ≤ rev) × (rev ≤ head h)
kept-by true h rev is none = absurd cc
kept-by false h rev is none = (floor-kept (nat_lt rev h.floor) rev h.floor refl none, ltb-false (head h) rev is)

-- what is taken is a kept revision
pub acknowledgement-kept : (h : History) (rev : ℕ) → acknowledgement_refusal h rev ≡ None → (h.floor ≤ rev) × (rev ≤ head h)
acknowledgement-kept h rev none = kept-by (nat_lt (head h) rev) h rev refl none

pub AreAcknowledged-by : (h : History) (sessions : List (Option ℕ)) (caller rev : ℕ) → acknowledgement_refusal h rev ≡ None → AreAcknowledged h sessions →
    AreAcknowledged h (with_session sessions caller (acknowledged_by rev (session_of sessions caller)))
AreAcknowledged-by h sessions caller rev none are =
    let kept = acknowledgement-kept h rev none in
    AreAcknowledged-set h sessions _ (acknowledged_by rev (session_of sessions caller))
    (IsAcknowledged-by h rev (session_of sessions caller) kept.0 kept.1 (IsAcknowledged-get h sessions _ are)) are

-- ---- on a text that was just loaded

pub AreAcknowledged-loaded : (text : List ℕ) (plugins : ℕ) → AreAcknowledged (loaded text) (replicate plugins (Some 0))
AreAcknowledged-loaded text zero = tt
AreAcknowledged-loaded text (suc plugins) = ((omega arith, omega arith), AreAcknowledged-loaded text plugins)
