-- THE SESSIONS of plugins: each is the revision that it has acknowledged, or nothing where it has ended.
use Rattle.std.specs.Prelude.{ℕ, ◌-◌, min, max, List, [], ◌∷◌, Option, Some, None, slice_index_or, slice_set}

-- the session after it acknowledged a revision: the greater one counts, and none where it has ended
abbrev pub acknowledged_by : ℕ → Option ℕ → Option ℕ
acknowledged_by rev None = None
acknowledged_by rev (Some last) = Some (max last rev)

-- the session of a caller, who counts from 1; and all sessions, in which the caller's is this one
abbrev pub session_of : List (Option ℕ) → ℕ → Option ℕ
session_of sessions caller = slice_index_or sessions (caller - 1) None

abbrev pub with_session : List (Option ℕ) → ℕ → Option ℕ → List (Option ℕ)
with_session sessions caller session = slice_set sessions (caller - 1) session

-- THE LEAST ACKNOWLEDGEMENT of the open sessions, or the head where none is open
abbrev pub least_acknowledged : ℕ → List (Option ℕ) → ℕ
least_acknowledged head [] = head
least_acknowledged head (None ∷ sessions) = least_acknowledged head sessions
least_acknowledged head (Some rev ∷ sessions) = min rev (least_acknowledged head sessions)
