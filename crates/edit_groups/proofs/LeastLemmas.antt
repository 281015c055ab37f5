-- The least of what sessions have acknowledged.
use Rattle.std.proofs.Common.{◌≡◌, ℕ, ◌+◌, ◌<◌, ◌≤◌, min, List, [], ◌∷◌, length, drop, get_or, Option, Some, None, refl, ap, sym, ◌∙◌, arith}
use Rattle.std.proofs.Math.Nat.{le-min, min-le_left, min-le_right}
use Rattle.std.proofs.lemmas.List.{drop_more}
use Rattle.edit_groups.specs.Sessions.{least_acknowledged}

pub least-within : (head : ℕ) (sessions : List (Option ℕ)) → least_acknowledged head sessions ≤ head
least-within head [] = omega arith
least-within head (None ∷ sessions) = least-within head sessions
least-within head (Some rev ∷ sessions) =
    let rest = least_acknowledged head sessions in
    omega (arith, min-le_right rev rest, least-within head sessions)

-- the least of a session and of others, one after the other
turns-le : (a b c : ℕ) → min a (min b c) ≤ min b (min a c)
turns-le a b c =
    le-min (omega (arith, min-le_right a (min b c), min-le_left b c))
    (le-min (min-le_left a (min b c)) (omega (arith, min-le_right a (min b c), min-le_right b c)))

min-turns : (a b c : ℕ) → min a (min b c) ≡ min b (min a c)
min-turns a b c = omega (arith, turns-le a b c, turns-le b a c)

least-min : (rev last : ℕ) (sessions : List (Option ℕ)) → least_acknowledged (min rev last) sessions ≡ min rev (least_acknowledged last sessions)
least-min rev last [] = refl
least-min rev last (None ∷ sessions) = least-min rev last sessions
least-min rev last (Some other ∷ sessions) =
    ap (min other) (least-min rev last sessions) ∙ min-turns other rev (least_acknowledged last sessions)

least-in_turn : (last : ℕ) (session : Option ℕ) (sessions : List (Option ℕ)) →
    least_acknowledged (least_acknowledged last (session ∷ [])) sessions ≡ least_acknowledged last (session ∷ sessions)
least-in_turn last None sessions = refl
least-in_turn last (Some rev) sessions = least-min rev last sessions

pub least-step : (last : ℕ) (sessions : List (Option ℕ)) (i : ℕ) (d : Option ℕ) (next : ℕ) → i < length sessions →
    next ≡ least_acknowledged last (get_or sessions i d ∷ []) →
    least_acknowledged next (drop (i + 1) sessions) ≡ least_acknowledged last (drop i sessions)
least-step last sessions i d next inside is =
    ap (λ n. least_acknowledged n (drop (i + 1) sessions)) is ∙ least-in_turn last (get_or sessions i d) (drop (i + 1) sessions) ∙
    ap (least_acknowledged last) (sym (drop_more sessions i d inside))
