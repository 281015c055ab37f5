-- Laws of an object that has a journal and nothing else.
use Rattle.std.specs.Prelude.{◌≡◌, ℕ, ◌<◌, ◌≤◌, ◌^◌, Bool, true, false, List, [], ◌∷◌, ◌++◌, length}
use Rattle.xi_plain.specs.declared.entry.Entry.{Entry}
use Rattle.xi_plain.specs.Room.{AddsEntryIf, Begins}
use native.Mathlib.Omega.{arith}
use mathlib.Core.Path.{sym, ap, ◌∙◌}
use mathlib.Core.List.{append-nil, append_assoc}

-- a journal begins with itself
pub begins_same : (xs : List Entry) → Begins xs xs
begins_same xs = ([], sym (append-nil xs))

-- and with what its beginnings begin with
pub begins_on : (xs ys zs : List Entry) → Begins xs ys → Begins ys zs → Begins xs zs
begins_on xs ys zs a b = (a.0 ++ b.0, b.1 ∙ (ap (λ l. l ++ b.0) a.1 ∙ append_assoc xs a.0 b.0))

-- a list is short whose length is below such a bound
pub short_of : (xs : List Entry) (len cap : ℕ) → (len ≡ length xs) × (len ≤ cap) → cap < 2 ^ 63 → length xs < 2 ^ 63
short_of xs len cap ok small = let same = ok.0 in let less = ok.1 in omega arith
