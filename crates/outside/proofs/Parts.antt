-- A buffer that is filled in a part, and readers and writers that were interrupted.
use Rattle.std.proofs.Common.{◌≡◌, ℕ, ◌≤◌, List, length, take, drop, ◌++◌, Option, Some, None, Ok, Err, Result, sym, ap, ◌∙◌, arith}
use Rattle.std.proofs.lemmas.List.{append_assoc, take-append-drop, drop-append-le, length-take-le}
use Rattle.std.specs.Io.KnownBytes.{Keeps, Consumes, ReadConsumes, WriteAppends}
use Rattle.outside.specs.Source.{filled}

drop-take : (buf : List ℕ) (room n : ℕ) → n ≤ room → room ≤ length buf → drop n (take room buf) ++ drop room buf ≡ drop n buf
drop-take buf room n within fits =
    let fit : n ≤ length (take room buf) = simp length-take-le (omega arith) in
    sym (drop-append-le n (take room buf) (drop room buf) fit) ∙ ap (drop n) (take-append-drop room buf)

-- what fills the front of a buffer fills the buffer
pub filled-take : (buf bytes : List ℕ) (room n : ℕ) → n ≤ room → room ≤ length buf → filled (take room buf) bytes n ++ drop room buf ≡ filled buf bytes n
filled-take buf bytes room n within fits =
    append_assoc (take n bytes) (drop n (take room buf)) (drop room buf) ∙ ap (λ rest. take n bytes ++ rest) (drop-take buf room n within fits)

-- a read after interruptions
pub ReadConsumes-kept : {E : Type 0} (a b c : Option (List ℕ)) (r : Result ℕ E) (buf : List ℕ) → Keeps a b → ReadConsumes b c r buf → ReadConsumes a c r buf
ReadConsumes-kept {E} None b c (Ok n) buf p q = (tt, q.1)
ReadConsumes-kept {E} None b c (Err e) buf p q = tt
ReadConsumes-kept {E} (Some x) None c r buf p q = absurd p
ReadConsumes-kept {E} (Some x) (Some y) None (Ok n) buf p q = absurd q.0
ReadConsumes-kept {E} (Some x) (Some y) None (Err e) buf p q = absurd q
ReadConsumes-kept {E} (Some x) (Some y) (Some z) (Ok n) buf p q = (sym p ∙ q.0, q.1)
ReadConsumes-kept {E} (Some x) (Some y) (Some z) (Err e) buf p q = q ∙ p

-- a write after interruptions
pub WriteAppends-kept : {E : Type 0} (a b c : Option (List ℕ)) (r : Result ℕ E) (buf : List ℕ) → Keeps a b → WriteAppends b c r buf → WriteAppends a c r buf
WriteAppends-kept {E} None b c (Ok n) buf p q = tt
WriteAppends-kept {E} None b c (Err e) buf p q = tt
WriteAppends-kept {E} (Some x) None c r buf p q = absurd p
WriteAppends-kept {E} (Some x) (Some y) None (Ok n) buf p q = absurd q
WriteAppends-kept {E} (Some x) (Some y) None (Err e) buf p q = absurd q
WriteAppends-kept {E} (Some x) (Some y) (Some z) (Ok n) buf p q = rw (q, p)
WriteAppends-kept {E} (Some x) (Some y) (Some z) (Err e) buf p q = q ∙ p

-- known bytes that two reads took off, the second after the first
pub Consumes-append : (a b c : Option (List ℕ)) (xs ys : List ℕ) → Consumes a b xs → Consumes b c ys → Consumes a c (xs ++ ys)
Consumes-append None b c xs ys p q = tt
Consumes-append (Some x) None c xs ys p q = absurd p
Consumes-append (Some x) (Some y) None xs ys p q = absurd q
Consumes-append (Some x) (Some y) (Some z) xs ys p q = rw (p, q, append_assoc)

-- and that an interrupted read left
pub Consumes-kept : (a b c : Option (List ℕ)) (xs : List ℕ) → Consumes a b xs → Keeps b c → Consumes a c xs
Consumes-kept None b c xs p q = tt
Consumes-kept (Some x) None c xs p q = absurd p
Consumes-kept (Some x) (Some y) None xs p q = absurd q
Consumes-kept (Some x) (Some y) (Some z) xs p q = rw (p, q)
