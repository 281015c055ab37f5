-- Lemmas on tapes over several reads.
use Rattle.std.proofs.Common.{◌≡◌, ℕ, suc, true, false, List, [], ◌∷◌, ◌++◌, take, refl, ap, sym, ◌∙◌, append_assoc, append-nil}
use Rattle.std.specs.Prelude.{Bool}
use Rattle.std.specs.List.{concat}
use Rattle.macro_record.specs.Tape.{Tape, KeepsBy, AreKept}

-- a tape that is not whole stays as it is
stays_by : (old new : Bool) (before after given : List ℕ) → old ≡ false → KeepsBy old new before after given → (new ≡ false) × (after ≡ before)
stays_by true new before after given off keeps = absurd cc
stays_by false true before after given off keeps = absurd keeps
stays_by false false before after given off keeps = (refl, keeps)

stays : (before after : Tape) (pieces : List (List ℕ)) → before.whole ≡ false → AreKept before after pieces → (after.whole ≡ false) × (after.bytes ≡ before.bytes)
stays before after [] off kept = (sym (ap (λ (t : Tape). t.whole) kept) ∙ off, sym (ap (λ (t : Tape). t.bytes) kept))
stays before after (given ∷ pieces) off (next, keeps, kept) =
    let here = stays_by before.whole next.whole before.bytes next.bytes given off keeps in
    let later = stays next after pieces here.0 kept in (later.0, later.1 ∙ here.1)

-- what a tape comes to: its bytes and some first pieces, and all of them where it is whole in the end
abbrev pub ComesTo : List ℕ → Tape → List (List ℕ) → Type 0
ComesTo before after pieces =
    ((count : ℕ) × (after.bytes ≡ before ++ concat (take count pieces))) × (after.whole ≡ true → after.bytes ≡ before ++ concat pieces)

-- nothing more was kept, and the tape is not whole
nothing_more : (before : List ℕ) (after : Tape) (pieces : List (List ℕ)) → after.whole ≡ false → after.bytes ≡ before → ComesTo before after pieces
nothing_more before after pieces off same =
    ((0, same ∙ sym (append-nil before)), λ on. absurd cc)

step_by : (old new : Bool) (before next given : List ℕ) (after : Tape) (pieces : List (List ℕ)) → KeepsBy old new before next given →
    (new ≡ false → (after.whole ≡ false) × (after.bytes ≡ next)) → ComesTo next after pieces → ComesTo before after (given ∷ pieces)
step_by true true before next given after pieces keeps off comes =
    let joined : (rest : List (List ℕ)) → next ++ concat rest ≡ before ++ (given ++ concat rest) =
    λ rest. ap (λ x. x ++ concat rest) keeps ∙ append_assoc before given (concat rest) in
    ((suc comes.0.0, comes.0.1 ∙ joined (take comes.0.0 pieces)), λ on. comes.1 on ∙ joined pieces)
step_by true false before next given after pieces keeps off comes =
    nothing_more before after (given ∷ pieces) (off refl).0 ((off refl).1 ∙ keeps.1)
step_by false true before next given after pieces keeps off comes = absurd keeps
step_by false false before next given after pieces keeps off comes =
    nothing_more before after (given ∷ pieces) (off refl).0 ((off refl).1 ∙ keeps)

pub comes_to : (before after : Tape) (pieces : List (List ℕ)) → AreKept before after pieces → ComesTo before.bytes after pieces
comes_to before after [] kept =
    let same = sym (ap (λ (t : Tape). t.bytes) kept) ∙ sym (append-nil before.bytes) in ((0, same), λ on. same)
comes_to before after (given ∷ pieces) (next, keeps, kept) =
    step_by before.whole next.whole before.bytes next.bytes given after pieces keeps (λ off. stays next after pieces off kept)
    (comes_to next after pieces kept)

-- a tape that is whole was whole before
whole_by : (old : Bool) (before after : Tape) (pieces : List (List ℕ)) → before.whole ≡ old → AreKept before after pieces → after.whole ≡ true → old ≡ true
whole_by true before after pieces is kept on = refl
whole_by false before after pieces is kept on = let off = (stays before after pieces is kept).0 in absurd cc

pub was_whole : (before after : Tape) (pieces : List (List ℕ)) → AreKept before after pieces → after.whole ≡ true → before.whole ≡ true
was_whole before after pieces kept on = whole_by before.whole before after pieces refl kept on
