-- What a tape keeps of what a source gives.
use Rattle.std.specs.Prelude.{◌≡◌, ◌≢◌, ℕ, Bool, true, false, List, [], ◌∷◌, ◌++◌}

-- a tape: its bytes, and whether it has all that was given since it began
pub record Tape : Type 0 where
  pub bytes : List ℕ
  pub whole : Bool

-- what a tape is after a read that gave some bytes, by whether it was whole and is: a whole tape that stays whole has them too; it is whole
-- no more only where it was given some, and then it has none of them; from then on it stays as it is
abbrev pub KeepsBy : Bool → Bool → List ℕ → List ℕ → List ℕ → Type 0
KeepsBy true true before after given = after ≡ before ++ given
KeepsBy true false before after given = (given ≢ []) × (after ≡ before)
KeepsBy false true before after given = ⊥
KeepsBy false false before after given = after ≡ before

-- the same of two tapes
abbrev pub Keeps : Tape → Tape → List ℕ → Type 0
Keeps before after given = KeepsBy before.whole after.whole before.bytes after.bytes given

-- the same of several reads, one after the other
abbrev pub AreKept : Tape → Tape → List (List ℕ) → Type 0
AreKept before after [] = before ≡ after
AreKept before after (given ∷ more) = (next : Tape) × Keeps before next given × AreKept next after more

-- what a source with a tape is: the source inside, and the tape
pub record Taped (S : Type 0) : Type 0 where
  pub inner : S
  pub tape : Tape
