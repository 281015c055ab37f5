-- WHAT A ROOM DOES for a caller who has seen a beginning of its journal.
use Rattle.std.specs.Prelude.{◌≡◌, ℕ, ◌+◌, List, [], ◌∷◌, ◌++◌, length, take, ⊤}
use Rattle.std.specs.Bool.{MatchBool}
use Rattle.atomic_table.specs.Seated.{TableId}
use Rattle.xi_plain.specs.declared.entry.Entry.{Entry}
use Rattle.xi_plain.specs.declared.reply.Receipt.{Receipt}
use Rattle.xi_plain.specs.Journal.{entries_of}

-- a pass: its room, its caller, the journal that it has seen, and for caller 0 how many passes were made
pub record Known : Type 0 where
  pub room : TableId
  pub caller : ℕ
  pub seen : List Entry
  pub made : ℕ

-- the entries of its caller in what it has seen
abbrev pub own : Known → List Entry
own pass = entries_of pass.caller pass.seen

-- it is the same pass, which may have seen more
pub record IsSamePass (before after : Known) : Type 0 where
  pub room : after.room ≡ before.room
  pub caller : after.caller ≡ before.caller
  pub made : after.made ≡ before.made

-- what the journal was before the call of this receipt, where it is this after the call
abbrev pub before_call : Receipt → List Entry → List Entry
before_call receipt seen = take receipt.place seen

-- an entry of the caller stands last, at the receipt's place, and is the one that the caller's own gained
abbrev pub GainsEntry : Receipt → Known → Known → Type 0
GainsEntry receipt before after =
    (entry : Entry) × (entry.caller ≡ before.caller) × (after.seen ≡ before_call receipt after.seen ++ entry ∷ [])
    × (receipt.place + 1 ≡ length after.seen) × (own after ≡ own before ++ entry ∷ [])

-- there is no entry: what was seen ends at the receipt's place, and own is as before
abbrev pub GainsNone : Receipt → Known → Known → Type 0
GainsNone receipt before after = (receipt.place ≡ length after.seen) × (own after ≡ own before)

-- THE RECEIPT TELLS what the pass gained
abbrev pub Tells : Receipt → Known → Known → Type 0
Tells receipt before after = MatchBool receipt.entered (GainsEntry receipt before after) (GainsNone receipt before after)

-- the pass of caller 0 at the start
abbrev pub first_pass : TableId → Known
first_pass room = record { room = room; caller = 0; seen = []; made = 1 }

-- the next caller's pass, which has seen as much
abbrev pub next_pass : Known → Known
next_pass pass = record { room = pass.room; caller = pass.made; seen = pass.seen; made = 0 }

-- the pass of caller 0 after one more was made
abbrev pub after_split : Known → Known
after_split pass = record { room = pass.room; caller = pass.caller; seen = pass.seen; made = pass.made + 1 }

-- the journal begins with what the pass has seen, and has of its caller exactly its own
abbrev pub IsKnownOf : List Entry → Known → Type 0
IsKnownOf journal pass = (more : List Entry) × (journal ≡ pass.seen ++ more) × (entries_of pass.caller journal ≡ own pass)

-- these are passes of the room, one of each caller from this number on, in their order
abbrev pub AreAllFrom : ℕ → TableId → List Known → Type 0
AreAllFrom caller room [] = ⊤
AreAllFrom caller room (pass ∷ passes) = (pass.room ≡ room) × (pass.caller ≡ caller) × AreAllFrom (caller + 1) room passes

-- these are all passes of the room, in the order of their callers: as many as the first says
abbrev pub AreAll : TableId → List Known → Type 0
AreAll room [] = ⊥
AreAll room (pass ∷ passes) = AreAllFrom 0 room (pass ∷ passes) × (pass.made ≡ length (pass ∷ passes))
