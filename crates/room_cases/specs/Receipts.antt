-- WHAT A RECEIPT SAYS of the journal in the end.
use Rattle.std.specs.Prelude.{◌≡◌, ℕ, List, [], ◌∷◌, ◌++◌, length}
use Rattle.std.specs.Bool.{MatchBool}
use Rattle.xi_plain.specs.declared.entry.Entry.{Entry}
use Rattle.xi_plain.specs.declared.reply.Receipt.{Receipt}
use Rattle.xi_plain.specs.Journal.{entries_of}
use Rattle.room_lock.specs.Room.{Known, IsSamePass, Tells}

-- a pass that had seen nothing was told this by its first call
pub record IsFirstCall (before : Known) (receipt : Receipt) (after : Known) : Type 0 where
  pub same : IsSamePass before after
  pub fresh : before.seen ≡ []
  pub tells : Tells receipt before after

-- the one entry of the caller stands at this place of the journal
pub record IsOnlyEntry (place : ℕ) (journal : List Entry) (caller : ℕ) : Type 0 where
  pub earlier : List Entry
  pub entry : Entry
  pub later : List Entry
  pub there : journal ≡ earlier ++ entry ∷ later
  pub place_is : length earlier ≡ place
  pub alone : entries_of caller journal ≡ entry ∷ []

-- THE RECEIPT STANDS: the caller's one entry is where it says, or the caller has none
abbrev pub IsReceiptIn : List Entry → ℕ → Receipt → Type 0
IsReceiptIn journal caller receipt = MatchBool receipt.entered (IsOnlyEntry receipt.place journal caller) (entries_of caller journal ≡ [])
