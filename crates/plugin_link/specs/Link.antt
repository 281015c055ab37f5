-- What a link tells of itself, and what calls of it do.
use Rattle.std.specs.Prelude.{◌≡◌, ℕ, ◌≤◌, List, Option}
use Rattle.outside.specs.Source.{Gives}
use Rattle.outside.specs.Sink.{Gains}

-- the bytes that it has left and those that it holds, where it tells them, and its faults
pub record LinkTold : Type 0 where
  pub left : Option (List ℕ)
  pub held : Option (List ℕ)
  pub faults : ℕ

-- the same, put together from what each of them is for the link
abbrev pub link_told : {L : Type 0} → (L → Option (List ℕ)) → (L → Option (List ℕ)) → (L → ℕ) → L → LinkTold
link_told left held faults link = record { left = left link; held = held link; faults = faults link }

-- pulls gave these bytes, and left what is held as it was
pub record Pulls (old new : LinkTold) (got : List ℕ) : Type 0 where
  pub gives : Gives old.left new.left got
  pub held : new.held ≡ old.held
  pub faults : old.faults ≤ new.faults

-- pushes put these bytes, and left what is left as it was
pub record Pushes (old new : LinkTold) (put : List ℕ) : Type 0 where
  pub gains : Gains old.held new.held put
  pub left : new.left ≡ old.left
  pub faults : old.faults ≤ new.faults
