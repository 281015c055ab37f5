-- What a turn over a link does.
use Rattle.std.specs.Prelude.{◌≡◌, ℕ, ◌⊎◌, Bool, true, List, [], ◌++◌, Option, Some, None, is_some}
use Rattle.std.specs.Option.{option_map}
use Rattle.plugin_link.specs.Turns.{framed}
use Rattle.plugin_link.specs.Link.{LinkTold, Pushes, link_told}
use Rattle.plugin_link.specs.Pulling.{Reads}
use Rattle.plugin_link.specs.Pushing.{IsPartly}
use Rattle.plugin_link.specs.declared.link_end.LinkEnd.{LinkEnd}
use Rattle.plugin_link.specs.declared.link_end.LinkEnd.TheVariants.{PushFailed}

-- a plugin over a link: the link, what was pulled and not given yet, and how the link ended
pub record Linked (L : Type 0) : Type 0 where
  pub link : L
  pub kept : List ℕ
  pub end : Option LinkEnd

-- the same, by what the link tells
pub record LinkStanding : Type 0 where
  pub told : LinkTold
  pub kept : List ℕ
  pub end : Option LinkEnd

-- the same, put together from what the link tells
abbrev pub standing_of : {L : Type 0} → (L → Option (List ℕ)) → (L → Option (List ℕ)) → (L → ℕ) → Linked L → LinkStanding
standing_of left held faults plugin =
    record { told = link_told left held faults plugin.link; kept = plugin.kept; end = plugin.end }

-- a push failed: nothing was pulled, and no line was given
pub record IsCutShort (old new : LinkTold) (before after whole : List ℕ) (given : List (List ℕ)) : Type 0 where
  pub partly : IsPartly old new whole
  pub kept : after ≡ before
  pub nothing : given ≡ []

-- all bytes were pushed, and then a turn's lines were pulled
pub record IsAnswered (old new : LinkTold) (before after whole : List ℕ) (given : List (List ℕ)) (end : Option LinkEnd) : Type 0 where
  pub asked : LinkTold
  pub pushes : Pushes old asked whole
  pub reads : Reads asked new before after given end

-- a turn was handed lines and gave lines, and so it ended, if it did
abbrev pub Trades : LinkTold → LinkTold → List ℕ → List ℕ → List (List ℕ) → List (List ℕ) → Option LinkEnd → Type 0
Trades old new before after handed given end =
    ((end ≡ Some PushFailed) × IsCutShort old new before after (framed handed) given) ⊎
    IsAnswered old new before after (framed handed) given end

-- A TURN: done without lines, touching nothing, where the link had ended; else done exactly where the link ends in it
abbrev pub HasTurnedBy : Option LinkEnd → LinkStanding → LinkStanding → List (List ℕ) → List (List ℕ) → Bool → Type 0
HasTurnedBy (Some end) old new handed given done = (new ≡ old) × (given ≡ []) × (done ≡ true)
HasTurnedBy None old new handed given done =
    Trades old.told new.told old.kept new.kept handed given new.end × (done ≡ is_some new.end)

-- the same, by how the link stood
abbrev pub HasTurned : LinkStanding → LinkStanding → List (List ℕ) → List (List ℕ) → Bool → Type 0
HasTurned old new handed given done = HasTurnedBy old.end old new handed given done

-- what is to come: what is kept, in front of what the link has left, where it tells that
abbrev pub to_come : LinkStanding → Option (List ℕ)
to_come standing = option_map (λ left. standing.kept ++ left) standing.told.left
