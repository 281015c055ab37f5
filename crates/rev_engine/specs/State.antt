use Rattle.std.specs.Prelude.{◌≡◌, ℕ, ◌+◌, ◌*◌, ◌^◌, ◌<◌, ◌≤◌, List, length}
use Rattle.std.specs.List.{AllByRecursion}
use Rattle.subset_runs.specs.Subset.{items_outside}
use Rattle.plain_text.specs.Text.{byte_len}
use Rattle.plain_edits.specs.History.{History, IsSound, head}
use Rattle.rev_list.specs.Hidden.{hidden_at}
use Rattle.rev_list.specs.WithoutText.{without_text}
use Rattle.plain_edits.specs.Undo.{undone_now}
use Rattle.collection_laws.specs.Left.{left_of}
use Rattle.rev_rebase.specs.Rebase.{characters_of}
use Rattle.rev_engine.specs.Asked.{IsKnown, IsOfEngine}

-- what contracts see of an engine
pub record State : Type 0 where
  -- all characters that it ever had and that are not dropped, in order
  pub union : List ℕ
  -- the history in which every character is 0
  pub revisions : History
  -- the most characters that may be inserted after loading, and how many were
  pub limit : ℕ
  pub spent : ℕ

-- what of the characters is visible at a revision
abbrev pub shown_at : List ℕ → History → ℕ → List ℕ
shown_at union revisions rev = items_outside (hidden_at revisions rev) union

-- the characters and the revisions are those of a history
pub record IsHistoryOf (union : List ℕ) (revisions history : History) : Type 0 where
  pub sound : IsSound history
  pub union_is : union ≡ characters_of history
  pub revisions_is : revisions ≡ without_text history

-- they are those of what is left of a history
pub record IsLeftOf (union : List ℕ) (revisions history : History) : Type 0 where
  pub of_engine : IsOfEngine history
  pub union_is : union ≡ characters_of (left_of history)
  pub revisions_is : revisions ≡ without_text (left_of history)

-- the parts go together: they are those of what is left of some history, the text is what the head shows, what is undone is known, and
-- there are numbers for all characters that may still come, of at most four bytes each
pub record IsHeld (union text : List ℕ) (revisions : History) (limit spent : ℕ) : Type 0 where
  pub some : ∥ ((history : History) × IsLeftOf union revisions history) ∥₁
  pub positions : length union ≡ length revisions.characters
  pub floor : revisions.floor ≤ head revisions
  pub shown : text ≡ shown_at union revisions (head revisions)
  pub known : AllByRecursion (IsKnown revisions) (undone_now revisions)
  pub within : spent ≤ limit
  pub limit_bound : limit ≤ 2 ^ 60
  pub bound : byte_len union + 4 * limit < 2 ^ 64 + 4 * spent
