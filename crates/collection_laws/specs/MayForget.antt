-- When a history may forget: what every step that may come keeps, for what is dropped never to be missed.
use Rattle.std.specs.Prelude.{◌≡◌, ℕ, ◌<◌, Bool, true, if◌then◌else◌, nat_lt, List, [], ◌∷◌, Option, Some, None}
use Rattle.std.specs.List.{AllByRecursion}
use Rattle.plain_edits.specs.History.{Tagged, Revision, edit, undo, History, revision_at, is_visible}
use Rattle.plain_edits.specs.HistorySteps.{is_edit, IsWellFormed}

-- the base of an edit; 0 of what is none
abbrev pub edit_base : Option Revision → ℕ
edit_base None = 0
edit_base (Some (edit base group priority author)) = base
edit_base (Some (undo groups)) = 0

abbrev pub base_of : List Revision → ℕ → ℕ
base_of revisions rev = edit_base (revision_at revisions rev)

-- the first of these characters that did not come after the base, if there is one, is visible at the base
abbrev pub is_guarded : List Revision → ℕ → List Tagged → Bool
is_guarded revisions base [] = true
is_guarded revisions base (tagged ∷ rest) =
    if nat_lt base tagged.inserted then is_guarded revisions base rest else is_visible revisions base tagged

-- each character of an edit is guarded, at the edit's base, by those right of it
abbrev pub AreGuarded : List Revision → List Tagged → Type 0
AreGuarded revisions [] = Unit {0}
AreGuarded revisions (tagged ∷ rest) =
    (is_edit (revision_at revisions tagged.inserted) ≡ true → is_guarded revisions (base_of revisions tagged.inserted) rest ≡ true) ×
    AreGuarded revisions rest

-- a character was inserted before each of its deletions
abbrev pub IsInsertedFirst : Tagged → Type 0
IsInsertedFirst tagged = AllByRecursion (λ rev. tagged.inserted < rev) tagged.deleted

-- THE INVARIANT: the history is well formed (so its floor is clean, and its collected groups are at rest there), its characters were
-- inserted before they were deleted, and they are guarded
pub record MayForget (history : History) : Type 0 where
  pub formed : IsWellFormed history
  pub first : AllByRecursion IsInsertedFirst history.characters
  pub guarded : AreGuarded history.revisions history.characters
