-- What private functions say of an edit: what it keeps, where a search begins and where the old matches go on.
use Rattle.std.specs.Prelude.{◌≡◌, ℕ, ◌+◌, ◌<◌, ◌≤◌, ◌⊎◌, List, ◌++◌, length, replicate, take, Option, None, Some}
use Rattle.delta_core.specs.UnitStep.{UnitStep, Kept}
use Rattle.find_core.specs.Matches.{folded}
use Rattle.plain_text.specs.declared.run.Run.{Run}
use Rattle.match_index.specs.declared.edit.Edit.{Edit}
use Rattle.match_index.specs.declared.edit.Rest.{Rest}
use Rattle.match_index.specs.declared.search.Walked.{Walked}
use Rattle.match_index.specs.Found.{Found, runs_in}
use Rattle.match_index.specs.Changed.{Changes}
use Rattle.match_index.specs.Strides.{runs_behind, span}
use Rattle.match_index.specs.Inner.{strides_under, AreMatchesUpTo, HasRuns}

-- steps of which so many keep a character, and no other does; or none is counted
abbrev pub IsKeptOf : List UnitStep → ℕ → Type 0
IsKeptOf steps count = (steps ≡ replicate count Kept) ⊎ (count ≡ 0)

-- a text before an edit and after it: the edit keeps its first `front` characters, and those from `old` on, which are those from `new` on
pub record KeepsTexts (before after : List ℕ) (front old new : ℕ) : Type 0 where
  pub start : List ℕ
  pub gone : List ℕ
  pub come : List ℕ
  pub rest : List ℕ
  pub was : before ≡ start ++ (gone ++ rest)
  pub is : after ≡ start ++ (come ++ rest)
  pub from : length start ≡ front
  pub to : length (start ++ gone) ≡ old
  pub to_after : length (start ++ come) ≡ new

-- what is looked for was looked for in the text before an edit, and these are its strides
pub record IsEdit (before : List ℕ) (strides : List ℕ) (after : Found) (front old new : ℕ) : Type 0 where
  pub keeps : KeepsTexts before after.text front old new
  pub has : HasRuns (record after { text = before }) strides
  pub some : 0 < length after.chars

-- what is looked for, in the text after
abbrev pub after_of : Edit → Found
after_of edit = record { text = edit.after.now; chars = edit.chars.now; fold = edit.fold }

-- the same of an edit
abbrev pub IsEditing : Edit → Type 0
IsEditing edit = IsEdit edit.before.now (strides_under edit.strides.now) (after_of edit) edit.front edit.old edit.new

-- so many matches stay, of which the last ends at a gap, and the search for others starts at another, where the next one begins or before
pub record HasBegun (strides : List ℕ) (after : Found) (front index from start : ℕ) : Type 0 where
  pub inside : index ≤ length strides
  pub ends : from ≡ span (take index strides)
  pub by_then : from ≤ front
  pub near : start ≤ front
  pub next : index < length strides → start + length after.chars ≤ span (take (index + 1) strides)
  pub stay : AreMatchesUpTo (folded after.fold after.chars) (folded after.fold after.text) 0 (runs_behind (length after.chars) 0 (take index strides)) start

-- the same of an edit
abbrev pub IsBegun : Edit → ℕ → ℕ → ℕ → Type 0
IsBegun edit index from start = HasBegun (strides_under edit.strides.now) (after_of edit) edit.front index from start

-- so many strides end by a gap, across which no match stands
pub record IsRest (len : ℕ) (strides : List ℕ) (rest : Rest) : Type 0 where
  pub inside : rest.index ≤ length strides
  pub ends : rest.end ≡ span (take rest.index strides)
  pub by_then : rest.end ≤ rest.gap
  pub starts : rest.index < length strides → rest.gap + len ≤ span (take (rest.index + 1) strides)

-- a search of the text after has come to where the old matches go on
pub record HasMet (strides : List ℕ) (after : Found) (old new at : ℕ) (rest : Rest) : Type 0 where
  pub is : IsRest (length after.chars) strides rest
  pub past : old ≤ rest.gap
  pub meets : at + old ≡ rest.gap + new

-- the same of an edit
abbrev pub IsMet : Edit → ℕ → Rest → Type 0
IsMet edit at rest = HasMet (strides_under edit.strides.now) (after_of edit) edit.old edit.new at rest

-- where matches were changed: where a search went, if an old one stands there or one was found
abbrev pub IsSearched : ℕ → Walked → Rest → Option Run → Type 0
IsSearched index walked rest None = (rest.index ≡ index) × (length (strides_under walked.strides) ≡ 0)
IsSearched index walked rest (Some run) =
    (run ≡ record { start = walked.start; end = walked.at }) × (rest.index ≡ index → 0 < length (strides_under walked.strides))

-- where the edit changed matches
abbrev pub IsChanged : Edit → Option Run → Type 0
IsChanged edit changed =
    Changes edit.front edit.old edit.new (runs_in (record (after_of edit) { text = edit.before.now })) (runs_in (after_of edit)) changed
