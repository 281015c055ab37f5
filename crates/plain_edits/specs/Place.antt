-- Where a stale insertion goes.
use Rattle.std.specs.Prelude.{ℕ, zero, suc, ◌+◌, ◌-◌, Bool, not, if◌then◌else◌, nat_lt, ◌==◌, min, List, [], ◌∷◌, length, take, drop}
use Rattle.std.specs.List.{suffix_len, before_first, after_last}
use Rattle.plain_text.specs.Woven.{nth_index}
use Rattle.plain_edits.specs.declared.rank.Rank.{Rank}
use Rattle.plain_edits.specs.Rank.{is_lower}
use Rattle.plain_edits.specs.History.{Tagged, Revision, History, is_visible, rank_of}

-- the index of the visible character right of a gap of a revision's text, or the list's length
abbrev pub index_right_of : History → ℕ → ℕ → ℕ
index_right_of history base gap = nth_index (is_visible history.revisions base) gap history.characters

-- the characters directly left of that index that all came after the revision
abbrev pub later_run : History → ℕ → ℕ → List Tagged
later_run history base gap =
    let left = take (index_right_of history base gap) history.characters in
    drop (length left - suffix_len (λ tagged. nat_lt base tagged.inserted) left) left

-- the least revision that inserted one of the characters
abbrev pub eldest : List Tagged → ℕ
eldest [] = 0
eldest (tagged ∷ []) = tagged.inserted
eldest (tagged ∷ more ∷ run) = min tagged.inserted (eldest (more ∷ run))

-- whether the revision inserted the character
abbrev pub is_by : ℕ → Tagged → Bool
is_by rev tagged = tagged.inserted == rev

-- THE RULE OF ORDER: whether an insertion of this rank goes right of those of an earlier revision: its rank is not lower
abbrev pub goes_right : List Revision → Rank → ℕ → Bool
goes_right revisions rank rev = not (is_lower rank (rank_of revisions rev))

-- how many characters of the run stay left of the insertion: the eldest edit in the run decides on its whole block, from its first
-- to its last character there, and so on in what is left of the run; `bound` is at least the run's length
abbrev pub left_in_run : List Revision → Rank → ℕ → List Tagged → ℕ
left_in_run revisions rank zero run = 0
left_in_run revisions rank (suc bound) [] = 0
left_in_run revisions rank (suc bound) (tagged ∷ more) =
    let run = tagged ∷ more in
    let decides = is_by (eldest run) in
    if goes_right revisions rank (eldest run)
    then length run - length (after_last decides run) + left_in_run revisions rank bound (after_last decides run)
    else left_in_run revisions rank bound (before_first decides run)

-- THE INSERTION PLACE, as an index of the list of characters, of an insertion of a rank at a gap of the base's text
abbrev pub insertion_place : History → ℕ → Rank → ℕ → ℕ
insertion_place history base rank gap =
    let run = later_run history base gap in
    index_right_of history base gap - length run + left_in_run history.revisions rank (length run) run
