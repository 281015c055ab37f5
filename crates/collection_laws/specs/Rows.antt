-- Small histories in which a conclusion fails, each for want of one premise; and what is left of one that lacks none.
use Rattle.std.specs.Prelude.{◌≡◌, ℕ, true, false, not, if◌then◌else◌, ◌==◌, List, [], ◌∷◌, codes}
use Rattle.plain_edits.specs.History.{History, edit, undo, loaded, text_at}
use Rattle.plain_edits.specs.Edits.{PlainEdit, edited, undid}
use Rattle.plain_edits.specs.Collection.{is_clean, is_at_rest, collected_at}
use Rattle.collection_laws.specs.Left.{left_of}

-- an edit that inserts a text at a gap of its base's text
abbrev pub inserting : (base gap : ℕ) → List ℕ → (group priority : ℕ) → PlainEdit
inserting base gap text group priority = record {
  base = base;
  kept = λ index. true;
  added = λ g. if g == gap then text else [];
  group = group;
  priority = priority;
  author = 0;
}

-- an edit that deletes the character with an index of its base's text
abbrev pub deleting : (base index group : ℕ) → PlainEdit
deleting base index group = record {
  base = base;
  kept = λ i. not (i == index);
  added = λ g. [];
  group = group;
  priority = 0;
  author = 0;
}

-- ---- a history that lacks nothing

-- of `ab`, group 1 deletes `b`, and group 2 inserts `c` and then `d` at the end
abbrev pub three_edits : History
three_edits =
    edited (edited (edited (loaded (codes "ab")) (deleting 0 1 1)) (inserting 1 1 (codes "c") 2 0)) (inserting 2 2 (codes "d") 2 0)

-- of `ab`, group 1 deletes `b` and inserts `c` in front, and is undone
abbrev pub undone_edits : History
undone_edits = undid (edited (edited (loaded (codes "ab")) (deleting 0 1 1)) (inserting 1 0 (codes "c") 1 0)) (1 ∷ [])

-- group 1, collected at the head, takes `b` with it, and of group 2 the last edit stands for both; where group 1 is undone, it takes `c`
-- with it, and `b` was never deleted
pub record WhatIsLeft : Type 0 where
  pub left : left_of (collected_at three_edits 3 (1 ∷ [])) ≡ record {
    characters =
        record { character = 97; inserted = 0; deleted = [] } ∷ record { character = 99; inserted = 3; deleted = [] } ∷
        record { character = 100; inserted = 3; deleted = [] } ∷ [];
    revisions = undo [] ∷ undo [] ∷ edit 0 2 0 0 ∷ [];
    floor = 3;
    collected = 1 ∷ [];
  }
  pub left_undone : left_of (collected_at undone_edits 3 (1 ∷ [])) ≡ record {
    characters = record { character = 97; inserted = 0; deleted = [] } ∷ record { character = 98; inserted = 0; deleted = [] } ∷ [];
    revisions = undo (1 ∷ []) ∷ undo (1 ∷ []) ∷ undo (1 ∷ []) ∷ [];
    floor = 3;
    collected = 1 ∷ [];
  }
  -- group 2 can still be undone
  pub undone : text_at (undid (left_of (collected_at three_edits 3 (1 ∷ []))) (2 ∷ [])) 4 ≡ codes "a"
  pub before : left_of three_edits ≡ three_edits

-- ---- a floor that is not clean

-- of `ptq`, group 1 deletes `t`, and group 2 inserts `E` where `t` stood, against the text before that
abbrev pub stale_edit : History
stale_edit = edited (edited (loaded (codes "ptq")) (deleting 0 1 1)) (inserting 0 1 (codes "E") 2 1)

-- where `t` is forgotten at floor 1, an insertion against it goes to the other side of `E`
pub record NeedsCleanFloor : Type 0 where
  pub unclean : is_clean stale_edit.revisions 1 ≡ false
  pub at_rest : is_at_rest stale_edit 1 1 ≡ true
  pub all_kept : text_at (edited (collected_at stale_edit 1 (1 ∷ [])) (inserting 1 1 (codes "F") 3 0)) 3 ≡ codes "pEFq"
  pub forgotten : text_at (edited (left_of (collected_at stale_edit 1 (1 ∷ []))) (inserting 1 1 (codes "F") 3 0)) 3 ≡ codes "pFEq"
  pub after : text_at (left_of (edited (collected_at stale_edit 1 (1 ∷ [])) (inserting 1 1 (codes "F") 3 0))) 3 ≡ codes "pEFq"

-- ---- a group that is not at rest

-- group 1 inserts `c` before `ab`, and after floor 1 deletes `b`
abbrev pub not_over : History
not_over = edited (edited (loaded (codes "ab")) (inserting 0 0 (codes "c") 1 0)) (deleting 1 2 1)

-- where the group is collected at floor 1, that revision loses `b`
pub record NeedsGroupOver : Type 0 where
  pub clean : is_clean not_over.revisions 1 ≡ true
  pub not_at_rest : is_at_rest not_over 1 1 ≡ false
  pub all_kept : text_at (collected_at not_over 1 (1 ∷ [])) 1 ≡ codes "cab"
  pub forgotten : text_at (left_of (collected_at not_over 1 (1 ∷ []))) 1 ≡ codes "ca"

-- group 1 inserts `c` before `ab`, and is undone after floor 1
abbrev pub not_settled : History
not_settled = undid (edited (loaded (codes "ab")) (inserting 0 0 (codes "c") 1 0)) (1 ∷ [])

-- where the group is collected at floor 1, that revision loses `c`
pub record NeedsGroupSettled : Type 0 where
  pub clean : is_clean not_settled.revisions 1 ≡ true
  pub not_at_rest : is_at_rest not_settled 1 1 ≡ false
  pub all_kept : text_at (collected_at not_settled 1 (1 ∷ [])) 1 ≡ codes "cab"
  pub forgotten : text_at (left_of (collected_at not_settled 1 (1 ∷ []))) 1 ≡ codes "ab"

-- ---- steps that may not come

-- of `ab`, group 1 deletes `b`, and is collected at the head
abbrev pub without_b : History
without_b = collected_at (edited (loaded (codes "ab")) (deleting 0 1 1)) 1 (1 ∷ [])

-- an undo that disagrees on the collected group shows `b` again, where it was not forgotten
pub record NeedsFrozenGroups : Type 0 where
  pub all_kept : text_at (undid without_b (1 ∷ [])) 2 ≡ codes "ab"
  pub forgotten : text_at (undid (left_of without_b) (1 ∷ [])) 2 ≡ codes "a"

-- an edit of the collected group is forgotten at once, and what it deletes goes from the revision before it
pub record NeedsOpenGroup : Type 0 where
  pub edit_of_left : text_at (edited (left_of without_b) (deleting 1 0 1)) 1 ≡ codes "a"
  pub left_of_edit : text_at (left_of (edited without_b (deleting 1 0 1))) 1 ≡ []

-- an edit against a base before the floor finds no place behind `b` there
pub record NeedsReachedBase : Type 0 where
  pub edit_of_left : text_at (edited (left_of without_b) (inserting 0 2 (codes "c") 2 0)) 2 ≡ codes "a"
  pub left_of_edit : text_at (left_of (edited without_b (inserting 0 2 (codes "c") 2 0))) 2 ≡ codes "ac"

-- ---- characters that no step gives

-- `E` of an edit against revision 1 stands directly left of `t`, which that revision does not show
abbrev pub unguarded : History
unguarded = record {
  characters =
      record { character = 112; inserted = 0; deleted = [] } ∷ record { character = 69; inserted = 2; deleted = [] } ∷
      record { character = 116; inserted = 0; deleted = 1 ∷ [] } ∷ record { character = 113; inserted = 0; deleted = [] } ∷ [];
  revisions = edit 0 1 0 0 ∷ edit 1 2 1 0 ∷ [];
  floor = 1;
  collected = 1 ∷ [];
}

-- where `t` is forgotten, an insertion in its place goes to the other side of `E`
pub record NeedsGuards : Type 0 where
  pub clean : is_clean unguarded.revisions 1 ≡ true
  pub at_rest : is_at_rest unguarded 1 1 ≡ true
  pub all_kept : text_at (edited unguarded (inserting 1 1 (codes "F") 3 0)) 3 ≡ codes "pEFq"
  pub forgotten : text_at (edited (left_of unguarded) (inserting 1 1 (codes "F") 3 0)) 3 ≡ codes "pFEq"

-- `X` is deleted by a revision before the one that inserted it
abbrev pub deleted_first : History
deleted_first = record {
  characters =
      record { character = 97; inserted = 0; deleted = [] } ∷ record { character = 88; inserted = 2; deleted = 1 ∷ [] } ∷
      record { character = 89; inserted = 3; deleted = [] } ∷ [];
  revisions = edit 0 1 0 0 ∷ edit 1 2 1 0 ∷ edit 1 3 0 0 ∷ [];
  floor = 1;
  collected = 1 ∷ [];
}

-- where `X` is forgotten, `Y` alone decides where an insertion goes
pub record NeedsInsertedFirst : Type 0 where
  pub clean : is_clean deleted_first.revisions 1 ≡ true
  pub at_rest : is_at_rest deleted_first 1 1 ≡ true
  pub all_kept : text_at (edited deleted_first (inserting 1 1 (codes "F") 4 0)) 4 ≡ codes "aFY"
  pub forgotten : text_at (edited (left_of deleted_first) (inserting 1 1 (codes "F") 4 0)) 4 ≡ codes "aYF"
