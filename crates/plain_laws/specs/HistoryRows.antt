-- Worked rows of undo, collection, change and styles: small histories with the values that the definitions are to give.
use Rattle.std.specs.Prelude.{◌≡◌, ℕ, true, false, List, [], ◌∷◌, map, Some, None, codes}
use Rattle.std.specs.List.{range_with_len}
use Rattle.plain_text.specs.Numbers.{flipped}
use Rattle.plain_edits.specs.declared.delta.Delta.{Delta}
use Rattle.plain_edits.specs.declared.delta.El.TheVariants.{Copy as copy_el}
use Rattle.plain_edits.specs.declared.style.Span.{Span}
use Rattle.plain_edits.specs.History.{History, loaded, text_at}
use Rattle.plain_edits.specs.Edits.{PlainEdit, plain_edit, edited, undid, MayUndo, unknown, collected, misfit, spent, edit_refusal, merged}
use Rattle.plain_edits.specs.Collection.{is_group, clean_floor, is_at_rest, collected_at, collection_of, kept}
use Rattle.plain_edits.specs.Change.{shown_indices, change_keeps, change_adds}
use Rattle.plain_edits.specs.Caret.{moved_caret, moved_regions, mapped_gap}
use Rattle.plain_edits.specs.Undo.{undone_with}
use Rattle.plain_edits.specs.Styles.{Layer, moved_layer, mapped_layer, with_spans}
use Rattle.plain_laws.specs.Rows.{inserting, deleting, then_edit, eldest_decides, three_groups}

-- group 1 inserts `a` into the empty text and is undone, and then inserts `Z`
abbrev pub undone_insertion : History
undone_insertion =
    then_edit (undid (then_edit (loaded []) 0 (inserting 0 0 (codes "a")) 1 0) (1 ∷ [])) 2 (inserting 0 0 (codes "Z")) 1 0

-- group 1 inserts `c` at the end of `ab` and is undone, and then deletes `b`
abbrev pub undone_deletion : History
undone_deletion =
    then_edit (undid (then_edit (loaded (codes "ab")) 0 (inserting 2 2 (codes "c")) 1 0) (1 ∷ [])) 2 (deleting 2 1 2) 1 0

-- an edit in an undone group is hidden on arrival and hides nothing; nothing undone, all of it shows
pub record HiddenOnArrival : Type 0 where
  pub insertion : text_at undone_insertion 3 ≡ []
  pub insertion_back : text_at (undid undone_insertion []) 4 ≡ codes "aZ"
  pub deletion : text_at undone_deletion 3 ≡ codes "ab"
  pub deletion_back : text_at (undid undone_deletion []) 4 ≡ codes "ac"

-- three groups that each insert a line end, against the head
abbrev pub three_line_ends : History
three_line_ends =
    then_edit (then_edit (then_edit (loaded []) 0 (inserting 0 0 (codes "\n")) 1 0) 1 (inserting 1 1 (codes "\n")) 2 0) 2
    (inserting 2 2 (codes "\n")) 3 0

-- group 1 is retired and collected at what the sessions have acknowledged, from its own revision on; what was asked before then is refused
pub record CollectionAfterGroups : Type 0 where
  pub collects : collection_of three_line_ends (1 ∷ []) 3 ≡ Some (record { floor = 3; groups = 1 ∷ [] })
  pub lags : collection_of three_line_ends (1 ∷ []) 2 ≡ Some (record { floor = 2; groups = 1 ∷ [] })
  pub waits : collection_of three_line_ends (1 ∷ []) 0 ≡ None
  pub later : collection_of three_line_ends (3 ∷ []) 2 ≡ None
  pub not_twice : collection_of (collected_at three_line_ends 3 (1 ∷ [])) (1 ∷ []) 3 ≡ None
  pub kept : kept (collected_at three_line_ends 3 (1 ∷ [])) ≡ 3
  pub below : edit_refusal (collected_at three_line_ends 3 (1 ∷ [])) 9 0 (inserting 0 0 []) ≡ Some (collected 3)
  pub above : edit_refusal (collected_at three_line_ends 3 (1 ∷ [])) 9 4 (inserting 0 0 []) ≡ Some (unknown 3)
  pub frozen : MayUndo (collected_at three_line_ends 3 (1 ∷ [])) (1 ∷ []) → ⊥

-- `ab`, of which group 1 deletes `b`, and to whose start group 2 adds `c`, which is undone
abbrev pub two_settled : History
two_settled = undid (then_edit (then_edit (loaded (codes "ab")) 0 (deleting 2 1 2) 1 0) 1 (inserting 1 0 (codes "c")) 2 0) (2 ∷ [])

-- a collected group drops what it inserted where it is undone, and what it deleted where it is not
pub record DroppedCharacters : Type 0 where
  pub before : kept two_settled ≡ 3
  pub not_undone : kept (collected_at two_settled 3 (1 ∷ [])) ≡ 2
  pub undone : kept (collected_at two_settled 3 (2 ∷ [])) ≡ 2
  pub both : kept (collected_at two_settled 3 (1 ∷ 2 ∷ [])) ≡ 1
  pub text : text_at (collected_at two_settled 3 (1 ∷ 2 ∷ [])) 3 ≡ codes "a"
  pub rests_undone : is_at_rest two_settled 3 2 ≡ true
  pub rests_not_yet : is_at_rest two_settled 2 2 ≡ false
  pub has_edit : is_group two_settled 2 ≡ true
  pub has_no_edit : is_group two_settled 3 ≡ false

-- where the eldest edit decides, the second revision keeps the floors up to it from being clean
pub record CleanFloors : Type 0 where
  pub up_to_second : clean_floor eldest_decides.revisions 2 ≡ 0
  pub up_to_third : clean_floor eldest_decides.revisions 3 ≡ 3

-- a text goes in at gap 1 of `ac`, against the loaded text, with a priority and by an author
abbrev pub by_author : History → List ℕ → ℕ → ℕ → ℕ → History
by_author history text group priority author =
    edited history (plain_edit history 0 (inserting 2 1 text) group priority author)

-- of equal priorities the higher author stands right, in both orders, and of equal ranks the later edit
pub record RanksAtOneGap : Type 0 where
  pub lower_first :
      text_at (by_author (by_author (loaded (codes "ac")) (codes "X") 1 1 1) (codes "Y") 2 1 2) 2 ≡ codes "aXYc"
  pub higher_first :
      text_at (by_author (by_author (loaded (codes "ac")) (codes "Y") 2 1 2) (codes "X") 1 1 1) 2 ≡ codes "aXYc"
  pub one_author :
      text_at (by_author (by_author (loaded (codes "ac")) (codes "X") 1 1 1) (codes "Y") 2 1 1) 2 ≡ codes "aXYc"
  pub one_author_turned :
      text_at (by_author (by_author (loaded (codes "ac")) (codes "Y") 2 1 1) (codes "X") 1 1 1) 2 ≡ codes "aYXc"
  pub priority_first :
      text_at (by_author (by_author (loaded (codes "ac")) (codes "X") 1 2 1) (codes "Y") 2 1 2) 2 ≡ codes "aYXc"
  pub front_end_first :
      text_at (by_author (by_author (loaded (codes "ac")) (codes "X") 1 65536 0) (codes "Y") 2 65536 1) 2 ≡ codes "aXYc"
  pub plugin_first :
      text_at (by_author (by_author (loaded (codes "ac")) (codes "Y") 2 65536 1) (codes "X") 1 65536 0) 2 ≡ codes "aXYc"

-- `X` of priority 2 and `Y` of priority 1, both at gap 1 of `ac`, and an edit that drops `c`
abbrev pub of_two : ℕ → List ℕ → PlainEdit
of_two priority text = plain_edit (loaded (codes "ac")) 0 (inserting 2 1 text) 1 priority 0

abbrev pub of_dropping : PlainEdit
of_dropping = plain_edit (loaded (codes "ac")) 0 (deleting 2 1 2) 2 0 0

-- what they come to, in whatever order they are named
pub record MergedEdits : Type 0 where
  pub insertions : merged (codes "ac") (of_two 2 (codes "X") ∷ of_two 1 (codes "Y") ∷ []) ≡ codes "aYXc"
  pub turned : merged (codes "ac") (of_two 1 (codes "Y") ∷ of_two 2 (codes "X") ∷ []) ≡ codes "aYXc"
  pub dropping : merged (codes "ac") (of_two 2 (codes "X") ∷ of_dropping ∷ of_two 1 (codes "Y") ∷ []) ≡ codes "aYX"

-- a delta that does not fit the text `ab`
abbrev pub misfitting : Delta
misfitting = record { els = copy_el 0 3 ∷ []; base_len = 2 }

-- each refusal of an edit, and that an earlier one goes before a later one
pub record EditRefusals : Type 0 where
  pub above_head : edit_refusal (loaded (codes "ab")) 0 1 misfitting ≡ Some (unknown 0)
  pub below_floor : edit_refusal (collected_at three_line_ends 3 (1 ∷ [])) 0 2 misfitting ≡ Some (collected 3)
  pub first_misfit : edit_refusal (loaded (codes "ab")) 0 0 misfitting ≡ Some (misfit (record { kind = 3; at = 3 }))
  pub over_limit : edit_refusal (loaded []) 4 0 (inserting 0 0 (codes "abcde")) ≡ Some (spent 5)
  pub over_limit_in_all : edit_refusal three_line_ends 4 3 (inserting 3 0 (codes "ab")) ≡ Some (spent 5)
  pub none : edit_refusal three_line_ends 4 3 (inserting 3 0 (codes "a")) ≡ None

-- `ac`, into which the front end inserts `X`, and a plugin then `Y` at the end, against the loaded text
abbrev pub front_insertion : History
front_insertion = then_edit (loaded (codes "ac")) 0 (inserting 2 1 (codes "X")) 1 65536

abbrev pub stale_insertion : History
stale_insertion = then_edit front_insertion 0 (inserting 2 2 (codes "Y")) 2 0

-- the caret stays behind `X`; the change keeps all, and adds `Y` at the end
pub record StalePluginInsertion : Type 0 where
  pub text : text_at stale_insertion 2 ≡ codes "aXcY"
  pub caret : moved_caret front_insertion stale_insertion false 2 ≡ 2
  pub keeps : map (change_keeps stale_insertion 1 2) (range_with_len 0 4) ≡ true ∷ true ∷ true ∷ false ∷ []
  pub adds : map (change_adds stale_insertion 1 2) (range_with_len 0 4) ≡ [] ∷ [] ∷ [] ∷ codes "Y" ∷ []
  pub back : map (change_keeps stale_insertion 2 1) (range_with_len 0 4) ≡ true ∷ true ∷ true ∷ false ∷ []
  pub same : shown_indices stale_insertion 0 ≡ 0 ∷ 2 ∷ []

-- `ab`, and a plugin's `Z` between its characters
abbrev pub beside_caret : History
beside_caret = then_edit (loaded (codes "ab")) 0 (inserting 2 1 (codes "Z")) 1 0

-- the caret at the gap of the insertion goes right of it, or stays left of it where the edit says so; the same over the change
pub record CaretBesideInsertion : Type 0 where
  pub text : text_at beside_caret 1 ≡ codes "aZb"
  pub right : moved_caret (loaded (codes "ab")) beside_caret false 1 ≡ 2
  pub left : moved_caret (loaded (codes "ab")) beside_caret true 1 ≡ 1
  pub change_right : mapped_gap (change_keeps beside_caret 0 1) (change_adds beside_caret 0 1) false 1 ≡ 2
  pub change_left : mapped_gap (change_keeps beside_caret 0 1) (change_adds beside_caret 0 1) true 1 ≡ 1
  pub selection : moved_regions (loaded (codes "ab")) beside_caret false (record { anchor = 2; caret = 1; goal = Some 7 } ∷ []) ≡
      record { anchor = 3; caret = 2; goal = Some 7 } ∷ []

-- `ptq`, of which group 1 deletes `t`, and into which group 2 puts `E`, against the loaded text; and then group 3 `X` behind `E`, against the
-- head
abbrev pub two_since : History
two_since = then_edit (then_edit (loaded (codes "ptq")) 0 (deleting 3 1 2) 1 0) 0 (inserting 3 1 (codes "E")) 2 0

abbrev pub three_since : History → History
three_since history = then_edit history 2 (inserting 3 2 (codes "X")) 3 0

-- what came since a revision: what stays of its text, and what appears at which gap; a collection that drops `t` changes none of it
pub record EditsSince : Type 0 where
  pub text : text_at two_since 2 ≡ codes "pEq"
  pub loaded_keeps : map (change_keeps two_since 0 2) (range_with_len 0 3) ≡ true ∷ false ∷ true ∷ []
  pub loaded_adds : map (change_adds two_since 0 2) (range_with_len 0 4) ≡ [] ∷ codes "E" ∷ [] ∷ [] ∷ []
  pub first_keeps : map (change_keeps two_since 1 2) (range_with_len 0 2) ≡ true ∷ true ∷ []
  pub first_adds : map (change_adds two_since 1 2) (range_with_len 0 3) ≡ [] ∷ codes "E" ∷ [] ∷ []
  pub head_keeps : map (change_keeps two_since 2 2) (range_with_len 0 3) ≡ true ∷ true ∷ true ∷ []
  pub head_adds : map (change_adds two_since 2 2) (range_with_len 0 4) ≡ [] ∷ [] ∷ [] ∷ [] ∷ []
  pub dropped : kept (collected_at two_since 2 (1 ∷ [])) ≡ 3
  pub floor_keeps : map (change_keeps (three_since (collected_at two_since 2 (1 ∷ []))) 2 3) (range_with_len 0 3) ≡ true ∷ true ∷ true ∷ []
  pub floor_adds : map (change_adds (three_since (collected_at two_since 2 (1 ∷ []))) 2 3) (range_with_len 0 4) ≡ [] ∷ [] ∷ codes "X" ∷ [] ∷ []
  pub same_adds : map (change_adds (three_since two_since) 2 3) (range_with_len 0 4) ≡ [] ∷ [] ∷ codes "X" ∷ [] ∷ []

-- `abcd`, at whose start the front end inserts `X`
abbrev pub before_spans : History
before_spans = then_edit (loaded (codes "abcd")) 0 (inserting 4 0 (codes "X")) 1 65536

-- the same with `X` behind `b`, without `b`, and without `b` and `c`
abbrev pub between_spans : History
between_spans = then_edit (loaded (codes "abcd")) 0 (inserting 4 2 (codes "X")) 1 65536

abbrev pub without_one : History
without_one = then_edit (loaded (codes "abcd")) 0 (deleting 4 1 2) 1 65536

abbrev pub without_two : History
without_two = then_edit (loaded (codes "abcd")) 0 (deleting 4 1 3) 1 65536

-- a span of characters with a style
abbrev pub span : ℕ → ℕ → ℕ → Span
span start end style = record { start = start; end = end; style = style }

-- the layer of the head text before any spans, and after spans over `bc` against the loaded text
abbrev pub unstyled : Layer
unstyled = None ∷ None ∷ None ∷ None ∷ None ∷ []

abbrev pub styled : Layer
styled = None ∷ None ∷ Some 2 ∷ Some 2 ∷ None ∷ []

-- stale spans style the characters that they named; a later span wins, and the range is cleared first
pub record StaleSpans : Type 0 where
  pub stale : with_spans before_spans 0 (record { start = 1; end = 3 }) (span 1 3 2 ∷ []) unstyled ≡ styled
  pub came_between : with_spans between_spans 0 (record { start = 1; end = 3 }) (span 1 3 2 ∷ []) unstyled ≡
      None ∷ Some 2 ∷ None ∷ Some 2 ∷ None ∷ []
  pub came_between_keeps : with_spans between_spans 0 (record { start = 1; end = 3 }) [] (None ∷ Some 3 ∷ Some 4 ∷ Some 3 ∷ None ∷ []) ≡
      None ∷ None ∷ Some 4 ∷ None ∷ None ∷ []
  pub one_deleted : with_spans without_one 0 (record { start = 1; end = 3 }) (span 1 3 2 ∷ []) (None ∷ None ∷ None ∷ []) ≡
      None ∷ Some 2 ∷ None ∷ []
  pub all_deleted : with_spans without_two 0 (record { start = 1; end = 3 }) (span 1 3 2 ∷ []) (Some 3 ∷ None ∷ []) ≡ Some 3 ∷ None ∷ []
  pub later_wins : with_spans before_spans 0 (record { start = 0; end = 2 }) (span 0 2 3 ∷ span 1 2 4 ∷ []) styled ≡
      None ∷ Some 3 ∷ Some 4 ∷ Some 2 ∷ None ∷ []
  pub cleared : with_spans before_spans 1 (record { start = 3; end = 5 }) [] styled ≡ None ∷ None ∷ Some 2 ∷ None ∷ None ∷ []
  pub undone : moved_layer before_spans (undid before_spans (1 ∷ [])) styled ≡ None ∷ Some 2 ∷ Some 2 ∷ None ∷ []
  pub appears : moved_layer (undid before_spans (1 ∷ [])) (undid (undid before_spans (1 ∷ [])) [])
      (Some 5 ∷ Some 2 ∷ Some 2 ∷ None ∷ []) ≡ None ∷ Some 5 ∷ Some 2 ∷ Some 2 ∷ None ∷ []
  pub mapped : mapped_layer (change_keeps before_spans 0 1) (change_adds before_spans 0 1) (None ∷ Some 2 ∷ Some 2 ∷ None ∷ []) ≡ styled

-- three groups, of which group 2 is undone
abbrev pub second_undone : History
second_undone = undid three_groups (2 ∷ [])

-- an undo of one group more hides what it inserted and shows what it deleted; and back again
pub record SelectiveUndo : Type 0 where
  pub deletes : text_at (undid three_groups (undone_with three_groups (2 ∷ []))) 4 ≡ codes "abXc"
  pub set : undone_with second_undone (1 ∷ []) ≡ 1 ∷ 2 ∷ []
  pub inserts : text_at (undid second_undone (undone_with second_undone (1 ∷ []))) 5 ≡ codes "X"
  pub inserts_one : text_at (undid second_undone (undone_with second_undone (3 ∷ []))) 5 ≡ codes "abc"
  pub back : text_at (undid (undid second_undone (undone_with second_undone (1 ∷ []))) (2 ∷ [])) 6 ≡ codes "abXc"

-- sets of numbers: those in exactly one of two
pub record FlippedSets : Type 0 where
  pub both : flipped (1 ∷ 2 ∷ 4 ∷ []) (2 ∷ 3 ∷ []) ≡ 1 ∷ 3 ∷ 4 ∷ []
  pub none : flipped (1 ∷ 2 ∷ []) (1 ∷ 2 ∷ []) ≡ []
