-- Lemmas on insertion places.
use Rattle.std.proofs.Common.{◌≡◌, ℕ, zero, suc, ◌+◌, ◌-◌, ◌<◌, ◌≤◌, Bool, true, false, not, if◌then◌else◌, nat_lt, List, [], ◌∷◌, length, take, get_or, reverse, refl, ap, ◌∙◌, inl, inr, arith, length-take, length-drop, length-take-le, get_or-take}
use Rattle.std.specs.List.{AllByRecursion, suffix_len, before_first, after_last, position_or_len}
use Rattle.std.proofs.lemmas.Bool.{and_parts, both_ways, leb-true, le-ltb, ltb-true, cases_lt}
use Rattle.std.proofs.lemmas.List.{get_or-reverse, get_or-drop, nil_from_length}
use Rattle.std.proofs.lemmas.List.Elements.{recursion_from_All, All-from_recursion}
use Rattle.std.proofs.lemmas.List.Sums.{prefix_len_passes, suffix_len-le-length}
use Rattle.plain_edits.specs.declared.rank.Rank.{Rank}
use Rattle.plain_edits.specs.History.{Tagged, Revision, History, head, is_visible, visible_at, IsTaggedBy, IsSound}
use Rattle.plain_edits.specs.Place.{index_right_of, later_run, eldest, is_by, goes_right, left_in_run, insertion_place}
use Rattle.plain_edits.proofs.callers.HistoryLemmas.{is_visible-later}
use Rattle.plain_text.proofs.callers.ListLemmas.{AllByRecursion-take, AllByRecursion-weaker, nth_index-le, nth_index-lt, nth_index_passes}

module _ {X : Type 0} (p : X → Bool) where
  -- the last items that pass: where one of them stands, and that they stop at one that fails
  pub suffix_len_passes : (xs : List X) (k : ℕ) (d : X) → k < length xs → length xs ≤ k + suffix_len p xs → p (get_or xs k d) ≡ true
  suffix_len_passes xs k d within last =
      let back : length xs - 1 - (length xs - 1 - k) ≡ k = omega arith in
      let at : get_or (reverse xs) (length xs - 1 - k) d ≡ get_or xs k d =
      get_or-reverse xs (length xs - 1 - k) d (omega arith) ∙ ap (λ n. get_or xs n d) back in
      rw (← at) (prefix_len_passes p (reverse xs) (length xs - 1 - k) d (omega arith))

  pub suffix_len_stops : (xs : List X) (k : ℕ) (d : X) → k < length xs → p (get_or xs k d) ≡ false → suffix_len p xs + k < length xs
  suffix_len_stops xs k d within fails =
      elim (cases_lt (suffix_len p xs + k) (length xs)) [
        | inl below ↦ below
        | inr last ↦ absurd (both_ways (p (get_or xs k d)) fails (suffix_len_passes xs k d within (omega arith)))
      ]

  pub suffix_len_none : (xs : List X) → AllByRecursion (λ x. p x ≡ false) xs → suffix_len p xs ≡ 0
  suffix_len_none [] each = refl
  suffix_len_none (x ∷ xs) each =
      let last : p (get_or (x ∷ xs) (length xs) x) ≡ false =
      All-from_recursion (λ y. p y ≡ false) (x ∷ xs) each (length xs) x (omega arith) in
      omega (arith, suffix_len_stops (x ∷ xs) (length xs) x (omega arith) last)

-- the characters that stay left are some of the run
pub left_in_run-le : (revisions : List Revision) (rank : Rank) (bound : ℕ) (run : List Tagged) → left_in_run revisions rank bound run ≤ length run
left_in_run-le revisions rank zero run = omega arith
left_in_run-le revisions rank (suc bound) [] = omega arith
left_in_run-le revisions rank (suc bound) (tagged ∷ more) =
    elim (goes_right revisions rank (eldest run)) as (λ b. (if b
    then length run - length (after_last decides run) + left_in_run revisions rank bound (after_last decides run)
    else left_in_run revisions rank bound (before_first decides run)) ≤ length run) [
      | true ↦
          omega (
            arith,
            left_in_run-le revisions rank bound (after_last decides run),
            length-drop (length run - suffix_len (λ x. not (decides x)) run) run,
          )
      | false ↦
          omega (arith, left_in_run-le revisions rank bound (before_first decides run), length-take (position_or_len decides run) run)
    ]
  where
    run : List Tagged
    run = tagged ∷ more

    decides : Tagged → Bool
    decides = is_by (eldest run)

-- a visible character was inserted by then
pub is_visible-inserted : (revisions : List Revision) (at : ℕ) (tagged : Tagged) → is_visible revisions at tagged ≡ true → tagged.inserted ≤ at
is_visible-inserted revisions at tagged seen =
    leb-true tagged.inserted at (and_parts _ _ (and_parts _ _ seen).0).0

-- the run left of a gap
pub length-later_run : (history : History) (base gap : ℕ) →
    length (later_run history base gap) ≡ suffix_len (λ tagged. nat_lt base tagged.inserted) (take (index_right_of history base gap) history.characters)
length-later_run history base gap =
    let left = take (index_right_of history base gap) history.characters in
    let run = suffix_len (λ tagged. nat_lt base tagged.inserted) left in
    omega (arith, length-drop (length left - run) left, suffix_len-le-length (λ tagged. nat_lt base tagged.inserted) left)

pub length-left : (history : History) (base gap : ℕ) →
    length (take (index_right_of history base gap) history.characters) ≡ index_right_of history base gap
length-left history base gap =
    length-take-le (index_right_of history base gap) history.characters (nth_index-le (is_visible history.revisions base) gap history.characters)

pub later_run-le : (history : History) (base gap : ℕ) → length (later_run history base gap) ≤ index_right_of history base gap
later_run-le history base gap =
    omega (
      arith,
      length-later_run history base gap,
      length-left history base gap,
      suffix_len-le-length (λ tagged. nat_lt base tagged.inserted) (take (index_right_of history base gap) history.characters),
    )

-- the run holds later characters alone
pub later_run_is_later : (history : History) (base gap : ℕ) → AllByRecursion (λ tagged. base < tagged.inserted) (later_run history base gap)
later_run_is_later history base gap =
    recursion_from_All (λ tagged. base < tagged.inserted) (later_run history base gap) (λ k d within.
    let at : get_or (later_run history base gap) k d ≡ get_or left (length left - count + k) d = get_or-drop (length left - count) left k d in
    let inside : k < count = omega (arith, length-later_run history base gap) in
    rw at (ltb-true base (get_or left (length left - count + k) d).inserted
    (suffix_len_passes later left (length left - count + k) d (omega (arith, suffix_len-le-length later left)) (omega (arith, suffix_len-le-length later left)))))
  where
    left : List Tagged
    left = take (index_right_of history base gap) history.characters

    later : Tagged → Bool
    later tagged = nat_lt base tagged.inserted

    count : ℕ
    count = suffix_len later left

pub later_run_unseen : (history : History) (base gap : ℕ) →
    AllByRecursion (λ tagged. is_visible history.revisions base tagged ≡ false) (later_run history base gap)
later_run_unseen history base gap =
    AllByRecursion-weaker (λ tagged. base < tagged.inserted) (λ tagged. is_visible history.revisions base tagged ≡ false)
    (λ tagged later. is_visible-later history.revisions base tagged later) (later_run history base gap) (later_run_is_later history base gap)

-- an insertion place stands in its run
pub insertion_place-le : (history : History) (base : ℕ) (rank : Rank) (gap : ℕ) → insertion_place history base rank gap ≤ index_right_of history base gap
insertion_place-le history base rank gap =
    omega (
      arith,
      later_run-le history base gap,
      left_in_run-le history.revisions rank (length (later_run history base gap)) (later_run history base gap),
    )

pub le-insertion_place : (history : History) (base : ℕ) (rank : Rank) (gap : ℕ) →
    index_right_of history base gap ≤ insertion_place history base rank gap + length (later_run history base gap)
le-insertion_place history base rank gap = omega (arith, later_run-le history base gap)

-- the run of a later gap begins behind the visible character right of an earlier gap
pub later_run_after : (history : History) (base gap later : ℕ) → gap < later → later ≤ length (visible_at history base) →
    index_right_of history base gap + length (later_run history base later) < index_right_of history base later
later_run_after history base gap later before within =
    let here = index_right_of history base gap in
    let there = index_right_of history base later in
    let left = take there history.characters in
    let risen : here < there = nth_index-lt seen gap later history.characters before (omega arith) in
    let at : get_or left here none ≡ get_or history.characters here none = get_or-take there history.characters here none risen in
    let inserted : (get_or history.characters here none).inserted ≤ base =
    is_visible-inserted history.revisions base (get_or history.characters here none)
    (nth_index_passes seen gap history.characters none (omega arith)) in
    let stops : nat_lt base (get_or left here none).inserted ≡ false = rw at (le-ltb base (get_or history.characters here none).inserted inserted) in
    omega (
      arith,
      length-left history base later,
      length-later_run history base later,
      suffix_len_stops (λ tagged. nat_lt base tagged.inserted) left here none (omega (arith, length-left history base later)) stops,
    )
  where
    seen : Tagged → Bool
    seen = is_visible history.revisions base

    none : Tagged
    none = record { character = 0; inserted = 0; deleted = [] }

-- the places of two gaps
pub insertion_place-lt : (history : History) (base : ℕ) (rank : Rank) (gap later : ℕ) → gap < later → later ≤ length (visible_at history base) →
    insertion_place history base rank gap < insertion_place history base rank later
insertion_place-lt history base rank gap later before within =
    omega (
      arith,
      insertion_place-le history base rank gap,
      later_run_after history base gap later before within,
      le-insertion_place history base rank later,
    )

-- at the head nothing is later, and the place is the index of the character right of the gap
pub later_run_none : (history : History) (base gap : ℕ) → IsSound history → head history ≤ base → later_run history base gap ≡ []
later_run_none history base gap sound last =
    nil_from_length (later_run history base gap) (length-later_run history base gap ∙
    suffix_len_none (λ tagged. nat_lt base tagged.inserted) (take (index_right_of history base gap) history.characters)
    (AllByRecursion-take (λ tagged. nat_lt base tagged.inserted ≡ false) (index_right_of history base gap) history.characters
    (AllByRecursion-weaker (IsTaggedBy (head history)) (λ tagged. nat_lt base tagged.inserted ≡ false)
    (λ tagged is. le-ltb base tagged.inserted (omega (arith, is.inserted))) history.characters sound)))

pub insertion_place-head : (history : History) (base : ℕ) (rank : Rank) (gap : ℕ) → IsSound history → head history ≤ base →
    insertion_place history base rank gap ≡ index_right_of history base gap
insertion_place-head history base rank gap sound last =
    ap (λ run. index_right_of history base gap - length run + left_in_run history.revisions rank (length run) run)
    (later_run_none history base gap sound last) ∙ omega arith
