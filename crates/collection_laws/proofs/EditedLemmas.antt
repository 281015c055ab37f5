-- What is left after an edit is the edit of what was left.
use Rattle.std.proofs.Common.{◌≡◌, ℕ, zero, suc, ◌+◌, ◌-◌, ◌<◌, Bool, true, false, not, if◌then◌else◌, nat_lt, nat_le, ◌==◌, min, List, [], ◌∷◌, ◌++◌, length, map, take, drop, filter, refl, ap, ap₂, sym, ◌∙◌, arith, append_assoc, length-append, length-drop, length-take-le}
use Rattle.std.specs.List.{AllByRecursion, suffix_len, prefix_len, before_first, after_last}
use Rattle.std.proofs.lemmas.Bool.{ltb-true}
use Rattle.std.proofs.lemmas.Bool.Decides.{nat_tests}
use Rattle.std.proofs.lemmas.List.{length-map, map-append, take-map, drop-map, take-append-drop}
use Rattle.std.proofs.lemmas.List.Elements.{filter-append}
use Rattle.std.proofs.lemmas.List.Sums.{suffix_len-le-length}
use Rattle.std.proofs.Math.Seq.{take-append-add, drop-append-add}
use Rattle.plain_text.specs.Woven.{woven}
use Rattle.plain_text.proofs.callers.ListLemmas.{AllByRecursion-weaker, AllByRecursion-take, at-woven, woven_same}
use Rattle.plain_edits.specs.declared.rank.Rank.{Rank}
use Rattle.plain_edits.specs.History.{Tagged, inserted_by, Revision, edit, History, head, edit_rank, rank_of, is_visible, visible_at, IsTaggedBy}
use Rattle.plain_edits.specs.Rank.{is_lower}
use Rattle.plain_edits.specs.Place.{eldest, is_by, goes_right, left_in_run}
use Rattle.plain_edits.specs.Edits.{PlainEdit, with_deletion, edited, insertion_rank}
use Rattle.plain_edits.specs.Blocks.{block_at, older_len, put_behind, block_after}
use Rattle.plain_edits.specs.HistorySteps.{MayEdit}
use Rattle.plain_edits.proofs.callers.BlockLemmas.{characters-edited}
use Rattle.collection_laws.specs.MayForget.{MayForget}
use Rattle.collection_laws.specs.Left.{is_kept, settled_rev, settled, left_of}
use Rattle.collection_laws.proofs.ListLemmas.{all_both, run, run_passes, sifted, sifted-yes, Goes, block-sifted, run-sifted, run-map, prefix_len-map, woven-map, AllByRecursion-drop, AllByRecursion-block, AllByRecursion-filter, AreApart-block}
use Rattle.collection_laws.proofs.DroppedLemmas.{IsOurs, all_ours, later_is_kept, shown_is_kept, AreApart-dropped}
use Rattle.collection_laws.proofs.SettledLemmas.{settled_rev-after, head-left, revision_at-after}
use Rattle.collection_laws.proofs.ShownLemmas.{HasFloor-formed, nat_le-left, goes-shown, visible_at-left}
use Rattle.collection_laws.proofs.LaterLemmas.{is_kept-deleted, is_kept-new, is_kept-old, leaves-edit, settled-deleted, settled-later, settled-new, revisions-later, sifted-later}

-- ---- the characters of a run that stay left of an insertion

eldest-map : (s : Tagged → Tagged) (xs : List Tagged) → AllByRecursion (λ x. (s x).inserted ≡ x.inserted) xs → eldest (map s xs) ≡ eldest xs
eldest-map s [] each = refl
eldest-map s (x ∷ []) each = each.0
eldest-map s (x ∷ y ∷ xs) each = ap₂ min each.0 (eldest-map s (y ∷ xs) each.1)

eldest-above : (floor : ℕ) (x : Tagged) (xs : List Tagged) → AllByRecursion (λ t. floor < t.inserted) (x ∷ xs) → floor < eldest (x ∷ xs)
eldest-above floor x [] each = each.0
eldest-above floor x (y ∷ xs) each = omega (arith, each.0, eldest-above floor y xs each.1)

left_in_run-map : (revisions others : List Revision) (floor : ℕ) (rank : Rank) (bound : ℕ) (s : Tagged → Tagged) (xs : List Tagged) →
    ((rev : ℕ) → floor < rev → rank_of others rev ≡ rank_of revisions rev) →
    AllByRecursion (λ x. floor < x.inserted) xs → AllByRecursion (λ x. (s x).inserted ≡ x.inserted) xs →
    left_in_run others rank bound (map s xs) ≡ left_in_run revisions rank bound xs
left_in_run-map revisions others floor rank zero s xs alike above each = refl
left_in_run-map revisions others floor rank (suc bound) s [] alike above each = refl
left_in_run-map revisions others floor rank (suc bound) s (x ∷ xs) alike above each =
    ap (decided others all') (eldest-map s all each) ∙
    ap (λ other. if not (is_lower rank other) then length all' - length (after_last by all') + left_in_run others rank bound (after_last by all')
    else left_in_run others rank bound (before_first by all')) (alike (eldest all) (eldest-above floor x xs above)) ∙
    ap₂ (λ ys n. if goes_right revisions rank (eldest all) then n - length ys + left_in_run others rank bound ys
    else left_in_run others rank bound (before_first by all')) after (length-map all s) ∙
    ap (λ ys. if goes_right revisions rank (eldest all)
    then length all - length (map s (after_last by all)) + left_in_run others rank bound (map s (after_last by all))
    else left_in_run others rank bound ys) before ∙
    ap₂ (λ n m. if goes_right revisions rank (eldest all) then length all - length (map s (after_last by all)) + n else m)
    (left_in_run-map revisions others floor rank bound s (after_last by all) alike
    (AllByRecursion-drop (λ t. floor < t.inserted) (length all - suffix_len (λ t. not (by t)) all) all above)
    (AllByRecursion-drop (λ t. (s t).inserted ≡ t.inserted) (length all - suffix_len (λ t. not (by t)) all) all each))
    (left_in_run-map revisions others floor rank bound s (before_first by all) alike
    (AllByRecursion-take (λ t. floor < t.inserted) (prefix_len (λ t. not (by t)) all) all above)
    (AllByRecursion-take (λ t. (s t).inserted ≡ t.inserted) (prefix_len (λ t. not (by t)) all) all each)) ∙
    ap (λ n. if goes_right revisions rank (eldest all)
    then length all - n + left_in_run revisions rank bound (after_last by all)
    else left_in_run revisions rank bound (before_first by all)) (length-map (after_last by all) s)
  where
    all : List Tagged
    all = x ∷ xs

    all' : List Tagged
    all' = map s all

    by : Tagged → Bool
    by = is_by (eldest all)

    decided : List Revision → List Tagged → ℕ → ℕ
    decided revs ys m =
        if goes_right revs rank m
        then length ys - length (after_last (is_by m) ys) + left_in_run revs rank bound (after_last (is_by m) ys)
        else left_in_run revs rank bound (before_first (is_by m) ys)

    others_too : AllByRecursion (λ t. not (by (s t)) ≡ not (by t)) all
    others_too =
        AllByRecursion-weaker (λ t. (s t).inserted ≡ t.inserted) (λ t. not (by (s t)) ≡ not (by t))
        (λ t same. ap (λ n. not (n == eldest all)) same) all each

    after : after_last by all' ≡ map s (after_last by all)
    after = run-map s (λ t. not (by t)) (λ t. not (by t)) all others_too

    before : before_first by all' ≡ map s (before_first by all)
    before =
        ap (λ n. take n all') (prefix_len-map s (λ t. not (by t)) (λ t. not (by t)) all others_too) ∙
        take-map s (prefix_len (λ t. not (by t)) all) all

-- ---- sifting lists that are put together

module _ {X Y : Type 0} (k : X → Bool) (s : X → Y) where
  sifted-append : (xs ys : List X) → sifted k s (xs ++ ys) ≡ sifted k s xs ++ sifted k s ys
  sifted-append xs ys = ap (map s) (filter-append k xs ys) ∙ map-append s (filter k xs) (filter k ys)

  sifted-all : (t : X → Y) (xs : List X) → AllByRecursion (λ x. (k x ≡ true) × (s x ≡ t x)) xs → sifted k s xs ≡ map t xs
  sifted-all t [] each = refl
  sifted-all t (x ∷ xs) each = sifted-yes k s x xs each.0.0 ∙ ap₂ (λ y ys. y ∷ ys) each.0.1 (sifted-all t xs each.1)

put_behind-past : {X : Type 0} (front xs new : List X) (n : ℕ) → put_behind (length front + n) new (front ++ xs) ≡ front ++ put_behind n new xs
put_behind-past front xs new n =
    ap₂ (λ ys zs. ys ++ (new ++ zs)) (take-append-add front xs n) (drop-append-add front xs n) ∙ append_assoc front (take n xs) (new ++ drop n xs)

lt_not_le : (a n : ℕ) → nat_lt a n ≡ not (nat_le n a)
lt_not_le a n = grind (arith, nat_tests)

-- ---- the edit step

module _ (history : History) (e : PlainEdit) (forgets : MayForget history) (may : MayEdit history e) where
  abbrev next : History
  next = edited history e

  abbrev made : Revision
  made = edit e.base e.group e.priority e.author

  abbrev new_rev : ℕ
  new_rev = head history + 1

  abbrev left : History
  left = left_of history

  abbrev k : Tagged → Bool
  k = is_kept history

  abbrev s : Tagged → Tagged
  s = settled history

  abbrev k_next : Tagged → Bool
  k_next = is_kept next

  abbrev s_next : Tagged → Tagged
  s_next = settled next

  past : history.floor < new_rev
  past = omega (arith, forgets.formed.floor)

  kept-old : (tagged : Tagged) → IsTaggedBy (head history) tagged → k_next tagged ≡ k tagged
  kept-old tagged is = is_kept-old history e.base e.group e.priority e.author next.characters forgets.formed.floor may.is_open tagged is

  settled-old : (tagged : Tagged) → IsTaggedBy (head history) tagged → s_next tagged ≡ s tagged
  settled-old tagged is = settled-later history made next.characters forgets.formed.floor tagged is

  -- new characters are kept as they are
  sifted-new : (text : List ℕ) → sifted k_next s_next (map (inserted_by new_rev) text) ≡ map (inserted_by new_rev) text
  sifted-new [] = refl
  sifted-new (c ∷ text) =
      sifted-yes k_next s_next (inserted_by new_rev c) (map (inserted_by new_rev) text)
      (is_kept-new history e.base e.group e.priority e.author next.characters forgets.formed.floor may.is_open c) ∙
      ap₂ (λ x xs. x ∷ xs) (settled-new history e.base e.group e.priority e.author next.characters forgets.formed.floor may.is_open c) (sifted-new text)

  -- a character that the base shows
  sifted-shown : (index : ℕ) (tagged : Tagged) → IsTaggedBy (head history) tagged → k tagged ≡ true →
      sifted k_next s_next ((if e.kept index then tagged else with_deletion new_rev tagged) ∷ []) ≡
      (if e.kept index then s tagged else with_deletion new_rev (s tagged)) ∷ []
  sifted-shown index tagged is kept = by (e.kept index)
    where
      by : (b : Bool) → sifted k_next s_next ((if b then tagged else with_deletion new_rev tagged) ∷ []) ≡
          (if b then s tagged else with_deletion new_rev (s tagged)) ∷ []
      by true = sifted-yes k_next s_next tagged [] (kept-old tagged is ∙ kept) ∙ ap (λ t. t ∷ []) (settled-old tagged is)
      by false =
          sifted-yes k_next s_next (with_deletion new_rev tagged) []
          (is_kept-deleted history e.base e.group e.priority e.author next.characters forgets.formed.floor may.is_open tagged is ∙ kept) ∙
          ap (λ t. t ∷ []) (settled-deleted history e.base e.group e.priority e.author next.characters forgets.formed.floor may.is_open tagged is)

  -- ---- one block

  abbrev after : Tagged → Bool
  after tagged = nat_lt e.base tagged.inserted

  goes-after : (tagged : Tagged) → IsOurs history tagged → Goes k s after after tagged
  goes-after tagged ours = record {
    stays = λ later. later_is_kept history tagged forgets.formed ours (omega (arith, may.reached, ltb-true e.base tagged.inserted later));
    alike = λ _.
        lt_not_le e.base (settled_rev history tagged.inserted) ∙
        ap not (nat_le-left history (HasFloor-formed history forgets.formed) tagged ours.by e.base may.reached) ∙ sym (lt_not_le e.base tagged.inserted);
  }

  module _ (gap : ℕ) where
    abbrev blk : List Tagged
    blk = block_at history e.base gap

    abbrev blk' : List Tagged
    blk' = block_at left e.base gap

    abbrev older : List Tagged
    older = take (older_len e.base blk) blk

    abbrev newer : List Tagged
    newer = run after blk

    abbrev new : List Tagged
    new = map (inserted_by new_rev) (e.added gap)

    abbrev stays_left : ℕ
    stays_left = left_in_run history.revisions (insertion_rank e) (length newer) newer

    cut : blk ≡ older ++ newer
    cut = sym (take-append-drop (older_len e.base blk) blk)

    ours-blk : AllByRecursion (IsOurs history) blk
    ours-blk =
        AllByRecursion-block (IsOurs history) (is_visible history.revisions e.base) gap history.characters (all_ours history forgets)

    goes-blk : AllByRecursion (Goes k s after after) blk
    goes-blk = AllByRecursion-weaker (IsOurs history) (Goes k s after after) goes-after blk ours-blk

    blk-left : blk' ≡ sifted k s blk
    blk-left =
        block-sifted k s (is_visible history.revisions e.base) (is_visible left.revisions e.base) gap history.characters
        (goes-shown history forgets e.base may.reached may.known)

    -- each character of the run is ours, and came after the floor
    ours-newer : AllByRecursion (λ t. IsOurs history t × (after t ≡ true)) newer
    ours-newer =
        all_both (IsOurs history) (λ t. after t ≡ true) newer
        (AllByRecursion-drop (IsOurs history) (older_len e.base blk) blk ours-blk) (run_passes after blk)

    kept-newer : AllByRecursion (λ t. (k_next t ≡ true) × (s_next t ≡ s t)) newer
    kept-newer =
        AllByRecursion-weaker (λ t. IsOurs history t × (after t ≡ true)) (λ t. (k_next t ≡ true) × (s_next t ≡ s t))
        (λ t both. (kept-old t both.0.tags ∙ (goes-after t both.0).stays both.1, settled-old t both.0.tags)) newer ours-newer

    sifted-newer : sifted k s newer ≡ map s newer
    sifted-newer =
        sifted-all k s s newer (AllByRecursion-weaker (λ t. IsOurs history t × (after t ≡ true)) (λ t. (k t ≡ true) × (s t ≡ s t))
        (λ t both. ((goes-after t both.0).stays both.1, refl)) newer ours-newer)

    newer-left : run after blk' ≡ map s newer
    newer-left =
        ap (run after) blk-left ∙
        run-sifted k s after after blk
        (AreApart-block k after (is_visible history.revisions e.base) gap history.characters (AreApart-dropped history forgets e.base may.reached))
        goes-blk ∙ sifted-newer

    cut-left : blk' ≡ sifted k s older ++ map s newer
    cut-left =
        blk-left ∙ ap (sifted k s) cut ∙ sifted-append k s older newer ∙ ap (λ xs. sifted k s older ++ xs) sifted-newer

    -- as many of the run stay left
    stays_left-left : left_in_run left.revisions (insertion_rank e) (length (run after blk')) (run after blk') ≡ stays_left
    stays_left-left =
        ap₂ (left_in_run left.revisions (insertion_rank e)) (ap length newer-left ∙ length-map newer s) newer-left ∙
        left_in_run-map history.revisions left.revisions history.floor (insertion_rank e) (length newer) s newer
        (λ rev later. ap edit_rank (revision_at-after history forgets.formed.floor rev later))
        (AllByRecursion-weaker (λ t. IsOurs history t × (after t ≡ true)) (λ t. history.floor < t.inserted)
        (λ t both. late t both.1) newer ours-newer)
        (AllByRecursion-weaker (λ t. IsOurs history t × (after t ≡ true)) (λ t. (s t).inserted ≡ t.inserted)
        (λ t both. settled_rev-after history t.inserted (late t both.1)) newer ours-newer)
      where
        late : (t : Tagged) → after t ≡ true → history.floor < t.inserted
        late t later = omega (arith, may.reached, ltb-true e.base t.inserted later)

    older_len-left : older_len e.base blk' ≡ length (sifted k s older)
    older_len-left =
        omega (
          arith,
          ap length cut-left ∙ length-append (sifted k s older) (map s newer),
          ap length newer-left,
          length-drop (older_len e.base blk') blk',
          suffix_len-le-length after blk',
        )

    sifted-put : sifted k_next s_next (put_behind stays_left new newer) ≡ put_behind stays_left new (map s newer)
    sifted-put =
        sifted-append k_next s_next (take stays_left newer) (new ++ drop stays_left newer) ∙
        ap₂ (λ xs ys. xs ++ ys)
        (sifted-all k_next s_next s (take stays_left newer) (AllByRecursion-take (λ t. (k_next t ≡ true) × (s_next t ≡ s t)) stays_left newer kept-newer) ∙
        sym (take-map s stays_left newer))
        (sifted-append k_next s_next new (drop stays_left newer) ∙
        ap₂ (λ xs ys. xs ++ ys) (sifted-new (e.added gap))
        (sifted-all k_next s_next s (drop stays_left newer) (AllByRecursion-drop (λ t. (k_next t ≡ true) × (s_next t ≡ s t)) stays_left newer kept-newer) ∙
        sym (drop-map s stays_left newer)))

    -- THE BLOCK of a gap goes along
    block-left : sifted k_next s_next (block_after history e gap) ≡ block_after left e gap
    block-left =
        ap (sifted k_next s_next)
        (ap₂ (λ n xs. put_behind n new xs)
        (let count : older_len e.base blk + stays_left ≡ length older + stays_left =
        omega (arith, length-take-le (older_len e.base blk) blk (omega (arith, suffix_len-le-length after blk))) in count)
        cut ∙ put_behind-past older newer new stays_left) ∙
        sifted-append k_next s_next older (put_behind stays_left new newer) ∙
        ap₂ (λ xs ys. xs ++ ys)
        (sifted-later history made next.characters forgets.formed.floor
        (leaves-edit history e.base e.group e.priority e.author next.characters forgets.formed.floor may.is_open) older
        (AllByRecursion-take (IsTaggedBy (head history)) (older_len e.base blk) blk
        (AllByRecursion-weaker (IsOurs history) (IsTaggedBy (head history)) (λ t ours. ours.tags) blk ours-blk)))
        sifted-put ∙
        sym (ap₂ (λ n xs. put_behind n (map (inserted_by (head left + 1)) (e.added gap)) xs)
        (ap₂ (λ n m. n + m) older_len-left stays_left-left) cut-left ∙
        ap (λ n. put_behind (length (sifted k s older) + stays_left) (map (inserted_by (n + 1)) (e.added gap)) (sifted k s older ++ map s newer))
        (head-left history forgets.formed.floor) ∙
        put_behind-past (sifted k s older) (map s newer) new stays_left)

  characters-left : sifted k_next s_next next.characters ≡ (edited left e).characters
  characters-left =
      ap (sifted k_next s_next) (characters-edited history e) ∙
      at-woven (sifted k_next s_next) (sifted-append k_next s_next) (block_after history e)
      (λ index tagged. (if e.kept index then tagged else with_deletion new_rev tagged) ∷ []) 0 (visible_at history e.base) ∙
      woven_same (λ t. IsTaggedBy (head history) t × (k t ≡ true)) (λ gap. sifted k_next s_next (block_after history e gap)) (block_after left e)
      (λ index tagged. sifted k_next s_next ((if e.kept index then tagged else with_deletion new_rev tagged) ∷ []))
      (λ index tagged. (if e.kept index then s tagged else with_deletion new_rev (s tagged)) ∷ [])
      block-left (λ index tagged both. sifted-shown index tagged both.0 both.1) 0 (visible_at history e.base)
      (AllByRecursion-weaker (λ t. IsOurs history t × (is_visible history.revisions e.base t ≡ true)) (λ t. IsTaggedBy (head history) t × (k t ≡ true))
      (λ t both. (both.0.tags, shown_is_kept history t e.base both.0 may.reached may.known both.1)) (visible_at history e.base)
      (AllByRecursion-filter (IsOurs history) (is_visible history.revisions e.base) history.characters (all_ours history forgets))) ∙
      sym (woven-map s (block_after left e) (λ index tagged. (if e.kept index then tagged else with_deletion new_rev tagged) ∷ []) 0
      (visible_at history e.base)) ∙
      ap₂ (λ xs n. woven (block_after left e) (λ index tagged. (if e.kept index then tagged else with_deletion (n + 1) tagged) ∷ []) 0 xs)
      (sym (visible_at-left history forgets e.base may.reached may.known)) (sym (head-left history forgets.formed.floor)) ∙
      sym (characters-edited left e)

-- THE EDIT STEP goes along
pub left_of-edited : (history : History) (e : PlainEdit) → MayForget history → MayEdit history e →
    left_of (edited history e) ≡ edited (left_of history) e
left_of-edited history e forgets may =
    ap₂ (λ characters revisions. record { characters = characters; revisions = revisions; floor = history.floor; collected = history.collected })
    (characters-left history e forgets may)
    (revisions-later history (edit e.base e.group e.priority e.author) (edited history e).characters forgets.formed.floor)
