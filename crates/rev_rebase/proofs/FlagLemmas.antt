-- The positions of a stale edit by blocks, from one revision to the next.
use Rattle.std.proofs.Common.{◌≡◌, ℕ, zero, suc, ◌+◌, ◌≤◌, Bool, true, false, not, cond, if◌then◌else◌, nat_lt, List, [], ◌∷◌, ◌++◌, length, map, take, drop, replicate, filter, refl, ap, ap₂, sym, subst, ◌∙◌, arith, length-append, take-append-drop, append-nil}
use Rattle.std.specs.List.{AllByRecursion, range_with_len}
use Rattle.std.proofs.lemmas.Bool.{le-ltb, eqb-true, not_from_false, both_ways}
use Rattle.std.proofs.lemmas.List.{map-append, length-map, length-replicate, take-map, drop-map}
use Rattle.std.proofs.lemmas.List.FromFn.{length-range_with_len}
use Rattle.std.proofs.lemmas.List.Elements.{recursion_from_All, filter_passes}
use Rattle.subset_runs.specs.Subset.{expand}
use Rattle.subset_runs.proofs.ForCallers.{length-expand_as}
use Rattle.plain_text.specs.Woven.{woven, nth_index}
use Rattle.plain_edits.specs.declared.rank.Rank.{Rank}
use Rattle.plain_edits.specs.declared.delta.UnitDelta.{UnitDelta}
use Rattle.plain_edits.specs.UnitDelta.{unit_keeps}
use Rattle.plain_edits.specs.History.{Tagged, inserted_by, Revision, History, head, is_visible, visible_at}
use Rattle.plain_edits.specs.Place.{is_by, goes_right, index_right_of, insertion_place}
use Rattle.plain_edits.specs.Edits.{PlainEdit, inserted_at, is_deleted_by, insertion_rank}
use Rattle.plain_edits.specs.Change.{block}
use Rattle.plain_edits.specs.Blocks.{block_at, left_in_block}
use Rattle.plain_text.proofs.callers.ListLemmas.{AllByRecursion-take, AllByRecursion-weaker, woven_same, filter_none, filter_all}
use Rattle.plain_edits.proofs.callers.HistoryLemmas.{is_visible-later}
use Rattle.plain_edits.proofs.callers.BlockLemmas.{image-by_blocks, map-by_blocks, block_fails, block-filter, take-nth_index-filter}
use Rattle.plain_edits.proofs.callers.WeaveLemmas.{AllByRecursion-block, block-map}
use Rattle.plain_edits.proofs.callers.RunLemmas.{left_in_block-early, left_in_block-renamed, insertion_place-left}
use Rattle.plain_edits.proofs.callers.PlaceLemmas.{length-left}
use Rattle.plain_edits.proofs.callers.FirstLemmas.{goes_right-take}
use Rattle.delta_core.specs.Carry.{carried}
use Rattle.delta_core.specs.Factor.{dropped_flags}
use Rattle.rev_list.specs.Hidden.{is_hidden, union_at, hidden_then, insertions_of}
use Rattle.rev_list.specs.WithoutText.{without_character, without_text, insertion_flags, deletion_flags}
use Rattle.rev_rebase.specs.Until.{until, IsOver}
use Rattle.rev_rebase.proofs.OverLemmas.{Over, Over-before, Over-new, IsOver-over, starts_at, left_in_block-step}
use Rattle.rev_rebase.proofs.BlockLemmas.{falses, falses-len, weave, weave-len, put_between, carried-blocks, expand-blocks}
use Rattle.rev_rebase.proofs.UntilLemmas.{seen_then, union_at-before, union_at-there, visible_then}

-- ---- an edit's positions, by blocks

-- the characters of a block that stay left of the edit's, and those that go right of them
abbrev pub left_part : List Revision → ℕ → Rank → List Tagged → List Tagged
left_part revisions base rank characters = take (left_in_block revisions base rank characters) characters

abbrev pub right_part : List Revision → ℕ → Rank → List Tagged → List Tagged
right_part revisions base rank characters = drop (left_in_block revisions base rank characters) characters

-- so many insertions in the block
abbrev pub put_in_block : List Revision → ℕ → Rank → ℕ → List Tagged → List Bool
put_in_block revisions base rank many characters =
    put_between many (left_part revisions base rank characters) (right_part revisions base rank characters)

same_either : {Y : Type 0} (b : Bool) (y : Y) → (if b then y else y) ≡ y
same_either true y = refl
same_either false y = refl

trues : {Y : Type 0} (ys : List Y) → map (λ _. true) ys ≡ replicate (length ys) true
trues [] = refl
trues (y ∷ ys) = ap (λ bs. true ∷ bs) (trues ys)

module _ (h : History) (e : PlainEdit) where
  abbrev blk : ℕ → List Tagged
  blk g = block_at h e.base g

  abbrev lefts : ℕ → List Tagged
  lefts g = left_part h.revisions e.base (insertion_rank e) (blk g)

  abbrev rights : ℕ → List Tagged
  rights g = right_part h.revisions e.base (insertion_rank e) (blk g)

  abbrev news : ℕ → List Tagged
  news g = map (inserted_by (head h + 1)) (e.added g)

  pub insertion_flags-blocks : insertion_flags h e ≡
      weave (λ g. put_in_block h.revisions e.base (insertion_rank e) (length (e.added g)) (block_at h e.base g)) (λ _. false) 0 (visible_at h e.base)
  insertion_flags-blocks =
      ap (λ (at : ℕ → Tagged → List Bool). woven (λ i. map (λ _. true) (inserted_at h e i)) at 0 h.characters)
      (λ i index tagged. sym (ap (λ b. b ∷ []) (same_either (is_deleted_by h e index tagged) false)) i) ∙
      image-by_blocks h e (λ _. true) (λ _. false) (λ _. false) ∙
      ap₂ (λ blocks (at : ℕ → Tagged → List Bool). woven blocks at 0 (visible_at h e.base))
      (λ i g. ap (λ bs. falses (lefts g) ++ (bs ++ falses (rights g)))
      (trues (news g) ∙ ap (λ n. replicate n true) (length-map (e.added g) (inserted_by (head h + 1)))) i)
      (λ i g tagged. ap (λ b. b ∷ []) (same_either (e.kept g) false) i)

  pub deletion_flags-blocks : deletion_flags h e ≡
      weave (λ g. falses (put_in_block h.revisions e.base (insertion_rank e) (length (e.added g)) (block_at h e.base g))) (λ g. not (e.kept g)) 0 (visible_at h e.base)
  deletion_flags-blocks =
      ap (λ (at : ℕ → Tagged → List Bool). woven (λ i. map (λ _. false) (inserted_at h e i)) at 0 h.characters)
      (λ i index tagged. ap (λ b. b ∷ []) (itself (is_deleted_by h e index tagged)) i) ∙
      image-by_blocks h e (λ _. false) (λ _. false) (λ _. true) ∙
      ap₂ (λ blocks (at : ℕ → Tagged → List Bool). woven blocks at 0 (visible_at h e.base))
      (λ i g. all_false g i) (λ i g tagged. ap (λ b. b ∷ []) (turned (e.kept g)) i)
    where
      itself : (b : Bool) → b ≡ (if b then true else false)
      itself true = refl
      itself false = refl

      turned : (b : Bool) → (if b then false else true) ≡ not b
      turned true = refl
      turned false = refl

      all_false : (g : ℕ) → falses (lefts g) ++ (falses (news g) ++ falses (rights g)) ≡
          falses (put_in_block h.revisions e.base (insertion_rank e) (length (e.added g)) (blk g))
      all_false g =
          ap (λ bs. falses (lefts g) ++ bs) (sym (map-append (λ _. false) (news g) (rights g))) ∙
          sym (map-append (λ _. false) (lefts g) (news g ++ rights g)) ∙
          falses-len (lefts g ++ (news g ++ rights g)) (put_in_block h.revisions e.base (insertion_rank e) (length (e.added g)) (blk g))
          (omega (
            arith,
            length-append (lefts g) (news g ++ rights g),
            length-append (news g) (rights g),
            length-append (falses (lefts g)) (replicate (length (e.added g)) true ++ falses (rights g)),
            length-append (replicate (length (e.added g)) true) (falses (rights g)),
            length-map (e.added g) (inserted_by (head h + 1)),
            length-replicate (length (e.added g)) true,
            length-map (lefts g) (λ _. false),
            length-map (rights g) (λ _. false),
          ))

-- ---- in the union of a revision

module _ (h : History) (base : ℕ) where
  abbrev seen : Tagged → Bool
  seen = is_visible h.revisions base

  -- the blocks of the base in the union after a revision
  abbrev pub block_then : ℕ → ℕ → List Tagged
  block_then m g = block (is_visible h.revisions base) g (union_at h m)

  -- a test that what the base shows fails, of all characters
  flags_then : (new : Tagged → Bool) → ((t : Tagged) → is_visible h.revisions base t ≡ true → new t ≡ false) → (m : ℕ) → base ≤ m →
      map new (union_at h m) ≡ weave (λ g. map new (block_then m g)) (λ _. false) 0 (visible_at h base)
  flags_then new unseen m low =
      sym (map-by_blocks seen new (union_at h m)) ∙
      woven_same (λ t. seen t ≡ true) (λ g. map new (block_then m g)) (λ g. map new (block_then m g)) (λ _ t. new t ∷ []) (λ _ _. false ∷ []) (λ g. refl)
      (λ g t is. ap (λ b. b ∷ []) (unseen t is)) 0 (filter seen (union_at h m))
      (recursion_from_All (λ t. seen t ≡ true) (filter seen (union_at h m)) (filter_passes seen (union_at h m))) ∙
      ap (weave (λ g. map new (block_then m g)) (λ _. false) 0) (visible_then h base m low)

  -- what a later revision inserted is not visible at the base
  later_unseen : (m : ℕ) → base ≤ m → (t : Tagged) → seen t ≡ true → is_by (m + 1) t ≡ false
  later_unseen m low t is =
      elim (is_by (m + 1) t) as (λ b. is_by (m + 1) t ≡ b → b ≡ false) [
        | true ↦ λ by. absurd (both_ways (seen t) (is_visible-later h.revisions base t (omega (arith, eqb-true t.inserted (m + 1) by, low))) is)
        | false ↦ λ _. refl
      ] refl

  block_then-before : (m : ℕ) → base ≤ m → (g : ℕ) → block_then m g ≡ filter (λ t. not (is_by (m + 1) t)) (block_then (m + 1) g)
  block_then-before m low g =
      ap (block seen g) (sym (union_at-before h m)) ∙
      block-filter seen (λ t. not (is_by (m + 1) t)) (λ t is. not_from_false (is_by (m + 1) t) (later_unseen m low t is)) g (union_at h (m + 1))

  -- at the base's own time all are of then or before, and a block is dead
  all_early : AllByRecursion (λ t. nat_lt base t.inserted ≡ false) (union_at h base)
  all_early =
      AllByRecursion-weaker (λ t. t.inserted ≤ base) (λ t. nat_lt base t.inserted ≡ false) (λ t low. le-ltb base t.inserted low) (union_at h base) (union_at-there h base)

  none_alive : (g : ℕ) → filter (λ t. not (is_hidden h base t)) (block_then base g) ≡ []
  none_alive g =
      filter_none (λ t. not (is_hidden h base t)) (block_then base g)
      (AllByRecursion-weaker (λ t. seen t ≡ false) (λ t. not (is_hidden h base t) ≡ false) (λ t is. ap (λ b. not (not b)) is) (block_then base g)
      (block_fails seen g (union_at h base)))

  -- of characters that are there at the next revision
  step_then : (rank : Rank) (m : ℕ) → base ≤ m → (characters : List Tagged) → AllByRecursion (λ t. t.inserted ≤ m + 1) characters →
      Over (is_by (m + 1)) (goes_right (take (m + 1) h.revisions) rank (m + 1)) characters
      (left_in_block (take m h.revisions) base rank (filter (λ t. not (is_by (m + 1) t)) characters))
      (left_in_block (take (m + 1) h.revisions) base rank characters)
  step_then rank m low characters each =
      left_in_block-step (take (m + 1) h.revisions) (take m h.revisions) rank (m + 1)
      (λ r below. goes_right-take h.revisions m rank r (omega arith) ∙ sym (goes_right-take h.revisions (m + 1) rank r (omega arith)))
      base characters (omega (arith, low)) each

module _ (h : History) (e : PlainEdit) where
  abbrev put_then : ℕ → ℕ → List Bool
  put_then m g = put_in_block (take m h.revisions) e.base (insertion_rank e) (length (e.added g)) (block_then h e.base m g)

  insertion_flags-until : (m : ℕ) → e.base ≤ m → insertion_flags (until h m) e ≡ weave (put_then m) (λ _. false) 0 (visible_at h e.base)
  insertion_flags-until m low =
      insertion_flags-blocks (until h m) e ∙
      ap (λ sight. weave (λ g. put_in_block (take m h.revisions) e.base (insertion_rank e) (length (e.added g)) (block sight g (union_at h m))) (λ _. false) 0
      (filter sight (union_at h m))) (seen_then h e.base m low) ∙
      ap (weave (put_then m) (λ _. false) 0) (visible_then h e.base m low)

  -- over what is new in a union, where each cut of a block goes over it
  module _ (m : ℕ) (low : e.base ≤ m) (new : Tagged → Bool) (unseen : (t : Tagged) → is_visible h.revisions e.base t ≡ true → new t ≡ false) (right : Bool)
      (was : ℕ → ℕ)
      (over : (g : ℕ) → IsOver new right (block_then h e.base m g) (was g) (left_in_block (take m h.revisions) e.base (insertion_rank e) (block_then h e.base m g))) where
    abbrev lefts_then : ℕ → List Tagged
    lefts_then g = left_part (take m h.revisions) e.base (insertion_rank e) (block_then h e.base m g)

    abbrev rights_then : ℕ → List Tagged
    rights_then g = right_part (take m h.revisions) e.base (insertion_rank e) (block_then h e.base m g)

    abbrev olds : ℕ → List Tagged
    olds g = filter (λ t. not (new t)) (block_then h e.base m g)

    carried_then : carried right (weave (λ g. put_between (length (e.added g)) (take (was g) (olds g)) (drop (was g) (olds g))) (λ _. false) 0 (visible_at h e.base))
        (map new (union_at h m)) ≡ insertion_flags (until h m) e
    carried_then =
        ap₂ (carried right)
        (ap (λ blocks. weave blocks (λ _. false) 0 (visible_at h e.base))
        (λ i g. ap₂ (put_between (length (e.added g))) (sym (over g).left) (sym (over g).rest) i))
        (flags_then h e.base new unseen m low ∙
        ap (λ blocks. weave blocks (λ _. false) 0 (visible_at h e.base))
        (λ i g. (ap (map new) (sym (take-append-drop (left_in_block (take m h.revisions) e.base (insertion_rank e) (block_then h e.base m g)) (block_then h e.base m g))) ∙
        map-append new (lefts_then g) (rights_then g)) i)) ∙
        carried-blocks new right (λ g. length (e.added g)) lefts_then rights_then (λ g. (over g).beside) 0 (visible_at h e.base) ∙
        sym (insertion_flags-until m low)

  -- over the insertions of the next revision
  pub insertion_flags-step : (m : ℕ) → e.base ≤ m →
      carried (goes_right h.revisions (insertion_rank e) (m + 1)) (insertion_flags (until h m) e) (insertions_of h (m + 1)) ≡ insertion_flags (until h (m + 1)) e
  insertion_flags-step m low =
      ap₂ (λ right flags. carried right flags (insertions_of h (m + 1))) (sym (goes_right-take h.revisions (m + 1) (insertion_rank e) (m + 1) (omega arith)))
      (insertion_flags-until m low ∙
      ap (λ blocks. weave blocks (λ _. false) 0 (visible_at h e.base))
      (λ i g. ap (put_in_block (take m h.revisions) e.base (insertion_rank e) (length (e.added g))) (block_then-before h e.base m low g) i)) ∙
      carried_then (m + 1) (omega (arith, low)) (is_by (m + 1)) (later_unseen h e.base m low) (goes_right (take (m + 1) h.revisions) (insertion_rank e) (m + 1))
      (λ g. left_in_block (take m h.revisions) e.base (insertion_rank e) (filter (λ t. not (is_by (m + 1) t)) (block_then h e.base (m + 1) g)))
      (λ g. IsOver-over (is_by (m + 1)) (goes_right (take (m + 1) h.revisions) (insertion_rank e) (m + 1)) (block_then h e.base (m + 1) g) _ _
      (step_then h e.base (insertion_rank e) m low (block_then h e.base (m + 1) g)
      (AllByRecursion-block (λ t. t.inserted ≤ m + 1) (is_visible h.revisions e.base) g (union_at h (m + 1)) (union_at-there h (m + 1)))))

  -- over what is dead at the base
  pub insertion_flags-base : {Z : Type 0} (zs : List Z) → length zs ≡ length (visible_at h e.base) →
      carried true (weave (λ g. replicate (length (e.added g)) true) (λ _. false) 0 zs) (hidden_then h e.base) ≡ insertion_flags (until h e.base) e
  insertion_flags-base zs as_many =
      ap (λ flags. carried true flags (hidden_then h e.base))
      (weave-len (λ g. replicate (length (e.added g)) true) (λ _. false) 0 zs (visible_at h e.base) as_many ∙
      ap (λ blocks. weave blocks (λ _. false) 0 (visible_at h e.base)) (λ i g. alone g i)) ∙
      carried_then e.base (omega arith) (is_hidden h e.base) (λ t is. ap not is) true (λ g. 0)
      (λ g. subst (IsOver (is_hidden h e.base) true (dead g) 0) (sym (left_in_block-early (take e.base h.revisions) e.base (insertion_rank e) (dead g)
      (AllByRecursion-block (λ t. nat_lt e.base t.inserted ≡ false) (is_visible h.revisions e.base) g (union_at h e.base) (all_early h e.base))))
      (IsOver-over (is_hidden h e.base) true (dead g) 0 (length (dead g)) (Over-new (is_hidden h e.base) true (dead g) 0 (length (dead g))
      (AllByRecursion-weaker (λ t. is_visible h.revisions e.base t ≡ false) (λ t. is_hidden h e.base t ≡ true) (λ t is. ap not is) (dead g)
      (block_fails (is_visible h.revisions e.base) g (union_at h e.base))) refl (λ _. refl) (λ left. absurd (both_ways true left refl)))))
    where
      dead : ℕ → List Tagged
      dead g = block_then h e.base e.base g

      alone : (g : ℕ) → replicate (length (e.added g)) true ≡
          put_between (length (e.added g)) (take 0 (filter (λ t. not (is_hidden h e.base t)) (dead g))) (drop 0 (filter (λ t. not (is_hidden h e.base t)) (dead g)))
      alone g =
          sym (append-nil (replicate (length (e.added g)) true)) ∙
          ap (λ xs. put_between (length (e.added g)) (take 0 xs) (drop 0 xs)) (sym (none_alive h e.base g))

-- ---- one insertion place

pub insertion_place-base : (h : History) (base : ℕ) (rank : Rank) (gap : ℕ) →
    insertion_place (until h base) base rank gap ≡ index_right_of (until h base) base gap
insertion_place-base h base rank gap =
    insertion_place-left (until h base) base rank gap ∙
    left_in_block-early (until h base).revisions base rank (take (index_right_of (until h base) base gap) (union_at h base))
    (AllByRecursion-take (λ t. nat_lt base t.inserted ≡ false) (index_right_of (until h base) base gap) (union_at h base) (all_early h base)) ∙
    length-left (until h base) base gap

module _ (h : History) (base : ℕ) (rank : Rank) (gap : ℕ) where
  -- what stands left of the gap, in the union after a revision
  abbrev index_then : ℕ → ℕ
  index_then m = nth_index (is_visible h.revisions base) gap (union_at h m)

  place_then : (m : ℕ) → base ≤ m →
      insertion_place (until h m) base rank gap ≡ left_in_block (take m h.revisions) base rank (take (index_then m) (union_at h m))
  place_then m low =
      insertion_place-left (until h m) base rank gap ∙
      ap (λ sight. left_in_block (take m h.revisions) base rank (take (nth_index sight gap (union_at h m)) (union_at h m))) (seen_then h base m low)

  -- ONE REVISION MORE: the place goes over what the revision inserted
  pub insertion_place-next : (m : ℕ) → base ≤ m →
      IsOver (is_by (m + 1)) (goes_right h.revisions rank (m + 1)) (union_at h (m + 1))
      (insertion_place (until h m) base rank gap) (insertion_place (until h (m + 1)) base rank gap)
  insertion_place-next m low =
      rw (
        place_then (m + 1) (omega (arith, low)),
        place_then m low,
        sym (union_at-before h m),
        take-nth_index-filter (is_visible h.revisions base)
            (λ t. not (is_by (m + 1) t)) (λ t is. not_from_false (is_by (m + 1) t) (later_unseen h base m low t is)) gap all,
        sym (goes_right-take h.revisions (m + 1) rank (m + 1) (omega arith)),
      )
      (IsOver-over (is_by (m + 1)) right all was is
      (subst (λ xs. Over (is_by (m + 1)) right xs was is) (take-append-drop (index_then (m + 1)) all)
      (Over-before (is_by (m + 1)) right left (drop (index_then (m + 1)) all) was is (starts_at (is_by (m + 1)) (is_visible h.revisions base) (later_unseen h base m low) gap all)
      (step_then h base rank m low left (AllByRecursion-take (λ t. t.inserted ≤ m + 1) (index_then (m + 1)) all (union_at-there h (m + 1)))))))
    where
      all : List Tagged
      all = union_at h (m + 1)

      left : List Tagged
      left = take (index_then (m + 1)) (union_at h (m + 1))

      right : Bool
      right = goes_right (take (m + 1) h.revisions) rank (m + 1)

      was : ℕ
      was = left_in_block (take m h.revisions) base rank (filter (λ t. not (is_by (m + 1) t)) left)

      is : ℕ
      is = left_in_block (take (m + 1) h.revisions) base rank left

-- ---- what a unit delta inserts and drops

dropped_flags-blocks : (keeps : ℕ → Bool) (from n : ℕ) →
    map (λ index. not (keeps index)) (range_with_len from n) ≡ weave (λ _. []) (λ g. not (keeps g)) from (range_with_len from n)
dropped_flags-blocks keeps from zero = refl
dropped_flags-blocks keeps from (suc n) = ap (λ bs. not (keeps from) ∷ bs) (dropped_flags-blocks keeps (from + 1) n)

-- what an edit against a base drops of the union after a revision
module _ (h : History) (base : ℕ) (keeps : ℕ → Bool) where
  abbrev pub dropped_then : ℕ → List Bool
  dropped_then m = weave (λ g. falses (block_then h base m g)) (λ g. not (keeps g)) 0 (visible_at h base)

  grown : (new : Tagged → Bool) (old : ℕ → List Tagged) (m : ℕ) → base ≤ m → ((t : Tagged) → is_visible h.revisions base t ≡ true → new t ≡ false) →
      ((g : ℕ) → old g ≡ filter (λ t. not (new t)) (block_then h base m g)) →
      expand (weave (λ g. falses (old g)) (λ g. not (keeps g)) 0 (visible_at h base)) (map new (union_at h m)) ≡ dropped_then m
  grown new old m low unseen olds =
      ap (expand (weave (λ g. falses (old g)) (λ g. not (keeps g)) 0 (visible_at h base))) (flags_then h base new unseen m low) ∙
      expand-blocks old (λ g. map new (block_then h base m g)) (λ g. not (keeps g)) (λ g. ap length (olds g) ∙ length-old (block_then h base m g)) 0 (visible_at h base) ∙
      ap (λ blocks. weave blocks (λ g. not (keeps g)) 0 (visible_at h base))
      (λ i g. falses-len (map new (block_then h base m g)) (block_then h base m g) (length-map (block_then h base m g) new) i)
    where
      length-old : (xs : List Tagged) → length (filter (λ t. not (new t)) xs) ≡ length (filter not (map new xs))
      length-old [] = refl
      length-old (x ∷ xs) =
          elim (new x) as (λ b. length (cond (not b) (x ∷ filter (λ t. not (new t)) xs) (filter (λ t. not (new t)) xs)) ≡ length (filter not (b ∷ map new xs))) [
            | true ↦ length-old xs
            | false ↦ ap suc (length-old xs)
          ]

  -- over the insertions of the next revision
  pub dropped_then-step : (m : ℕ) → base ≤ m → expand (dropped_then m) (insertions_of h (m + 1)) ≡ dropped_then (m + 1)
  dropped_then-step m low = grown (is_by (m + 1)) (block_then h base m) (m + 1) (omega (arith, low)) (later_unseen h base m low) (block_then-before h base m low)

  pub length-dropped_then : (m : ℕ) → base ≤ m → length (dropped_then m) ≡ length (union_at h m)
  length-dropped_then m low =
      ap length (sym (grown (λ _. false) (block_then h base m) m low (λ t is. refl) (λ g. sym (filter_all (λ _. true) (block_then h base m g) (every (block_then h base m g)))))) ∙
      length-expand_as false (dropped_then m) (map (λ _. false) (union_at h m)) ∙ length-map (union_at h m) (λ _. false)
    where
      every : (xs : List Tagged) → AllByRecursion (λ t. true ≡ true) xs
      every [] = tt
      every (x ∷ xs) = (refl, every xs)

pub dropped_then-base : (h : History) (base : ℕ) (units : UnitDelta) → units.base ≡ length (visible_at h base) →
    expand (dropped_flags units) (hidden_then h base) ≡ dropped_then h base (unit_keeps units) base
dropped_then-base h base units alive =
    ap (λ flags. expand flags (hidden_then h base))
    (dropped_flags-blocks (unit_keeps units) 0 units.base ∙
    weave-len (λ _. []) (λ g. not (unit_keeps units g)) 0 (range_with_len 0 units.base) (visible_at h base) (length-range_with_len 0 units.base ∙ alive)) ∙
    grown h base (unit_keeps units) (is_hidden h base) (λ _. []) base (omega arith) (λ t is. ap not is)
    (λ g. sym (none_alive h base g))

-- over the edit's own insertions
pub deletion_flags-until : (h : History) (e : PlainEdit) (m : ℕ) → e.base ≤ m →
    deletion_flags (until h m) e ≡ expand (dropped_then h e.base e.kept m) (insertion_flags (until h m) e)
deletion_flags-until h e m low =
    deletion_flags-blocks (until h m) e ∙
    ap (λ sight. weave (λ g. falses (put_in_block (take m h.revisions) e.base (insertion_rank e) (length (e.added g)) (block sight g (union_at h m))))
    (λ g. not (e.kept g)) 0 (filter sight (union_at h m))) (seen_then h e.base m low) ∙
    ap (weave (λ g. falses (put_then h e m g)) (λ g. not (e.kept g)) 0) (visible_then h e.base m low) ∙
    sym (ap (expand (dropped_then h e.base e.kept m)) (insertion_flags-until h e m low) ∙
    expand-blocks (block_then h e.base m) (put_then h e m) (λ g. not (e.kept g)) (λ g. outside (length (e.added g)) (block_then h e.base m g)) 0 (visible_at h e.base))
  where
    none_true : (n : ℕ) (bs : List Bool) → filter not (replicate n true ++ bs) ≡ filter not bs
    none_true zero bs = refl
    none_true (suc n) bs = none_true n bs

    all_false : (xs : List Tagged) (bs : List Bool) → length (filter not (falses xs ++ bs)) ≡ length xs + length (filter not bs)
    all_false [] bs = omega arith
    all_false (x ∷ xs) bs = omega (arith, all_false xs bs)

    outside : (many : ℕ) (xs : List Tagged) → length xs ≡ length (filter not (put_in_block (take m h.revisions) e.base (insertion_rank e) many xs))
    outside many xs =
        let left = left_part (take m h.revisions) e.base (insertion_rank e) xs in
        let right = right_part (take m h.revisions) e.base (insertion_rank e) xs in
        omega (
          arith,
          all_false left (replicate many true ++ falses right),
          ap length (none_true many (falses right)),
          all_false right [],
          ap (λ bs. length (filter not bs)) (append-nil (falses right)),
          length-append left right,
          ap length (take-append-drop (left_in_block (take m h.revisions) e.base (insertion_rank e) xs) xs),
        )

-- ---- the same history without its text

put_in_block-textless : (revisions : List Revision) (base : ℕ) (rank : Rank) (many : ℕ) (xs : List Tagged) →
    put_in_block revisions base rank many (map without_character xs) ≡ put_in_block revisions base rank many xs
put_in_block-textless revisions base rank many xs =
    ap (λ n. put_between many (take n (map without_character xs)) (drop n (map without_character xs)))
    (left_in_block-renamed revisions rank (λ _. 0) base xs) ∙
    ap₂ (λ left right. left ++ (replicate many true ++ right))
    (falses-len (take k (map without_character xs)) (take k xs) (ap length (take-map without_character k xs) ∙ length-map (take k xs) without_character))
    (falses-len (drop k (map without_character xs)) (drop k xs) (ap length (drop-map without_character k xs) ∙ length-map (drop k xs) without_character))
  where
    k : ℕ
    k = left_in_block revisions base rank xs

pub visible_at-textless : (h : History) (base : ℕ) → length (visible_at (without_text h) base) ≡ length (visible_at h base)
visible_at-textless h base = each h.characters
  where
    each : (xs : List Tagged) → length (filter (is_visible h.revisions base) (map without_character xs)) ≡ length (filter (is_visible h.revisions base) xs)
    each [] = refl
    each (x ∷ xs) =
        elim (is_visible h.revisions base x) as (λ b. length (cond b (without_character x ∷ filter (is_visible h.revisions base) (map without_character xs))
        (filter (is_visible h.revisions base) (map without_character xs))) ≡ length (cond b (x ∷ filter (is_visible h.revisions base) xs) (filter (is_visible h.revisions base) xs))) [
          | true ↦ ap suc (each xs)
          | false ↦ each xs
        ]

module _ (h : History) (e : PlainEdit) where
  put_textless : (g : ℕ) → put_in_block h.revisions e.base (insertion_rank e) (length (e.added g)) (block_at (without_text h) e.base g) ≡
      put_in_block h.revisions e.base (insertion_rank e) (length (e.added g)) (block_at h e.base g)
  put_textless g =
      ap (put_in_block h.revisions e.base (insertion_rank e) (length (e.added g))) (block-map (is_visible h.revisions e.base) without_character g h.characters) ∙
      put_in_block-textless h.revisions e.base (insertion_rank e) (length (e.added g)) (block_at h e.base g)

  pub insertion_flags-textless : insertion_flags (without_text h) e ≡ insertion_flags h e
  insertion_flags-textless =
      insertion_flags-blocks (without_text h) e ∙
      weave-len _ (λ _. false) 0 (visible_at (without_text h) e.base) (visible_at h e.base) (visible_at-textless h e.base) ∙
      ap (λ blocks. weave blocks (λ _. false) 0 (visible_at h e.base)) (λ i g. put_textless g i) ∙
      sym (insertion_flags-blocks h e)

  pub deletion_flags-textless : deletion_flags (without_text h) e ≡ deletion_flags h e
  deletion_flags-textless =
      deletion_flags-blocks (without_text h) e ∙
      weave-len _ (λ g. not (e.kept g)) 0 (visible_at (without_text h) e.base) (visible_at h e.base) (visible_at-textless h e.base) ∙
      ap (λ blocks. weave blocks (λ g. not (e.kept g)) 0 (visible_at h e.base)) (λ i g. ap falses (put_textless g) i) ∙
      sym (deletion_flags-blocks h e)
