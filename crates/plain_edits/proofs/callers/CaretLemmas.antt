-- Where a change takes a caret: the caret rule of histories, over what stays and what appears.
use Rattle.std.proofs.Common.{◌≡◌, ℕ, zero, suc, ◌+◌, ◌-◌, ◌≤◌, Bool, true, false, cond, List, [], ◌∷◌, ◌++◌, length, take, filter, refl, ap, ap₂, sym, ◌∙◌, arith}
use Rattle.std.specs.Prelude.{if◌then◌else◌}
use Rattle.std.specs.List.{count_by, sum_by, range_with_len, AllByRecursion}
use Rattle.std.proofs.lemmas.List.Sums.{sum_by-cons}
use Rattle.std.proofs.lemmas.List.{length-map}
use Rattle.plain_text.specs.Woven.{woven, nth_index}
use Rattle.plain_text.proofs.callers.ListLemmas.{filter-yes, filter-no, nth_index-here, nth_index-yes, nth_index-no, nth_index-le}
use Rattle.plain_edits.specs.History.{Tagged, Revision, History, head, is_there, is_visible, edit, undo, IsTaggedBy, IsSound}
use Rattle.plain_edits.specs.Edits.{PlainEdit, edited, inserted_at, is_deleted_by, with_deletion}
use Rattle.plain_edits.specs.Place.{index_right_of}
use Rattle.plain_edits.specs.Change.{passes_at, block, change_keeps, change_adds}
use Rattle.plain_edits.specs.Caret.{index_after, moved_caret, mapped_gap}
use Rattle.plain_edits.specs.HistorySteps.{Step, edits, undoes, collects, after_step}
use Rattle.plain_edits.proofs.callers.HistoryLemmas.{AllByRecursion-inserted_at, is_visible-append, is_visible-deleted_later, is_visible-later}
use Rattle.plain_edits.proofs.callers.ChangeLemmas.{block-here, block-yes, block-first, block-no}
use Rattle.plain_edits.proofs.callers.StepLemmas.{nth_index-none, nth_index-past_front, nth_index-all, edited_character, all_there, none_there, edited_is_there}

-- ---- sums over numbers that follow one another

pub sum-first : (f : ℕ → ℕ) (from n : ℕ) → sum_by f (range_with_len from (n + 1)) ≡ f from + sum_by f (range_with_len (from + 1) n)
sum-first f from n =
    let next : n + 1 ≡ suc n = omega arith in
    ap (λ k. sum_by f (range_with_len from k)) next ∙ sum_by-cons f from (range_with_len (from + 1) n)

pub sum-same : (f g : ℕ → ℕ) (from n : ℕ) → ((k : ℕ) → from ≤ k → f k ≡ g k) → sum_by f (range_with_len from n) ≡ sum_by g (range_with_len from n)
sum-same f g from zero same = refl
sum-same f g from (suc n) same =
    omega (
      arith,
      sum_by-cons f from (range_with_len (from + 1) n),
      sum_by-cons g from (range_with_len (from + 1) n),
      same from (omega arith),
      sum-same f g (from + 1) n (λ k above. same k (omega (arith, above))),
    )

pub sum-none : (f : ℕ → ℕ) (from n : ℕ) → ((k : ℕ) → from ≤ k → f k ≡ 0) → sum_by f (range_with_len from n) ≡ 0
sum-none f from zero none = refl
sum-none f from (suc n) none =
    omega (
      arith,
      sum_by-cons f from (range_with_len (from + 1) n),
      none from (omega arith),
      sum-none f (from + 1) n (λ k above. none k (omega (arith, above))),
    )

pub sum-last : (f : ℕ → ℕ) (from n : ℕ) → sum_by f (range_with_len from (n + 1)) ≡ sum_by f (range_with_len from n) + f (from + n)
sum-last f from zero = omega (arith, sum_by-cons f from [], ap f (add-zero from))
  where
    add-zero : (k : ℕ) → k + 0 ≡ k
    add-zero k = omega arith
sum-last f from (suc n) =
    let same : from + 1 + n ≡ from + suc n = omega arith in
    let longer : suc n + 1 ≡ suc (n + 1) = omega arith in
    omega (
      arith,
      ap (λ k. sum_by f (range_with_len from k)) longer,
      sum_by-cons f from (range_with_len (from + 1) (n + 1)),
      sum_by-cons f from (range_with_len (from + 1) n),
      sum-last f (from + 1) n,
      ap f same,
    )

-- ---- the caret rule over two tests

abbrev pub bit : Bool → ℕ
bit b = cond b 1 0

-- what is kept and how much is added left of a gap, counted from a gap on
abbrev pub count_to : (ℕ → Bool) → (ℕ → ℕ) → ℕ → ℕ → ℕ
count_to kept added from gap = count_by kept (range_with_len from gap) + sum_by added (range_with_len from (gap + 1))

module _ {X : Type 0} (p q : X → Bool) where
  -- how many of the first items pass the second test
  abbrev pub left : ℕ → List X → ℕ
  left n xs = count_by q (take n xs)

  left-cons : (n : ℕ) (x : X) (xs : List X) → left (n + 1) (x ∷ xs) ≡ bit (q x) + left n xs
  left-cons n x xs =
      let next : n + 1 ≡ suc n = omega arith in
      ap (λ k. left k (x ∷ xs)) next ∙ sum_by-cons (λ y. cond (q y) 1 0) x (take n xs)

  -- what is kept and how much is added, from a number on, is what stays and what appears
  pub record IsCaretChange (kept : ℕ → Bool) (added : ℕ → ℕ) (from : ℕ) (xs : List X) : Type 0 where
    pub keeps : (i : ℕ) → kept (from + i) ≡ passes_at q i (filter p xs)
    pub adds : (g : ℕ) → added (from + g) ≡ length (filter q (block p g xs))

  filter-length : (x : X) (xs : List X) → length (filter q (x ∷ xs)) ≡ bit (q x) + length (filter q xs)
  filter-length x xs = by (q x)
    where
      by : (b : Bool) → length (cond b (x ∷ filter q xs) (filter q xs)) ≡ bit b + length (filter q xs)
      by true = omega arith
      by false = omega arith

  module _ (x : X) (xs : List X) (holds : (kept : ℕ → Bool) (added : ℕ → ℕ) (from gap : ℕ) → IsCaretChange kept added from xs →
      count_to kept added from gap ≡ left (nth_index p gap xs) xs)
      (kept : ℕ → Bool) (added : ℕ → ℕ) (from : ℕ) (change : IsCaretChange kept added from (x ∷ xs)) where
    first_added : added from ≡ length (filter q (block p 0 (x ∷ xs)))
    first_added = (let none : from ≡ from + 0 = omega arith in ap added none) ∙ change.adds 0

    -- the first item passes
    seen : p x ≡ true → (gap : ℕ) → count_to kept added from gap ≡ left (nth_index p gap (x ∷ xs)) (x ∷ xs)
    seen passes zero =
        omega (
          arith,
          sum_by-cons added from [],
          first_added,
          ap (λ ys. length (filter q ys)) (block-here p x xs passes),
          ap (λ n. left n (x ∷ xs)) (nth_index-here p x xs passes),
        )
    seen passes (suc n) =
        let stays : bit (kept from) ≡ bit (q x) =
        ap bit ((let none : from ≡ from + 0 = omega arith in ap kept none) ∙ change.keeps 0 ∙ ap (passes_at q 0) (filter-yes p x xs passes)) in
        let rest : count_to kept added (from + 1) n ≡ left (nth_index p n xs) xs = holds kept added (from + 1) n (record {
          keeps = λ i. (let next : from + 1 + i ≡ from + suc i = omega arith in ap kept next) ∙ change.keeps (suc i) ∙
              ap (passes_at q (suc i)) (filter-yes p x xs passes);
          adds = λ g. (let next : from + 1 + g ≡ from + suc g = omega arith in ap added next) ∙ change.adds (suc g) ∙
              ap (λ ys. length (filter q ys)) (block-yes p x xs g passes);
        }) in
        let next : suc n ≡ n + 1 = omega arith in
        omega (
          arith,
          stays,
          rest,
          sum_by-cons (λ k. cond (kept k) 1 0) from (range_with_len (from + 1) n),
          sum-first added from (suc n),
          ap (λ k. sum_by added (range_with_len (from + 1) k)) next,
          first_added,
          ap (λ ys. length (filter q ys)) (block-here p x xs passes),
          left-cons (nth_index p n xs) x xs,
          ap (λ k. left k (x ∷ xs)) (nth_index-yes p n x xs passes),
        )

    -- it fails
    later : ℕ → ℕ
    later k = length (filter q (block p (k - from) xs))

    unseen : p x ≡ false → (gap : ℕ) → count_to kept added from gap ≡ left (nth_index p gap (x ∷ xs)) (x ∷ xs)
    unfolding later
    unseen fails gap =
        let rest : count_to kept later from gap ≡ left (nth_index p gap xs) xs = holds kept later from gap (record {
          keeps = λ i. change.keeps i ∙ ap (passes_at q i) (filter-no p x xs fails);
          adds = λ g. (let back : from + g - from ≡ g = omega arith in ap (λ n. length (filter q (block p n xs))) back);
        }) in
        let here : later from ≡ length (filter q (block p 0 xs)) =
        (let back : from - from ≡ 0 = omega arith in ap (λ n. length (filter q (block p n xs))) back) in
        omega (
          arith,
          rest,
          here,
          sum-first added from gap,
          sum-first later from gap,
          first_added,
          ap (λ ys. length (filter q ys)) (block-first p x xs fails),
          filter-length x (block p 0 xs),
          sum-same added later (from + 1) gap after,
          left-cons (nth_index p gap xs) x xs,
          ap (λ k. left k (x ∷ xs)) (nth_index-no p gap x xs fails),
        )
      where
        after : (k : ℕ) → from + 1 ≤ k → added k ≡ length (filter q (block p (k - from) xs))
        after k above =
            let at_gap : k ≡ from + suc (k - from - 1) = omega (arith, above) in
            let gap : suc (k - from - 1) ≡ k - from = omega (arith, above) in
            ap added at_gap ∙ change.adds (suc (k - from - 1)) ∙
            ap (λ ys. length (filter q ys)) (block-no p x xs (k - from - 1) fails ∙ ap (λ n. block p n xs) gap)

  pub caret_left : (xs : List X) (kept : ℕ → Bool) (added : ℕ → ℕ) (from gap : ℕ) → IsCaretChange kept added from xs →
      count_to kept added from gap ≡ left (nth_index p gap xs) xs
  caret_left [] kept added from gap change =
      omega (
        arith,
        sum-none (λ k. cond (kept k) 1 0) from gap (λ k above. ap bit (at kept k above ∙ change.keeps (k - from))),
        sum-none added from (gap + 1) (λ k above. at added k above ∙ change.adds (k - from)),
      )
    where
      at : {Y : Type 0} (f : ℕ → Y) (k : ℕ) → from ≤ k → f k ≡ f (from + (k - from))
      at f k above = let same : k ≡ from + (k - from) = omega (arith, above) in ap f same
  caret_left (x ∷ xs) kept added from gap change =
      by (p x) refl (seen x xs (caret_left xs) kept added from change) (unseen x xs (caret_left xs) kept added from change)
    where
      by : (b : Bool) → p x ≡ b →
          (p x ≡ true → (g : ℕ) → count_to kept added from g ≡ left (nth_index p g (x ∷ xs)) (x ∷ xs)) →
          (p x ≡ false → (g : ℕ) → count_to kept added from g ≡ left (nth_index p g (x ∷ xs)) (x ∷ xs)) →
          count_to kept added from gap ≡ left (nth_index p gap (x ∷ xs)) (x ∷ xs)
      by true is when_seen when_unseen = when_seen is gap
      by false is when_seen when_unseen = when_unseen is gap

  -- one item more: the one right of the caret, where it stays
  pub left_more : (xs : List X) (gap : ℕ) → left (nth_index p gap xs + 1) xs ≡ left (nth_index p gap xs) xs + bit (passes_at q gap (filter p xs))
  left_more [] gap = omega arith
  left_more (x ∷ xs) gap = by (p x) refl gap (left_more xs)
    where
      by : (b : Bool) → p x ≡ b → (g : ℕ) →
          ((n : ℕ) → left (nth_index p n xs + 1) xs ≡ left (nth_index p n xs) xs + bit (passes_at q n (filter p xs))) →
          left (nth_index p g (x ∷ xs) + 1) (x ∷ xs) ≡ left (nth_index p g (x ∷ xs)) (x ∷ xs) + bit (passes_at q g (filter p (x ∷ xs)))
      by true passes zero more =
          omega (
            arith,
            left-cons 0 x xs,
            ap (λ n. left (n + 1) (x ∷ xs)) (nth_index-here p x xs passes),
            ap (λ n. left n (x ∷ xs)) (nth_index-here p x xs passes),
            ap (λ ys. bit (passes_at q 0 ys)) (filter-yes p x xs passes),
          )
      by true passes (suc n) more =
          omega (
            arith,
            left-cons (nth_index p n xs + 1) x xs,
            left-cons (nth_index p n xs) x xs,
            more n,
            ap (λ k. left (k + 1) (x ∷ xs)) (nth_index-yes p n x xs passes),
            ap (λ k. left k (x ∷ xs)) (nth_index-yes p n x xs passes),
            ap (λ ys. bit (passes_at q (suc n) ys)) (filter-yes p x xs passes),
          )
      by false fails g more =
          omega (
            arith,
            left-cons (nth_index p g xs + 1) x xs,
            left-cons (nth_index p g xs) x xs,
            more g,
            ap (λ k. left (k + 1) (x ∷ xs)) (nth_index-no p g x xs fails),
            ap (λ k. left k (x ∷ xs)) (nth_index-no p g x xs fails),
            ap (λ ys. bit (passes_at q g ys)) (filter-no p x xs fails),
          )

-- ---- the caret rule of histories

-- among items of which those between fail both tests, the index by one test of what the other test found before
nth_index-woven : {X Y : Type 0} (Q : X → Type 0) (r p : Y → Bool) (q : X → Bool) (between : ℕ → List Y) (f : ℕ → X → Y) →
    ((i : ℕ) → AllByRecursion (λ y. r y ≡ false) (between i)) → ((i : ℕ) → AllByRecursion (λ y. p y ≡ false) (between i)) →
    ((i : ℕ) (x : X) → Q x → r (f i x) ≡ true) → ((i : ℕ) (x : X) → Q x → p (f i x) ≡ q x) → (index : ℕ) (xs : List X) → AllByRecursion Q xs → (gap : ℕ) →
    nth_index r (nth_index q gap xs) (woven between (λ i x. f i x ∷ []) index xs) ≡ nth_index p gap (woven between (λ i x. f i x ∷ []) index xs)
nth_index-woven Q r p q between f no_r no_p some same index [] all gap =
    nth_index-none r 0 (between index) (no_r index) ∙ sym (nth_index-none p gap (between index) (no_p index))
nth_index-woven {Y = Y} Q r p q between f no_r no_p some same index (x ∷ xs) all gap =
    nth_index-past_front r (nth_index q gap (x ∷ xs)) (between index) (f index x ∷ rest) (no_r index) ∙
    ap (λ n. length (between index) + n)
    (here gap (λ k. nth_index-woven Q r p q between f no_r no_p some same (index + 1) xs all.1 k)) ∙
    sym (nth_index-past_front p gap (between index) (f index x ∷ rest) (no_p index))
  where
    rest : List Y
    rest = woven between (λ i z. f i z ∷ []) (index + 1) xs

    passing : r (f index x) ≡ true
    passing = some index x all.0

    passes : (k : ℕ) → nth_index r (k + 1) (f index x ∷ rest) ≡ nth_index r k rest + 1
    passes k =
        (let next : k + 1 ≡ suc k = omega arith in ap (λ n. nth_index r n (f index x ∷ rest)) next) ∙
        nth_index-yes r k (f index x) rest passing

    first : (b : Bool) → nth_index r (nth_index q 0 xs) rest ≡ nth_index p 0 rest →
        nth_index r (if b then 0 else nth_index q 0 xs + 1) (f index x ∷ rest) ≡ (if b then 0 else nth_index p 0 rest + 1)
    first true more = nth_index-here r (f index x) rest passing
    first false more = passes (nth_index q 0 xs) ∙ ap (λ n. n + 1) more

    here : (gap : ℕ) → ((k : ℕ) → nth_index r (nth_index q k xs) rest ≡ nth_index p k rest) →
        nth_index r (nth_index q gap (x ∷ xs)) (f index x ∷ rest) ≡ nth_index p gap (f index x ∷ rest)
    here zero more = first (q x) (more 0) ∙ ap (λ b. if b then 0 else nth_index p 0 rest + 1) (sym (same index x all.0))
    here (suc n) more =
        passes (nth_index q (if q x then n else suc n) xs) ∙ ap (λ k. k + 1) (more (if q x then n else suc n)) ∙
        ap (λ b. nth_index p (if b then n else suc n) rest + 1) (sym (same index x all.0))

-- the character right of a gap, by its index after a step
abbrev pub FindsRightOf : History → History → Type 0
FindsRightOf before after = (gap : ℕ) →
    index_after before after (index_right_of before (head before) gap) ≡ nth_index (is_visible after.revisions (head before)) gap after.characters

pub finds_right_of-edited : (history : History) (e : PlainEdit) → IsSound history → FindsRightOf history (edited history e)
finds_right_of-edited history e sound gap =
    nth_index-woven (IsTaggedBy (head history)) (is_there (head history)) was (is_visible history.revisions (head history))
    (inserted_at history e) (edited_character history e) (none_there history e)
    (AllByRecursion-inserted_at (λ tagged. was tagged ≡ false) history e (λ c. is_visible-later revisions (head history)
    (record { character = c; inserted = head history + 1; deleted = [] }) (omega arith)))
    (edited_is_there history e) (λ i tagged is. by tagged is (is_deleted_by history e i tagged)) 0 history.characters sound gap
  where
    revisions : List Revision
    revisions = history.revisions ++ edit e.base e.group e.priority e.author ∷ []

    was : Tagged → Bool
    was = is_visible revisions (head history)

    same : (tagged : Tagged) → IsTaggedBy (head history) tagged → was tagged ≡ is_visible history.revisions (head history) tagged
    same tagged is = is_visible-append history.revisions (edit e.base e.group e.priority e.author ∷ []) (head history) tagged (omega arith) is

    by : (tagged : Tagged) → IsTaggedBy (head history) tagged → (b : Bool) →
        was (if b then with_deletion (head history + 1) tagged else tagged) ≡ is_visible history.revisions (head history) tagged
    by tagged is true = is_visible-deleted_later revisions (head history) (head history + 1) tagged (omega arith) ∙ same tagged is
    by tagged is false = same tagged is

-- two tests that agree find the same
pub nth_index-same : {X : Type 0} (Q : X → Type 0) (p q : X → Bool) → ((x : X) → Q x → p x ≡ q x) → (n : ℕ) (xs : List X) → AllByRecursion Q xs →
    nth_index p n xs ≡ nth_index q n xs
nth_index-same Q p q agree n [] each = refl
nth_index-same Q p q agree zero (x ∷ xs) each =
    ap₂ (λ b n. if b then 0 else n + 1) (agree x each.0) (nth_index-same Q p q agree 0 xs each.1)
nth_index-same Q p q agree (suc n) (x ∷ xs) each =
    ap (λ b. nth_index p (if b then n else suc n) xs + 1) (agree x each.0) ∙
    ap (λ k. k + 1) (nth_index-same Q p q agree (if q x then n else suc n) xs each.1)

-- where the list of characters stays, and what was visible at the head before
finds_right_of-same : (before after : History) → after.characters ≡ before.characters → IsSound before →
    ((tagged : Tagged) → IsTaggedBy (head before) tagged →
    is_visible after.revisions (head before) tagged ≡ is_visible before.revisions (head before) tagged) → FindsRightOf before after
finds_right_of-same before after same sound alike gap =
    ap (nth_index (is_there (head before)) right) same ∙
    nth_index-all (is_there (head before)) right before.characters (all_there before sound)
    (nth_index-le (is_visible before.revisions (head before)) gap before.characters) ∙
    sym (nth_index-same (IsTaggedBy (head before)) (is_visible after.revisions (head before)) (is_visible before.revisions (head before)) alike gap
    before.characters sound) ∙ ap (nth_index (is_visible after.revisions (head before)) gap) (sym same)
  where
    right : ℕ
    right = nth_index (is_visible before.revisions (head before)) gap before.characters

pub finds_right_of-after_step : (history : History) (step : Step) → IsSound history → FindsRightOf history (after_step history step)
finds_right_of-after_step history (edits e) sound = finds_right_of-edited history e sound
finds_right_of-after_step history (undoes groups) sound =
    finds_right_of-same history (after_step history (undoes groups)) refl sound
    (λ tagged is. is_visible-append history.revisions (undo groups ∷ []) (head history) tagged (omega arith) is)
finds_right_of-after_step history (collects floor groups) sound =
    finds_right_of-same history (after_step history (collects floor groups)) refl sound (λ tagged is. refl)

-- OVER A CHANGE the caret rule of edits is that of histories
module _ (before after : History) (finds : FindsRightOf before after) where
  abbrev was : Tagged → Bool
  was = is_visible after.revisions (head before)

  abbrev now : Tagged → Bool
  now = is_visible after.revisions (head after)

  change : IsCaretChange was now (change_keeps after (head before) (head after)) (λ g. length (change_adds after (head before) (head after) g)) 0 after.characters
  change = record {
    keeps = λ i. let none : 0 + i ≡ i = omega arith in ap (change_keeps after (head before) (head after)) none;
    adds = λ g. let none : 0 + g ≡ g = omega arith in
        ap (λ n. length (change_adds after (head before) (head after) n)) none ∙
        length-map (filter now (block was g after.characters)) (λ tagged. tagged.character);
  }

  pub moved_caret-change : (stays_left : Bool) (gap : ℕ) → moved_caret before after stays_left gap ≡
      mapped_gap (change_keeps after (head before) (head after)) (change_adds after (head before) (head after)) stays_left gap
  moved_caret-change false gap =
      ap (λ n. left was now n after.characters) (finds gap) ∙
      sym (caret_left was now after.characters (change_keeps after (head before) (head after))
      (λ g. length (change_adds after (head before) (head after) g)) 0 gap change)
  moved_caret-change true zero = refl
  moved_caret-change true (suc gap) =
      omega (
        arith,
        sum-last (λ k. cond (change_keeps after (head before) (head after) k) 1 0) 0 gap,
        longer (λ g. length (change_adds after (head before) (head after) g)),
        longer (λ k. cond (change_keeps after (head before) (head after) k) 1 0),
        caret_left was now after.characters (change_keeps after (head before) (head after))
            (λ g. length (change_adds after (head before) (head after) g)) 0 gap change,
        left_more was now after.characters gap,
        ap (λ n. left was now (n + 1) after.characters) (finds gap),
        ap bit (change.keeps gap),
      )
    where
      longer : (f : ℕ → ℕ) → sum_by f (range_with_len 0 (gap + 1)) ≡ sum_by f (range_with_len 0 (suc gap))
      longer f =
          let next : gap + 1 ≡ suc gap = omega arith in
          ap (λ k. sum_by f (range_with_len 0 k)) next

pub moved_caret-after_step : (history : History) (step : Step) (stays_left : Bool) (gap : ℕ) → IsSound history →
    moved_caret history (after_step history step) stays_left gap ≡
    mapped_gap (change_keeps (after_step history step) (head history) (head (after_step history step)))
    (change_adds (after_step history step) (head history) (head (after_step history step))) stays_left gap
moved_caret-after_step history step stays_left gap sound =
    moved_caret-change history (after_step history step) (finds_right_of-after_step history step sound) stays_left gap
