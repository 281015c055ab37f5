-- A run, cut where its eldest edit decides: at the last character of that edit, or at the first one.
use Rattle.std.proofs.Common.{◌≡◌, ◌≢◌, ℕ, zero, suc, ◌+◌, ◌-◌, ◌<◌, ◌≤◌, min, Bool, true, false, cond, not, ◌⊎◌, inl, inr, if◌then◌else◌, nat_lt, ◌==◌, List, [], ◌∷◌, ◌++◌, length, map, take, drop, reverse, filter, refl, ap, sym, subst, ◌∙◌, arith, one-add, append_assoc, length-append, length-drop}
use Rattle.std.specs.List.{AllByRecursion, prefix_len, suffix_len, before_first, after_last, position_or_len}
use Rattle.std.proofs.Math.Seq.{drop-append-add}
use Rattle.std.proofs.lemmas.Bool.{eqb-true, eqb-false, eq-eqb, not-true, not-false, not_from_true, not_from_false}
use Rattle.std.proofs.lemmas.List.{map-append, length-map, reverse-append, length-reverse}
use Rattle.std.proofs.lemmas.List.Folds.{prefix_len-append}
use Rattle.std.proofs.lemmas.List.Elements.{filter-append, All-filter, All-from_recursion, recursion_from_All}
use Rattle.std.proofs.lemmas.List.Sums.{suffix_len_is, suffix_len-le-length}
use Rattle.plain_text.proofs.callers.ListLemmas.{AllByRecursion-weaker, filter-yes}
use Rattle.plain_edits.specs.declared.rank.Rank.{Rank}
use Rattle.plain_edits.specs.History.{Tagged, Revision, History}
use Rattle.plain_edits.specs.Place.{eldest, is_by, goes_right, index_right_of, left_in_run, insertion_place}
use Rattle.plain_edits.specs.Blocks.{older_len, left_in_block}
use Rattle.plain_edits.proofs.callers.PlaceLemmas.{suffix_len_none, left_in_run-le, length-left}

-- ---- a list, cut at an item that passes

pub record LastCut {X : Type 0} (p : X → Bool) (xs : List X) : Type 0 where
  pub front : List X
  pub item : X
  pub back : List X
  pub whole : xs ≡ front ++ item ∷ back
  pub passes : p item ≡ true
  pub none : AllByRecursion (λ x. p x ≡ false) back

pub record FirstCut {X : Type 0} (p : X → Bool) (xs : List X) : Type 0 where
  pub front : List X
  pub item : X
  pub back : List X
  pub whole : xs ≡ front ++ item ∷ back
  pub passes : p item ≡ true
  pub none : AllByRecursion (λ x. p x ≡ false) front

module _ {X : Type 0} (p : X → Bool) where
  -- the last item that passes, or none does
  pub last_cut : (xs : List X) → LastCut p xs ⊎ AllByRecursion (λ x. p x ≡ false) xs
  last_cut [] = inr tt
  last_cut (x ∷ xs) =
      elim (last_cut xs) [
        | inl cut ↦
            inl (record {
              front = x ∷ cut.front;
              item = cut.item;
              back = cut.back;
              whole = ap (λ ys. x ∷ ys) cut.whole;
              passes = cut.passes;
              none = cut.none;
            })
        | inr others ↦
            elim (p x) as (λ b. p x ≡ b → LastCut p (x ∷ xs) ⊎ AllByRecursion (λ y. p y ≡ false) (x ∷ xs)) [
              | true ↦ λ passes. inl (record { front = []; item = x; back = xs; whole = refl; passes = passes; none = others })
              | false ↦ λ fails. inr (fails, others)
            ] refl
      ]

  -- the first item that passes, or none does
  pub first_cut : (xs : List X) → FirstCut p xs ⊎ AllByRecursion (λ x. p x ≡ false) xs
  first_cut [] = inr tt
  first_cut (x ∷ xs) =
      elim (p x) as (λ b. p x ≡ b → FirstCut p (x ∷ xs) ⊎ AllByRecursion (λ y. p y ≡ false) (x ∷ xs)) [
        | true ↦ λ passes. inl (record { front = []; item = x; back = xs; whole = refl; passes = passes; none = tt })
        | false ↦ λ fails.
            elim (first_cut xs) [
              | inl cut ↦
                  inl (record {
                    front = x ∷ cut.front;
                    item = cut.item;
                    back = cut.back;
                    whole = ap (λ ys. x ∷ ys) cut.whole;
                    passes = cut.passes;
                    none = (fails, cut.none);
                  })
              | inr others ↦ inr (fails, others)
            ]
      ] refl

  -- the items that pass behind the last one that fails
  pub suffix_len-all : (xs : List X) → AllByRecursion (λ x. p x ≡ true) xs → suffix_len p xs ≡ length xs
  suffix_len-all [] each = refl
  suffix_len-all (x ∷ xs) each =
      suffix_len_is p (x ∷ xs) 0 x (omega arith) (λ k low high. All-from_recursion (λ y. p y ≡ true) (x ∷ xs) each k x high) (λ some. absurd (omega arith)) ∙
      omega arith

  suffix_len-parts : (xs ys : List X) → suffix_len p xs ≡ 0 → AllByRecursion (λ y. p y ≡ true) ys → suffix_len p (xs ++ ys) ≡ length ys
  suffix_len-parts xs ys none each =
      ap (prefix_len p) (reverse-append xs ys) ∙ prefix_len-append p (reverse ys) (reverse xs) ∙
      either (prefix_len p (reverse ys) == length (reverse ys))
    where
      either : (b : Bool) → cond b (length (reverse ys) + prefix_len p (reverse xs)) (prefix_len p (reverse ys)) ≡ length ys
      either true = omega (arith, length-reverse ys, none)
      either false = suffix_len-all ys each

  suffix_len-cut : (front : List X) (x : X) (back : List X) → p x ≡ false → AllByRecursion (λ y. p y ≡ true) back →
      suffix_len p (front ++ x ∷ back) ≡ length back
  suffix_len-cut front x back fails each =
      ap (suffix_len p) (sym (append_assoc front (x ∷ []) back)) ∙
      suffix_len-parts (front ++ x ∷ []) back
      (ap (prefix_len p) (reverse-append front (x ∷ [])) ∙ ap (λ b. cond b (1 + prefix_len p (reverse front)) 0) fails) each

  drop-suffix_len-cut : (front : List X) (x : X) (back : List X) → p x ≡ false → AllByRecursion (λ y. p y ≡ true) back →
      drop (length (front ++ x ∷ back) - suffix_len p (front ++ x ∷ back)) (front ++ x ∷ back) ≡ back
  drop-suffix_len-cut front x back fails each =
      let count : length (front ++ x ∷ back) - suffix_len p (front ++ x ∷ back) ≡ length front + 1 =
      omega (arith, suffix_len-cut front x back fails each, length-append front (x ∷ back)) in
      ap (λ n. drop n (front ++ x ∷ back)) count ∙ drop-append-add front (x ∷ back) 1

-- what stands before the first item that passes, and behind the last one
module _ {X : Type 0} (p : X → Bool) where
  pub before_first-cut : (front : List X) (x : X) (back : List X) → p x ≡ true → AllByRecursion (λ y. p y ≡ false) front →
      before_first p (front ++ x ∷ back) ≡ front
  before_first-cut [] x back passes none =
      ap (λ b. take (cond (not b) (1 + position_or_len p back) 0) (x ∷ back)) passes
  before_first-cut (y ∷ front) x back passes none =
      let rest : List X = front ++ x ∷ back in
      ap (λ b. take (cond (not b) (1 + position_or_len p rest) 0) (y ∷ rest)) none.0 ∙
      ap (λ n. take n (y ∷ rest)) (one-add (position_or_len p rest)) ∙
      ap (λ ys. y ∷ ys) (before_first-cut front x back passes none.1)

  pub after_last-cut : (front : List X) (x : X) (back : List X) → p x ≡ true → AllByRecursion (λ y. p y ≡ false) back →
      after_last p (front ++ x ∷ back) ≡ back
  after_last-cut front x back passes none =
      drop-suffix_len-cut (λ y. not (p y)) front x back (not_from_true (p x) passes)
      (AllByRecursion-weaker (λ y. p y ≡ false) (λ y. not (p y) ≡ true) (λ y fails. not_from_false (p y) fails) back none)

pub AllByRecursion-parts : {X : Type 0} (P : X → Type 0) (xs ys : List X) → AllByRecursion P (xs ++ ys) →
    AllByRecursion P xs × AllByRecursion P ys
AllByRecursion-parts P [] ys each = (tt, each)
AllByRecursion-parts P (x ∷ xs) ys each =
    let rest = AllByRecursion-parts P xs ys each.1 in ((each.0, rest.0), rest.1)

pub filter-cut : {X : Type 0} (q : X → Bool) (front : List X) (x : X) (back : List X) → q x ≡ true →
    filter q (front ++ x ∷ back) ≡ filter q front ++ x ∷ filter q back
filter-cut q front x back passes = filter-append q front (x ∷ back) ∙ ap (λ ys. filter q front ++ ys) (filter-yes q x back passes)

pub AllByRecursion-filter : {X : Type 0} (P : X → Type 0) (q : X → Bool) (xs : List X) → AllByRecursion P xs → AllByRecursion P (filter q xs)
AllByRecursion-filter P q xs each = recursion_from_All P (filter q xs) (All-filter q P xs (All-from_recursion P xs each))

pub AllByRecursion-to_map : {X Y : Type 0} (P : Y → Type 0) (f : X → Y) (xs : List X) → AllByRecursion (λ x. P (f x)) xs → AllByRecursion P (map f xs)
AllByRecursion-to_map P f [] each = tt
AllByRecursion-to_map P f (x ∷ xs) each = (each.0, AllByRecursion-to_map P f xs each.1)

-- ---- the eldest of a run

eldest-cons : (tagged : Tagged) (run : List Tagged) → 0 < length run → eldest (tagged ∷ run) ≡ min tagged.inserted (eldest run)
eldest-cons tagged [] some = absurd (omega arith)
eldest-cons tagged (more ∷ run) some = refl

pub eldest-least : (run : List Tagged) → AllByRecursion (λ tagged. eldest run ≤ tagged.inserted) run
eldest-least [] = tt
eldest-least (tagged ∷ []) = (omega arith, tt)
eldest-least (tagged ∷ more ∷ run) = (
  omega arith,
  AllByRecursion-weaker (λ t. eldest (more ∷ run) ≤ t.inserted) (λ t. eldest (tagged ∷ more ∷ run) ≤ t.inserted) (λ t least. omega (arith, least))
      (more ∷ run) (eldest-least (more ∷ run)),
)

eldest-ge : (least : ℕ) (run : List Tagged) → 0 < length run → AllByRecursion (λ tagged. least ≤ tagged.inserted) run → least ≤ eldest run
eldest-ge least [] some each = absurd (omega arith)
eldest-ge least (tagged ∷ []) some each = each.0
eldest-ge least (tagged ∷ more ∷ run) some each = omega (arith, each.0, eldest-ge least (more ∷ run) (omega arith) each.1)

-- a character with none before it is of the eldest
pub eldest-cut : (front : List Tagged) (x : Tagged) (back : List Tagged) → AllByRecursion (λ tagged. x.inserted ≤ tagged.inserted) (front ++ x ∷ back) →
    eldest (front ++ x ∷ back) ≡ x.inserted
eldest-cut [] x [] least = refl
eldest-cut [] x (y ∷ back) least = omega (arith, eldest-ge x.inserted (y ∷ back) (omega arith) least.1)
eldest-cut (y ∷ front) x back least =
    eldest-cons y (front ++ x ∷ back) (omega (arith, length-append front (x ∷ back))) ∙ omega (arith, least.0, eldest-cut front x back least.1)

pub eldest-there : (run : List Tagged) (e : ℕ) → 0 < length run → eldest run ≡ e → AllByRecursion (λ tagged. is_by e tagged ≡ false) run → ⊥
eldest-there [] e some is none = absurd (omega arith)
eldest-there (tagged ∷ []) e some is none = eqb-false tagged.inserted e none.0 is
eldest-there (tagged ∷ more ∷ run) e some is none =
    let differs : tagged.inserted ≢ e = eqb-false tagged.inserted e none.0 in
    eldest-there (more ∷ run) e (omega arith) (omega (arith, is)) none.1

-- ---- how many characters of a run stay left

module _ (revisions : List Revision) (rank : Rank) where
  pub left_in_run-nil : (bound : ℕ) → left_in_run revisions rank bound [] ≡ 0
  left_in_run-nil zero = refl
  left_in_run-nil (suc bound) = refl

  left_in_run-suc : (bound e : ℕ) (run : List Tagged) → eldest run ≡ e → 0 < length run →
      left_in_run revisions rank (suc bound) run ≡
      (if goes_right revisions rank e
      then length run - length (after_last (is_by e) run) + left_in_run revisions rank bound (after_last (is_by e) run)
      else left_in_run revisions rank bound (before_first (is_by e) run))
  left_in_run-suc bound e [] is some = absurd (omega arith)
  left_in_run-suc bound e (tagged ∷ more) is some =
      let run = tagged ∷ more in
      ap (λ d. if goes_right revisions rank d
      then length run - length (after_last (is_by d) run) + left_in_run revisions rank bound (after_last (is_by d) run)
      else left_in_run revisions rank bound (before_first (is_by d) run)) is

  module _ (bound : ℕ) (front : List Tagged) (x : Tagged) (back : List Tagged)
      (least : AllByRecursion (λ tagged. x.inserted ≤ tagged.inserted) (front ++ x ∷ back)) where
    abbrev decides : Tagged → Bool
    decides = is_by x.inserted

    by_order : (right : Bool) → goes_right revisions rank x.inserted ≡ right →
        left_in_run revisions rank (suc bound) (front ++ x ∷ back) ≡
        (if right
        then length (front ++ x ∷ back) - length (after_last decides (front ++ x ∷ back)) +
        left_in_run revisions rank bound (after_last decides (front ++ x ∷ back))
        else left_in_run revisions rank bound (before_first decides (front ++ x ∷ back)))
    by_order right goes =
        left_in_run-suc bound x.inserted (front ++ x ∷ back) (eldest-cut front x back least) (omega (arith, length-append front (x ∷ back))) ∙
        ap (λ b. if b
        then length (front ++ x ∷ back) - length (after_last decides (front ++ x ∷ back)) +
        left_in_run revisions rank bound (after_last decides (front ++ x ∷ back))
        else left_in_run revisions rank bound (before_first decides (front ++ x ∷ back))) goes

    -- up to the last character of the eldest edit all stay left, or from its first one on none does
    pub left_in_run-right : AllByRecursion (λ tagged. decides tagged ≡ false) back → goes_right revisions rank x.inserted ≡ true →
        left_in_run revisions rank (suc bound) (front ++ x ∷ back) ≡ length front + 1 + left_in_run revisions rank bound back
    left_in_run-right none right =
        by_order true right ∙
        ap (λ ys. length (front ++ x ∷ back) - length ys + left_in_run revisions rank bound ys)
        (after_last-cut decides front x back (eq-eqb x.inserted x.inserted refl) none) ∙
        omega (arith, length-append front (x ∷ back))

    pub left_in_run-left : AllByRecursion (λ tagged. decides tagged ≡ false) front → goes_right revisions rank x.inserted ≡ false →
        left_in_run revisions rank (suc bound) (front ++ x ∷ back) ≡ left_in_run revisions rank bound front
    left_in_run-left none left =
        by_order false left ∙
        ap (left_in_run revisions rank bound) (before_first-cut decides front x back (eq-eqb x.inserted x.inserted refl) none)

  -- what goes over the cuts is true of each run
  module _ (P : List Tagged → ℕ → Type 0) (nil : P [] 0)
      (right : (front : List Tagged) (x : Tagged) (back : List Tagged) (k : ℕ) → AllByRecursion (λ tagged. x.inserted ≤ tagged.inserted) (front ++ x ∷ back) →
      AllByRecursion (λ tagged. is_by x.inserted tagged ≡ false) back → goes_right revisions rank x.inserted ≡ true →
      P back k → P (front ++ x ∷ back) (length front + 1 + k))
      (left : (front : List Tagged) (x : Tagged) (back : List Tagged) (k : ℕ) → AllByRecursion (λ tagged. x.inserted ≤ tagged.inserted) (front ++ x ∷ back) →
      AllByRecursion (λ tagged. is_by x.inserted tagged ≡ false) front → goes_right revisions rank x.inserted ≡ false →
      P front k → P (front ++ x ∷ back) k) where
    abbrev Comes : ℕ → List Tagged → Type 0
    Comes bound run = P run (left_in_run revisions rank bound run)

    pub left_in_run-by_cuts : (bound : ℕ) (run : List Tagged) → length run ≤ bound → P run (left_in_run revisions rank bound run)
    left_in_run-by_cuts zero [] within = nil
    left_in_run-by_cuts zero (tagged ∷ more) within = absurd (omega arith)
    left_in_run-by_cuts (suc bound) [] within = nil
    left_in_run-by_cuts (suc bound) (tagged ∷ more) within =
        elim (goes_right revisions rank (eldest run)) as (λ b. goes_right revisions rank (eldest run) ≡ b → Comes (suc bound) run) [
          | true ↦ λ goes.
              elim (last_cut (is_by (eldest run)) run) [
                | inl cut ↦
                    let by : eldest run ≡ cut.item.inserted = sym (eqb-true cut.item.inserted (eldest run) cut.passes) in
                    let least = least_at cut.front cut.item cut.back cut.whole by in
                    let none = subst (λ e. AllByRecursion (λ t. is_by e t ≡ false) cut.back) by cut.none in
                    let goes_by = subst (λ e. goes_right revisions rank e ≡ true) by goes in
                    subst (Comes (suc bound)) (sym cut.whole)
                    (subst (P (cut.front ++ cut.item ∷ cut.back)) (sym (left_in_run-right bound cut.front cut.item cut.back least none goes_by))
                    (right cut.front cut.item cut.back _ least none goes_by
                    (left_in_run-by_cuts bound cut.back (omega (arith, ap length cut.whole, length-append cut.front (cut.item ∷ cut.back))))))
                | inr none ↦ absurd (eldest-there run (eldest run) (omega arith) refl none)
              ]
          | false ↦ λ goes.
              elim (first_cut (is_by (eldest run)) run) [
                | inl cut ↦
                    let by : eldest run ≡ cut.item.inserted = sym (eqb-true cut.item.inserted (eldest run) cut.passes) in
                    let least = least_at cut.front cut.item cut.back cut.whole by in
                    let none = subst (λ e. AllByRecursion (λ t. is_by e t ≡ false) cut.front) by cut.none in
                    let goes_by = subst (λ e. goes_right revisions rank e ≡ false) by goes in
                    subst (Comes (suc bound)) (sym cut.whole)
                    (subst (P (cut.front ++ cut.item ∷ cut.back)) (sym (left_in_run-left bound cut.front cut.item cut.back least none goes_by))
                    (left cut.front cut.item cut.back _ least none goes_by
                    (left_in_run-by_cuts bound cut.front (omega (arith, ap length cut.whole, length-append cut.front (cut.item ∷ cut.back))))))
                | inr none ↦ absurd (eldest-there run (eldest run) (omega arith) refl none)
              ]
        ] refl
      where
        run : List Tagged
        run = tagged ∷ more

        least_at : (front : List Tagged) (x : Tagged) (back : List Tagged) → run ≡ front ++ x ∷ back → eldest run ≡ x.inserted →
            AllByRecursion (λ t. x.inserted ≤ t.inserted) (front ++ x ∷ back)
        least_at front x back whole by =
            subst (AllByRecursion (λ t. x.inserted ≤ t.inserted)) whole (subst (λ e. AllByRecursion (λ t. e ≤ t.inserted) run) by (eldest-least run))

-- ---- how many characters of a block stay left

module _ (revisions : List Revision) (base : ℕ) (rank : Rank) where
  -- where so many of them are older
  left_in_block-older : (older : ℕ) (characters : List Tagged) → older_len base characters ≡ older →
      left_in_block revisions base rank characters ≡
      older + left_in_run revisions rank (length (drop older characters)) (drop older characters)
  left_in_block-older older characters is =
      ap (λ n. n + left_in_run revisions rank (length (drop n characters)) (drop n characters)) is

  pub left_in_block-le : (characters : List Tagged) → left_in_block revisions base rank characters ≤ length characters
  left_in_block-le characters =
      let run = drop (older_len base characters) characters in
      omega (arith, left_in_run-le revisions rank (length run) run, length-drop (older_len base characters) characters)

  -- up to the last one that did not come after the base
  pub left_in_block-cut : (front : List Tagged) (x : Tagged) (back : List Tagged) → nat_lt base x.inserted ≡ false →
      AllByRecursion (λ tagged. nat_lt base tagged.inserted ≡ true) back →
      left_in_block revisions base rank (front ++ x ∷ back) ≡ length front + 1 + left_in_run revisions rank (length back) back
  left_in_block-cut front x back early late =
      left_in_block-older (length front + 1) (front ++ x ∷ back)
      (omega (arith, suffix_len-cut (λ tagged. nat_lt base tagged.inserted) front x back early late, length-append front (x ∷ back))) ∙
      ap (λ run. length front + 1 + left_in_run revisions rank (length run) run) (drop-append-add front (x ∷ back) 1)

  -- where those that did not stand before those that did
  pub left_in_block-parts : (old late : List Tagged) → AllByRecursion (λ tagged. nat_lt base tagged.inserted ≡ false) old →
      AllByRecursion (λ tagged. nat_lt base tagged.inserted ≡ true) late →
      left_in_block revisions base rank (old ++ late) ≡ length old + left_in_run revisions rank (length late) late
  left_in_block-parts old late early each =
      left_in_block-older (length old) (old ++ late)
      (omega (
        arith,
        suffix_len-parts (λ tagged. nat_lt base tagged.inserted) old late (suffix_len_none (λ tagged. nat_lt base tagged.inserted) old early) each,
        length-append old late,
      )) ∙
      (let none : length old ≡ length old + 0 = omega arith in ap (λ n. length old + left_in_run revisions rank (length (drop n (old ++ late))) (drop n (old ++ late))) none) ∙
      ap (λ run. length old + left_in_run revisions rank (length run) run) (drop-append-add old late 0)

  -- where all came after it, and where none did
  pub left_in_block-late : (characters : List Tagged) → AllByRecursion (λ tagged. nat_lt base tagged.inserted ≡ true) characters →
      left_in_block revisions base rank characters ≡ left_in_run revisions rank (length characters) characters
  left_in_block-late characters late = left_in_block-parts [] characters tt late ∙ omega arith

  pub left_in_block-early : (characters : List Tagged) → AllByRecursion (λ tagged. nat_lt base tagged.inserted ≡ false) characters →
      left_in_block revisions base rank characters ≡ length characters
  left_in_block-early characters early =
      omega (
        arith,
        left_in_block-le characters,
        suffix_len_none (λ tagged. nat_lt base tagged.inserted) characters early,
      )

-- AN INSERTION PLACE is how many stay left of all that stands left of the gap
pub insertion_place-left : (history : History) (base : ℕ) (rank : Rank) (gap : ℕ) →
    insertion_place history base rank gap ≡
    left_in_block history.revisions base rank (take (index_right_of history base gap) history.characters)
insertion_place-left history base rank gap =
    let left = take (index_right_of history base gap) history.characters in
    omega (
      arith,
      length-left history base gap,
      length-drop (older_len base left) left,
      suffix_len-le-length (λ tagged. nat_lt base tagged.inserted) left,
    )

-- ---- whatever the characters are

module _ (revisions : List Revision) (rank : Rank) (character : Tagged → ℕ) where
  abbrev renamed : Tagged → Tagged
  renamed tagged = record tagged { character = character tagged }

  abbrev IsLeft : List Tagged → ℕ → Type 0
  IsLeft run k = (bound : ℕ) → length run ≤ bound → left_in_run revisions rank bound (map renamed run) ≡ k

  left_in_run-renamed : (run : List Tagged) → left_in_run revisions rank (length (map renamed run)) (map renamed run) ≡ left_in_run revisions rank (length run) run
  left_in_run-renamed run =
      left_in_run-by_cuts revisions rank IsLeft (λ bound within. left_in_run-nil revisions rank bound) right left (length run) run (omega arith)
      (length (map renamed run)) (omega (arith, length-map run renamed))
    where
      least_there : (front : List Tagged) (x : Tagged) (back : List Tagged) → AllByRecursion (λ t. x.inserted ≤ t.inserted) (front ++ x ∷ back) →
          AllByRecursion (λ t. x.inserted ≤ t.inserted) (map renamed front ++ renamed x ∷ map renamed back)
      least_there front x back least =
          subst (AllByRecursion (λ t. x.inserted ≤ t.inserted)) (map-append renamed front (x ∷ back))
          (AllByRecursion-to_map (λ t. x.inserted ≤ t.inserted) renamed (front ++ x ∷ back) least)

      right : (front : List Tagged) (x : Tagged) (back : List Tagged) (k : ℕ) → AllByRecursion (λ t. x.inserted ≤ t.inserted) (front ++ x ∷ back) →
          AllByRecursion (λ t. is_by x.inserted t ≡ false) back → goes_right revisions rank x.inserted ≡ true →
          IsLeft back k → IsLeft (front ++ x ∷ back) (length front + 1 + k)
      right front x back k least none goes rest zero within = absurd (omega (arith, within, length-append front (x ∷ back)))
      right front x back k least none goes rest (suc bound) within =
          ap (left_in_run revisions rank (suc bound)) (map-append renamed front (x ∷ back)) ∙
          left_in_run-right revisions rank bound (map renamed front) (renamed x) (map renamed back) (least_there front x back least)
          (AllByRecursion-to_map (λ t. is_by x.inserted t ≡ false) renamed back none) goes ∙
          omega (arith, length-map front renamed, rest bound (omega (arith, within, length-append front (x ∷ back))))

      left : (front : List Tagged) (x : Tagged) (back : List Tagged) (k : ℕ) → AllByRecursion (λ t. x.inserted ≤ t.inserted) (front ++ x ∷ back) →
          AllByRecursion (λ t. is_by x.inserted t ≡ false) front → goes_right revisions rank x.inserted ≡ false →
          IsLeft front k → IsLeft (front ++ x ∷ back) k
      left front x back k least none goes rest zero within = absurd (omega (arith, within, length-append front (x ∷ back)))
      left front x back k least none goes rest (suc bound) within =
          ap (left_in_run revisions rank (suc bound)) (map-append renamed front (x ∷ back)) ∙
          left_in_run-left revisions rank bound (map renamed front) (renamed x) (map renamed back) (least_there front x back least)
          (AllByRecursion-to_map (λ t. is_by x.inserted t ≡ false) renamed front none) goes ∙
          rest bound (omega (arith, within, length-append front (x ∷ back)))

  pub left_in_block-renamed : (base : ℕ) (xs : List Tagged) →
      left_in_block revisions base rank (map (λ (tagged : Tagged). record tagged { character = character tagged }) xs) ≡ left_in_block revisions base rank xs
  left_in_block-renamed base xs =
      elim (last_cut (λ t. not (nat_lt base t.inserted)) xs) [
        | inl cut ↦
            subst (λ ys. left_in_block revisions base rank (map renamed ys) ≡ left_in_block revisions base rank ys) (sym cut.whole)
            (behind cut.front cut.item cut.back (not-true (nat_lt base cut.item.inserted) cut.passes) (late cut.back cut.none))
        | inr none ↦
            left_in_block-late revisions base rank (map renamed xs) (AllByRecursion-to_map (λ t. nat_lt base t.inserted ≡ true) renamed xs (late xs none)) ∙
            left_in_run-renamed xs ∙ sym (left_in_block-late revisions base rank xs (late xs none))
      ]
    where
      late : (ys : List Tagged) → AllByRecursion (λ t. not (nat_lt base t.inserted) ≡ false) ys → AllByRecursion (λ t. nat_lt base t.inserted ≡ true) ys
      late ys none =
          AllByRecursion-weaker (λ t. not (nat_lt base t.inserted) ≡ false) (λ t. nat_lt base t.inserted ≡ true)
          (λ t is. not-false (nat_lt base t.inserted) is) ys none

      behind : (front : List Tagged) (x : Tagged) (back : List Tagged) → nat_lt base x.inserted ≡ false →
          AllByRecursion (λ t. nat_lt base t.inserted ≡ true) back →
          left_in_block revisions base rank (map renamed (front ++ x ∷ back)) ≡ left_in_block revisions base rank (front ++ x ∷ back)
      behind front x back early all =
          ap (left_in_block revisions base rank) (map-append renamed front (x ∷ back)) ∙
          left_in_block-cut revisions base rank (map renamed front) (renamed x) (map renamed back) early
          (AllByRecursion-to_map (λ t. nat_lt base t.inserted ≡ true) renamed back all) ∙
          omega (arith, length-map front renamed, left_in_run-renamed back) ∙
          sym (left_in_block-cut revisions base rank front x back early all)
