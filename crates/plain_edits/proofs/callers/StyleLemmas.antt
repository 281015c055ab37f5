-- Lemmas on layers of styles: over a change, and that a style stays with its character.
use Rattle.std.proofs.Common.{◌≡◌, ℕ, zero, suc, ◌+◌, ◌≤◌, Bool, true, false, cond, ◌&&◌, List, [], ◌∷◌, ◌++◌, length, map, take, drop, filter, Option, Some, None, slice_get, refl, ap, ap₂, sym, ◌∙◌, arith, append-nil}
use Rattle.std.specs.Prelude.{if◌then◌else◌}
use Rattle.std.specs.List.{count_by, AllByRecursion, list_all}
use Rattle.std.proofs.lemmas.Bool.{both_ways}
use Rattle.std.proofs.lemmas.List.{length-map, length_push}
use Rattle.plain_text.specs.Woven.{woven}
use Rattle.plain_text.proofs.callers.ListLemmas.{filter-yes, filter-no, count_by-yes, count_by-no}
use Rattle.plain_edits.specs.History.{Tagged, Revision, History, head, is_visible, visible_at, text_at, edit, undo, IsTaggedBy, IsSound}
use Rattle.plain_edits.specs.Edits.{PlainEdit, edited, inserted_at, is_deleted_by, with_deletion}
use Rattle.plain_edits.specs.Change.{passes_at, indices_of, shown_indices, change_keeps, change_adds}
use Rattle.plain_edits.specs.Styles.{Layer, joined_style, style_at, style_of, is_shown_at, carried_layer, mapped_layer, layer_after_steps}
use Rattle.plain_edits.specs.HistorySteps.{Step, edits, undoes, collects, after_step, after_steps, heads_after}
use Rattle.plain_edits.proofs.callers.HistoryLemmas.{AllByRecursion-inserted_at, is_visible-append, is_visible-deleted_later, is_visible-later, IsSound-edited, IsSound-undid, text_at-edited, text_at-undid}
use Rattle.plain_edits.proofs.callers.ChangeLemmas.{first_kept, walked, woven-change}
use Rattle.plain_edits.proofs.callers.StepLemmas.{edited_character}

-- ---- a layer over a change is the walk

module _ {X : Type 0} (p q : X → Bool) where
  -- the styles of the items with these indices, counted from an index on, are those that a layer gives
  abbrev pub GivesStyles : (ℕ → Option ℕ) → ℕ → List X → Layer → Type 0
  GivesStyles style from xs layer = (i : ℕ) → style (from + i) ≡ (if passes_at p i xs then style_at layer (count_by p (take i xs)) else None)

  pub map-indices_of : (style : ℕ → Option ℕ) (from : ℕ) (xs : List X) (layer : Layer) → length layer ≡ length (filter p xs) →
      GivesStyles style from xs layer → map style (indices_of q from xs) ≡ walked p q (λ x. None) xs layer
  map-indices_of style from [] layer same gives = refl
  map-indices_of style from (x ∷ xs) layer same gives =
      by (p x) refl (q x) layer same gives (λ rest. map-indices_of style (from + 1) xs rest)
    where
      first : style from ≡ style (from + 0)
      first = let none : from ≡ from + 0 = omega arith in ap style none

      next : (i : ℕ) → style (from + 1 + i) ≡ style (from + suc i)
      next i = let more : from + 1 + i ≡ from + suc i = omega arith in ap style more

      by : (b : Bool) → p x ≡ b → (d : Bool) (ys : Layer) → length ys ≡ length (filter p (x ∷ xs)) → GivesStyles style from (x ∷ xs) ys →
          ((rest : Layer) → length rest ≡ length (filter p xs) → GivesStyles style (from + 1) xs rest →
          map style (indices_of q (from + 1) xs) ≡ walked p q (λ x. None) xs rest) →
          map style (if d then from ∷ indices_of q (from + 1) xs else indices_of q (from + 1) xs) ≡
          cond b (first_kept d ys ++ walked p q (λ x. None) xs (drop 1 ys)) (cond d (None ∷ []) [] ++ walked p q (λ x. None) xs ys)
      by true passes d [] as_many given rest = absurd (omega (arith, as_many, ap length (filter-yes p x xs passes)))
      by true passes d (y ∷ ys) as_many given rest = chosen d
        where
          here : style from ≡ y
          here = first ∙ given 0 ∙ ap (λ b. if b then y else None) passes

          there : map style (indices_of q (from + 1) xs) ≡ walked p q (λ x. None) xs ys
          there = rest ys (omega (arith, as_many, ap length (filter-yes p x xs passes))) (λ i.
              let count : count_by p (x ∷ take i xs) ≡ suc (count_by p (take i xs)) = omega (arith, count_by-yes p x (take i xs) passes) in
              next i ∙ given (suc i) ∙ ap (λ n. if passes_at p i xs then style_at (y ∷ ys) n else None) count)

          chosen : (e : Bool) → map style (if e then from ∷ indices_of q (from + 1) xs else indices_of q (from + 1) xs) ≡
              first_kept e (y ∷ ys) ++ walked p q (λ x. None) xs ys
          chosen true = ap₂ (λ z zs. z ∷ zs) here there
          chosen false = there
      by false fails d ys as_many given rest = chosen d
        where
          here : style from ≡ None
          here = first ∙ given 0 ∙ ap (λ b. if b then style_at ys 0 else None) fails

          there : map style (indices_of q (from + 1) xs) ≡ walked p q (λ x. None) xs ys
          there = rest ys (as_many ∙ ap length (filter-no p x xs fails)) (λ i.
              next i ∙ given (suc i) ∙ ap (λ n. if passes_at p i xs then style_at ys n else None) (count_by-no p x (take i xs) fails))

          chosen : (e : Bool) → map style (if e then from ∷ indices_of q (from + 1) xs else indices_of q (from + 1) xs) ≡
              cond e (None ∷ []) [] ++ walked p q (λ x. None) xs ys
          chosen true = ap₂ (λ z zs. z ∷ zs) here there
          chosen false = there

pub carried_layer-walked : (history : History) (from to : ℕ) (layer : Layer) → length layer ≡ length (visible_at history from) →
    carried_layer history from to layer ≡
    walked (is_visible history.revisions from) (is_visible history.revisions to) (λ tagged. None) history.characters layer
carried_layer-walked history from to layer same =
    map-indices_of (is_visible history.revisions from) (is_visible history.revisions to) (style_of history from layer) 0 history.characters layer same
    (λ i. let none : 0 + i ≡ i = omega arith in ap (style_of history from layer) none)

-- THE STYLE RULE over a change is that of histories
pub mapped_layer-change : (history : History) (from to : ℕ) (layer : Layer) → length layer ≡ length (visible_at history from) →
    mapped_layer (change_keeps history from to) (change_adds history from to) layer ≡ carried_layer history from to layer
mapped_layer-change history from to layer same =
    woven-change (is_visible history.revisions from) (is_visible history.revisions to) (λ tagged. None)
    (λ gap. map (λ c. None) (change_adds history from to gap)) (λ index style. if change_keeps history from to index then style ∷ [] else []) 0
    history.characters layer same
    (record {
      gaps = λ g.
          let none : 0 + g ≡ g = omega arith in
          ap (λ n. map (λ c. None) (change_adds history from to n)) none ∙ map_map _;
      items = λ i style. let none : 0 + i ≡ i = omega arith in ap (λ n. if change_keeps history from to n then style ∷ [] else []) none;
    }) ∙
    sym (carried_layer-walked history from to layer same)
  where
    map_map : (xs : List Tagged) → ◌≡◌ {A = Layer} (map (λ c. None) (map (λ tagged. tagged.character) xs)) (map (λ tagged. None) xs)
    map_map [] = refl
    map_map (x ∷ xs) = ap (λ ys. None ∷ ys) (map_map xs)

-- ---- a style stays with its character

slice_get-indices_of : {X Y : Type 0} (q : X → Bool) (f : ℕ → Y) (from i : ℕ) (xs : List X) → passes_at q i xs ≡ true →
    slice_get (map f (indices_of q from xs)) (count_by q (take i xs)) ≡ Some (f (from + i))
slice_get-indices_of q f from i [] passes = absurd (both_ways false refl passes)
slice_get-indices_of q f from zero (x ∷ xs) passes =
    ap (λ b. slice_get (map f (if b then from ∷ indices_of q (from + 1) xs else indices_of q (from + 1) xs)) 0) passes ∙
    (let none : from ≡ from + 0 = omega arith in ap (λ n. Some (f n)) none)
slice_get-indices_of {X} {Y} q f from (suc i) (x ∷ xs) passes =
    by (q x) refl (slice_get-indices_of q f (from + 1) i xs passes)
  where
    next : Some (f (from + 1 + i)) ≡ Some (f (from + suc i))
    next = let more : from + 1 + i ≡ from + suc i = omega arith in ap (λ n. Some (f n)) more

    by : (b : Bool) → q x ≡ b → slice_get (map f (indices_of q (from + 1) xs)) (count_by q (take i xs)) ≡ Some (f (from + 1 + i)) →
        slice_get (map f (if b then from ∷ indices_of q (from + 1) xs else indices_of q (from + 1) xs)) (count_by q (x ∷ take i xs)) ≡ Some (f (from + suc i))
    by true first rest =
        let count : count_by q (x ∷ take i xs) ≡ suc (count_by q (take i xs)) = omega (arith, count_by-yes q x (take i xs) first) in
        ap (slice_get (f from ∷ map f (indices_of q (from + 1) xs))) count ∙ rest ∙ next
    by false first rest =
        ap (slice_get (map f (indices_of q (from + 1) xs))) (count_by-no q x (take i xs) first) ∙ rest ∙ next

pub style_of-carried : (history : History) (from to : ℕ) (layer : Layer) (index : ℕ) →
    style_of history to (carried_layer history from to layer) index ≡
    (if is_shown_at history to index then style_of history from layer index else None)
style_of-carried history from to layer index = by (is_shown_at history to index) refl
  where
    by : (b : Bool) → is_shown_at history to index ≡ b →
        (if b then style_at (carried_layer history from to layer) (count_by (is_visible history.revisions to) (take index history.characters)) else None) ≡
        (if b then style_of history from layer index else None)
    by true shown =
        ap joined_style (slice_get-indices_of (is_visible history.revisions to) (style_of history from layer) 0 index history.characters shown) ∙
        (let none : 0 + index ≡ index = omega arith in ap (style_of history from layer) none)
    by false hidden = refl

-- ---- what a later step leaves of a change between two revisions before it

-- a new character fails both tests
walked-past_front : {X Y : Type 0} (p q : X → Bool) (new : X → Y) (front back : List X) (ys : List Y) →
    AllByRecursion (λ x. p x ≡ false) front → AllByRecursion (λ x. q x ≡ false) front →
    walked p q new (front ++ back) ys ≡ walked p q new back ys
walked-past_front p q new [] back ys no_p no_q = refl
walked-past_front p q new (x ∷ front) back ys no_p no_q =
    ap₂ (λ b d. cond b (first_kept d ys ++ walked p q new (front ++ back) (drop 1 ys)) (cond d (new x ∷ []) [] ++ walked p q new (front ++ back) ys))
    no_p.0 no_q.0 ∙ walked-past_front p q new front back ys no_p.1 no_q.1

walked-woven : {X Z Y : Type 0} (Q : X → Type 0) (p q : X → Bool) (r s : Z → Bool) (value : Y) (between : ℕ → List Z) (f : ℕ → X → Z) →
    ((i : ℕ) → AllByRecursion (λ z. r z ≡ false) (between i)) → ((i : ℕ) → AllByRecursion (λ z. s z ≡ false) (between i)) →
    ((i : ℕ) (x : X) → Q x → r (f i x) ≡ p x) → ((i : ℕ) (x : X) → Q x → s (f i x) ≡ q x) →
    (index : ℕ) (xs : List X) → AllByRecursion Q xs → (ys : List Y) →
    walked r s (λ z. value) (woven between (λ i x. f i x ∷ []) index xs) ys ≡ walked p q (λ x. value) xs ys
walked-woven Q p q r s value between f no_r no_s same_p same_q index [] all ys =
    ap (λ zs. walked r s (λ z. value) zs ys) (sym (append-nil (between index))) ∙
    walked-past_front r s (λ z. value) (between index) [] ys (no_r index) (no_s index)
walked-woven {Z = Z} Q p q r s value between f no_r no_s same_p same_q index (x ∷ xs) all ys =
    walked-past_front r s (λ z. value) (between index) _ ys (no_r index) (no_s index) ∙
    ap₂ (λ b d. cond b (first_kept d ys ++ walked r s (λ z. value) rest (drop 1 ys)) (cond d (value ∷ []) [] ++ walked r s (λ z. value) rest ys))
    (same_p index x all.0) (same_q index x all.0) ∙
    ap₂ (λ kept gone. cond (p x) (first_kept (q x) ys ++ kept) (cond (q x) (value ∷ []) [] ++ gone))
    (walked-woven Q p q r s value between f no_r no_s same_p same_q (index + 1) xs all.1 (drop 1 ys))
    (walked-woven Q p q r s value between f no_r no_s same_p same_q (index + 1) xs all.1 ys)
  where
    rest : List Z
    rest = woven between (λ i z. f i z ∷ []) (index + 1) xs

walked-same : {X Y : Type 0} (Q : X → Type 0) (p q r s : X → Bool) (new : X → Y) → ((x : X) → Q x → r x ≡ p x) → ((x : X) → Q x → s x ≡ q x) →
    (xs : List X) → AllByRecursion Q xs → (ys : List Y) → walked r s new xs ys ≡ walked p q new xs ys
walked-same Q p q r s new same_p same_q [] all ys = refl
walked-same Q p q r s new same_p same_q (x ∷ xs) all ys =
    ap₂ (λ b d. cond b (first_kept d ys ++ walked r s new xs (drop 1 ys)) (cond d (new x ∷ []) [] ++ walked r s new xs ys))
    (same_p x all.0) (same_q x all.0) ∙
    ap₂ (λ kept gone. cond (p x) (first_kept (q x) ys ++ kept) (cond (q x) (new x ∷ []) [] ++ gone))
    (walked-same Q p q r s new same_p same_q xs all.1 (drop 1 ys)) (walked-same Q p q r s new same_p same_q xs all.1 ys)

-- an old character is as visible at an old revision as before the edit
is_visible-edited_character : (history : History) (e : PlainEdit) (rev : ℕ) → rev ≤ head history → (index : ℕ) (tagged : Tagged) →
    IsTaggedBy (head history) tagged →
    is_visible (edited history e).revisions rev (edited_character history e index tagged) ≡ is_visible history.revisions rev tagged
is_visible-edited_character history e rev within index tagged is = by (is_deleted_by history e index tagged)
  where
    revisions : List Revision
    revisions = history.revisions ++ edit e.base e.group e.priority e.author ∷ []

    same : is_visible revisions rev tagged ≡ is_visible history.revisions rev tagged
    same = is_visible-append history.revisions (edit e.base e.group e.priority e.author ∷ []) rev tagged within is

    by : (b : Bool) → is_visible revisions rev (if b then with_deletion (head history + 1) tagged else tagged) ≡ is_visible history.revisions rev tagged
    by true = is_visible-deleted_later revisions rev (head history + 1) tagged (omega arith) ∙ same
    by false = same

new_unseen : (history : History) (e : PlainEdit) (rev : ℕ) → rev ≤ head history → (index : ℕ) →
    AllByRecursion (λ tagged. is_visible (edited history e).revisions rev tagged ≡ false) (inserted_at history e index)
new_unseen history e rev within =
    AllByRecursion-inserted_at (λ tagged. is_visible (edited history e).revisions rev tagged ≡ false) history e
    (λ c. is_visible-later (edited history e).revisions rev (record { character = c; inserted = head history + 1; deleted = [] }) (omega arith))

-- the walk between two revisions, before and after a step
walked-after_step : (history : History) (step : Step) (from to : ℕ) (layer : Layer) → IsSound history → from ≤ head history → to ≤ head history →
    walked (is_visible (after_step history step).revisions from) (is_visible (after_step history step).revisions to) (λ tagged. None)
    (after_step history step).characters layer ≡
    walked (is_visible history.revisions from) (is_visible history.revisions to) (λ tagged. None) history.characters layer
walked-after_step history (edits e) from to layer sound first last =
    walked-woven (IsTaggedBy (head history)) (is_visible history.revisions from) (is_visible history.revisions to)
    (is_visible (edited history e).revisions from) (is_visible (edited history e).revisions to) None (inserted_at history e) (edited_character history e)
    (new_unseen history e from first) (new_unseen history e to last)
    (is_visible-edited_character history e from first) (is_visible-edited_character history e to last) 0 history.characters sound layer
walked-after_step history (undoes groups) from to layer sound first last =
    walked-same (IsTaggedBy (head history)) (is_visible history.revisions from) (is_visible history.revisions to)
    (is_visible (history.revisions ++ undo groups ∷ []) from) (is_visible (history.revisions ++ undo groups ∷ []) to) (λ tagged. None)
    (λ x is. is_visible-append history.revisions (undo groups ∷ []) from x first is)
    (λ x is. is_visible-append history.revisions (undo groups ∷ []) to x last is) history.characters sound layer
walked-after_step history (collects floor groups) from to layer sound first last = refl

pub text_at-after_step : (history : History) (step : Step) (rev : ℕ) → IsSound history → rev ≤ head history →
    text_at (after_step history step) rev ≡ text_at history rev
text_at-after_step history (edits e) rev sound within = text_at-edited history e rev sound within
text_at-after_step history (undoes groups) rev sound within = text_at-undid history groups rev sound within
text_at-after_step history (collects floor groups) rev sound within = refl

pub IsSound-after_step : (history : History) (step : Step) → IsSound history → IsSound (after_step history step)
IsSound-after_step history (edits e) sound = IsSound-edited history e sound
IsSound-after_step history (undoes groups) sound = IsSound-undid history groups sound
IsSound-after_step history (collects floor groups) sound = sound

pub head-after_step : (history : History) (step : Step) → head history ≤ head (after_step history step)
head-after_step history (edits e) = omega (arith, length_push history.revisions (edit e.base e.group e.priority e.author))
head-after_step history (undoes groups) = omega (arith, length_push history.revisions (undo groups))
head-after_step history (collects floor groups) = omega arith

visible_at-length : (history : History) (rev : ℕ) → length (visible_at history rev) ≡ length (text_at history rev)
visible_at-length history rev = sym (length-map (visible_at history rev) (λ tagged. tagged.character))

pub carried_layer-after_step : (history : History) (step : Step) (from to : ℕ) (layer : Layer) → IsSound history → from ≤ head history →
    to ≤ head history → length layer ≡ length (visible_at history from) →
    carried_layer (after_step history step) from to layer ≡ carried_layer history from to layer
carried_layer-after_step history step from to layer sound first last same =
    carried_layer-walked (after_step history step) from to layer (same ∙ visible_at-length history from ∙
    sym (ap length (text_at-after_step history step from sound first)) ∙ sym (visible_at-length (after_step history step) from)) ∙
    walked-after_step history step from to layer sound first last ∙ sym (carried_layer-walked history from to layer same)

pub carried_layer-after_steps : (history : History) (steps : List Step) (from to : ℕ) (layer : Layer) → IsSound history → from ≤ head history →
    to ≤ head history → length layer ≡ length (visible_at history from) →
    carried_layer (after_steps history steps) from to layer ≡ carried_layer history from to layer
carried_layer-after_steps history [] from to layer sound first last same = refl
carried_layer-after_steps history (step ∷ steps) from to layer sound first last same =
    carried_layer-after_steps (after_step history step) steps from to layer (IsSound-after_step history step sound)
    (omega (arith, first, head-after_step history step)) (omega (arith, last, head-after_step history step))
    (same ∙ visible_at-length history from ∙ sym (ap length (text_at-after_step history step from sound first)) ∙
    sym (visible_at-length (after_step history step) from)) ∙
    carried_layer-after_step history step from to layer sound first last same

indices_of-length : {X : Type 0} (q : X → Bool) (from : ℕ) (xs : List X) → length (indices_of q from xs) ≡ length (filter q xs)
indices_of-length q from [] = refl
indices_of-length {X} q from (x ∷ xs) = by (q x) (indices_of-length q (from + 1) xs)
  where
    by : (b : Bool) → length (indices_of q (from + 1) xs) ≡ length (filter q xs) →
        length (if b then from ∷ indices_of q (from + 1) xs else indices_of q (from + 1) xs) ≡ length (cond b (x ∷ filter q xs) (filter q xs))
    by true same = ap suc same
    by false same = same

pub carried_layer-length : (history : History) (from to : ℕ) (layer : Layer) →
    length (carried_layer history from to layer) ≡ length (visible_at history to)
carried_layer-length history from to layer =
    length-map (shown_indices history to) (style_of history from layer) ∙ indices_of-length (is_visible history.revisions to) 0 history.characters

-- A STYLE STAYS WITH ITS CHARACTER: after some steps, a character that each of them shows has the style that it had, and no other has one
pub style_of-after_steps : (history : History) (steps : List Step) (layer : Layer) (index : ℕ) → IsSound history →
    length layer ≡ length (visible_at history (head history)) →
    style_of (after_steps history steps) (head (after_steps history steps)) (layer_after_steps history steps layer) index ≡
    (if list_all (λ rev. is_shown_at (after_steps history steps) rev index) (heads_after history steps)
    then style_of (after_steps history steps) (head history) layer index else None)
style_of-after_steps history [] layer index sound same = refl
style_of-after_steps history (step ∷ steps) layer index sound same =
    let next = after_step history step in
    let last = after_steps next steps in
    let moved = carried_layer next (head history) (head next) layer in
    let as_long : length layer ≡ length (visible_at next (head history)) =
    same ∙ visible_at-length history (head history) ∙ sym (ap length (text_at-after_step history step (head history) sound (omega arith))) ∙
    sym (visible_at-length next (head history)) in
    style_of-after_steps next steps moved index (IsSound-after_step history step sound) (carried_layer-length next (head history) (head next) layer) ∙
    ap (λ style. if list_all (λ rev. is_shown_at last rev index) (heads_after next steps) then style else None)
    (ap (λ l. style_of last (head next) l index)
    (sym (carried_layer-after_steps next steps (head history) (head next) layer (IsSound-after_step history step sound)
    (head-after_step history step) (omega arith) as_long)) ∙ style_of-carried last (head history) (head next) layer index) ∙
    both (list_all (λ rev. is_shown_at last rev index) (heads_after next steps)) (is_shown_at last (head next) index) (style_of last (head history) layer index)
  where
    both : (all here : Bool) (style : Option ℕ) → (if all then (if here then style else None) else None) ≡ (if here && all then style else None)
    both true true style = refl
    both true false style = refl
    both false true style = refl
    both false false style = refl
