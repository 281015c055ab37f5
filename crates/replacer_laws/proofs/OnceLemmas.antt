-- No view is edited twice, and each whole text is searched.
use Rattle.std.proofs.Common.{◌≡◌, ◌≢◌, inl, inr, ℕ, ◌+◌, ◌≤◌, Bool, true, false, not, List, [], ◌∷◌, ◌++◌, length, Option, None, Some, Result, Ok, Err, refl, sym, ap, ap₂, subst, ◌∙◌, append_assoc, arith}
use Rattle.std.specs.Prelude.{◌&&◌, ◌||◌, if◌then◌else◌}
use Rattle.std.specs.List.{AllByRecursion, list_any}
use Rattle.std.specs.Str.{bytes_eq, encode_utf8_all}
use Rattle.std.proofs.lemmas.Bool.{cases_Bool, cond-true, cond-false, and_parts, or_left, not-true, false≢true}
use Rattle.std.proofs.lemmas.List.Folds.{list_any-append}
use Rattle.std.proofs.lemmas.List.Sums.{sum_by-append}
use Rattle.std.proofs.lemmas.Slice.Eq.{bytes_eq-Decides}
use Rattle.plain_text.specs.declared.run.Run.{Run}
use Rattle.plain_text.proofs.callers.ListLemmas.{AllByRecursion-append}
use Rattle.xi_plain.specs.declared.command.Command.{Command}
use Rattle.plugin_mirror.specs.declared.leaf.Leaf.{Leaf}
use Rattle.plugin_mirror.specs.declared.fault.BookFault.{BookFault}
use Rattle.plugin_mirror.specs.Leaf.{is_of, wants_ack}
use Rattle.plugin_mirror.specs.Book.{taken}
use Rattle.plugin_mirror.specs.Asks.{asks_piece, asks_of, piece_ask, acknowledgement, commands, next_after, leaves_asked}
use Rattle.plugin_mirror.specs.Laws.{Event, line, asking}
use Rattle.plugin_replacer.specs.Replacing.{Replacing, Course, replacing_start, is_one_of, is_to_search, searched_with, searched_all, edit_ask, edits_by, edits_of, edits, behind, unless_fault, looked_if, event_course, course}
use Rattle.replacer_laws.specs.Laws.{edits_view, edits_in, EditsComeOnce, EachTextIsEdited, EditsNewText, IsLookedAt, NoOtherTextIsEdited, TurnsFollow, WholeTextsAreSearched}

same_view : (view : List ℕ) → bytes_eq (encode_utf8_all view) (encode_utf8_all view) ≡ true
same_view view = (bytes_eq-Decides (encode_utf8_all view) (encode_utf8_all view)).1 refl

is_one_of-more : (views : List (List ℕ)) (other view : List ℕ) →
    is_one_of (views ++ other ∷ []) view ≡ (is_one_of views view || (bytes_eq (encode_utf8_all other) (encode_utf8_all view) || false))
is_one_of-more views other view = list_any-append (λ v. bytes_eq (encode_utf8_all v) (encode_utf8_all view)) views (other ∷ [])

-- ---- how often a view may be edited yet

-- so often
abbrev left_by : Bool → ℕ
left_by among = if among then 0 else 1

edits_in-append : (view : List ℕ) (xs ys : List Command) → edits_in view (xs ++ ys) ≡ edits_in view xs + edits_in view ys
edits_in-append view xs ys = sum_by-append (λ command. if edits_view view command.act then 1 else 0) xs ys

abbrev one_of : Bool → ℕ
one_of same = if same then 1 else 0

edits_by-most : (view : List ℕ) (leaf : Leaf) (runs : List Run) (new : List ℕ) →
    edits_in view (edits_by leaf runs new) ≤ one_of (bytes_eq (encode_utf8_all leaf.view) (encode_utf8_all view))
edits_by-most view leaf [] new = omega arith
edits_by-most view leaf (run ∷ runs) new = by_test (bytes_eq (encode_utf8_all leaf.view) (encode_utf8_all view))
  where
    by_test : (same : Bool) → 0 + (if same then 1 else 0) ≤ one_of same
    by_test true = omega arith
    by_test false = omega arith

module _ (found : List ℕ → List Run) (new : List ℕ) where
  page_once : (view : List ℕ) (searched : List (List ℕ)) (leaf : Leaf) →
      edits_in view (edits_of found new searched leaf) + left_by (is_one_of (searched_with searched leaf) view) ≤ left_by (is_one_of searched view)
  page_once view searched leaf =
      elim (cases_Bool (is_to_search searched leaf)) [
        | inl due ↦
            subst (λ asks. edits_in view asks + left_by (is_one_of (searched_with searched leaf) view) ≤ left_by (is_one_of searched view))
            (sym (cond-true (is_to_search searched leaf) _ _ due))
            (subst (λ views. edits_in view (edits_by leaf (found leaf.page.text) new) + left_by (is_one_of views view) ≤ left_by (is_one_of searched view))
            (sym (cond-true (is_to_search searched leaf) _ _ due))
            (by_view due (edits_by-most view leaf (found leaf.page.text) new) (bytes_eq (encode_utf8_all leaf.view) (encode_utf8_all view)) refl))
        | inr not_due ↦
            let none : edits_in view [] ≡ 0 = refl in
            subst (λ asks. edits_in view asks + left_by (is_one_of (searched_with searched leaf) view) ≤ left_by (is_one_of searched view))
            (sym (cond-false (is_to_search searched leaf) (edits_by leaf (found leaf.page.text) new) [] not_due))
            (subst (λ views. edits_in view [] + left_by (is_one_of views view) ≤ left_by (is_one_of searched view))
            (sym (cond-false (is_to_search searched leaf) (searched ++ leaf.view ∷ []) searched not_due)) (omega (arith, none)))
      ]
    where
      by_view : is_to_search searched leaf ≡ true → {n : ℕ} → n ≤ one_of (bytes_eq (encode_utf8_all leaf.view) (encode_utf8_all view)) → (same : Bool) →
          bytes_eq (encode_utf8_all leaf.view) (encode_utf8_all view) ≡ same →
          n + left_by (is_one_of (searched ++ leaf.view ∷ []) view) ≤ left_by (is_one_of searched view)
      by_view due most true same =
          let new_one = not-true _ (and_parts leaf.page.whole (not (is_one_of searched leaf.view)) due).1 in
          let alike = (bytes_eq-Decides (encode_utf8_all leaf.view) (encode_utf8_all view)).0 same in
          let before : is_one_of searched view ≡ false = ap (λ bytes. list_any (λ v. bytes_eq (encode_utf8_all v) bytes) searched) (sym alike) ∙ new_one in
          let after : is_one_of (searched ++ leaf.view ∷ []) view ≡ true = is_one_of-more searched leaf.view view ∙ ap₂ (λ a b. a || (b || false)) before same in
          omega (arith, most, ap one_of same, ap left_by before, ap left_by after)
      by_view due most false other =
          let after : is_one_of (searched ++ leaf.view ∷ []) view ≡ is_one_of searched view =
          is_one_of-more searched leaf.view view ∙ ap (λ b. is_one_of searched view || (b || false)) other ∙ or_none (is_one_of searched view) in
          omega (arith, most, ap one_of other, ap left_by after)
        where
          or_none : (a : Bool) → (a || false) ≡ a
          or_none true = refl
          or_none false = refl

  pages_once : (view : List ℕ) (searched : List (List ℕ)) (leaves : List Leaf) →
      edits_in view (edits found new searched leaves) + left_by (is_one_of (searched_all searched leaves) view) ≤ left_by (is_one_of searched view)
  pages_once view searched [] = omega arith
  pages_once view searched (leaf ∷ leaves) =
      omega (
        arith,
        edits_in-append view (edits_of found new searched leaf) (edits found new (searched_with searched leaf) leaves),
        page_once view searched leaf,
        pages_once view (searched_with searched leaf) leaves,
      )

  commands_none : (view : List ℕ) (piece next : ℕ) (leaves : List Leaf) → edits_in view (commands piece next leaves) ≡ 0
  commands_none view piece next [] = refl
  commands_none view piece next (leaf ∷ leaves) =
      edits_in-append view (asks_of piece next leaf) (commands piece (next_after next leaf) leaves) ∙
      ap₂ (λ a b. a + b) (by_test (asks_piece next leaf) (wants_ack leaf)) (commands_none view piece (next_after next leaf) leaves)
    where
      by_test : (asks wants : Bool) → edits_in view (if asks then piece_ask piece next leaf ∷ [] else (if wants then acknowledgement leaf ∷ [] else [])) ≡ 0
      by_test true wants = refl
      by_test false true = refl
      by_test false false = refl

  line_once : (view : List ℕ) (state : Replacing) (made : Result (List Leaf) BookFault) →
      edits_in view (looked_if found new state made).asks + left_by (is_one_of (looked_if found new state made).after.searched view) ≤ left_by (is_one_of state.searched view)
  line_once view state (Ok leaves) = pages_once view state.searched leaves
  line_once view state (Err fault) = omega arith

  event_once : (view : List ℕ) (state : Replacing) (event : Event) →
      edits_in view (event_course found new state event).asks + left_by (is_one_of (event_course found new state event).after.searched view) ≤
      left_by (is_one_of state.searched view)
  event_once view state (line heard) = line_once view state (taken heard state.book.leaves)
  event_once view state asking = omega (arith, commands_none view state.book.piece state.book.next state.book.leaves)

  by_fault : (view : List ℕ) (most : ℕ) (first next : Course) (fault : Option BookFault) →
      edits_in view first.asks + left_by (is_one_of first.after.searched view) ≤ most → edits_in view next.asks ≤ left_by (is_one_of first.after.searched view) →
      edits_in view (unless_fault fault first next).asks ≤ most
  by_fault view most first next None here later = omega (arith, here, later, edits_in-append view first.asks next.asks)
  by_fault view most first next (Some fault) here later = omega (arith, here)

  once : (view : List ℕ) (state : Replacing) (events : List Event) → edits_in view (course found new state events).asks ≤ left_by (is_one_of state.searched view)
  once view state [] = omega arith
  once view state (event ∷ events) =
      let first = event_course found new state event in
      by_fault view (left_by (is_one_of state.searched view)) first (course found new first.after events) first.fault (event_once view state event)
      (once view first.after events)

pub edits_once : EditsComeOnce
edits_once found new events view = once found new view replacing_start events

-- ---- each text

-- the edits of pages have that of this page in them
Cut : List Command → Command → Type 0
Cut asks ask = (before after : List Command) × (asks ≡ before ++ ask ∷ after)

Cut-behind : (front asks : List Command) (ask : Command) → Cut asks ask → Cut (front ++ asks) ask
unfolding Cut
Cut-behind front asks ask (before, after, is) = (front ++ before, after, ap (λ rest. front ++ rest) is ∙ sym (append_assoc front before (ask ∷ after)))

new_yet : (searched : List (List ℕ)) (other leaf : Leaf) → is_of leaf.view other ≡ false → is_one_of searched leaf.view ≡ false →
    is_one_of (searched_with searched other) leaf.view ≡ false
new_yet searched other leaf apart new = by_test (is_to_search searched other)
  where
    by_test : (due : Bool) → is_one_of (if due then searched ++ other.view ∷ [] else searched) leaf.view ≡ false
    by_test true = is_one_of-more searched other.view leaf.view ∙ ap₂ (λ a b. a || (b || false)) new apart
    by_test false = new

module _ (found : List ℕ → List Run) (new : List ℕ) where
  by_runs : (leaf : Leaf) (runs : List Run) (rest : List Command) → runs ≢ [] → Cut (edits_by leaf runs new ++ rest) (edit_ask leaf runs new)
  unfolding Cut
  by_runs leaf [] rest some = absurd (some refl)
  by_runs leaf (run ∷ runs) rest some = ([], rest, refl)

  edits-cut : (searched : List (List ℕ)) (front back : List Leaf) (leaf : Leaf) → AllByRecursion (λ other. is_of leaf.view other ≡ false) front →
      leaf.page.whole ≡ true → is_one_of searched leaf.view ≡ false → found leaf.page.text ≢ [] →
      Cut (edits found new searched (front ++ leaf ∷ back)) (edit_ask leaf (found leaf.page.text) new)
  edits-cut searched [] back leaf apart whole first some =
      let due : is_to_search searched leaf ≡ true = ap₂ (λ a b. a && not b) whole first in
      let rest = edits found new (searched_with searched leaf) back in
      subst (λ asks. Cut (asks ++ rest) (edit_ask leaf (found leaf.page.text) new)) (sym (cond-true (is_to_search searched leaf) _ _ due))
      (by_runs leaf (found leaf.page.text) rest some)
  edits-cut searched (other ∷ front) back leaf apart whole first some =
      Cut-behind (edits_of found new searched other) (edits found new (searched_with searched other) (front ++ leaf ∷ back)) (edit_ask leaf (found leaf.page.text) new)
      (edits-cut (searched_with searched other) front back leaf apart.1 whole (new_yet searched other leaf apart.0 first) some)

pub each_edited : EachTextIsEdited
unfolding Cut
each_edited found new state heard front back leaf takes apart whole first some =
    subst (λ made. Cut (looked_if found new state made).asks (edit_ask leaf (found leaf.page.text) new)) (sym takes)
    (edits-cut found new state.searched front back leaf apart whole first some)

-- ---- whole texts

-- a view that was searched stays so
page_keeps : (searched : List (List ℕ)) (leaf : Leaf) (view : List ℕ) → is_one_of searched view ≡ true → is_one_of (searched_with searched leaf) view ≡ true
page_keeps searched leaf view is = by_test (is_to_search searched leaf)
  where
    by_test : (due : Bool) → is_one_of (if due then searched ++ leaf.view ∷ [] else searched) view ≡ true
    by_test true = is_one_of-more searched leaf.view view ∙ or_left _ _ is
    by_test false = is

pages_keep : (searched : List (List ℕ)) (leaves : List Leaf) (view : List ℕ) → is_one_of searched view ≡ true → is_one_of (searched_all searched leaves) view ≡ true
pages_keep searched [] view is = is
pages_keep searched (leaf ∷ leaves) view is = pages_keep (searched_with searched leaf) leaves view (page_keeps searched leaf view is)

page_searched : (searched : List (List ℕ)) (leaf : Leaf) → IsLookedAt (searched_with searched leaf) leaf
page_searched searched leaf whole =
    elim (cases_Bool (is_one_of searched leaf.view)) [
      | inl there ↦ page_keeps searched leaf leaf.view there
      | inr new ↦
          let due : is_to_search searched leaf ≡ true = ap₂ (λ a b. a && not b) whole new in
          ap (λ views. is_one_of views leaf.view) (cond-true (is_to_search searched leaf) _ _ due) ∙ is_one_of-more searched leaf.view leaf.view ∙
          ap₂ (λ a b. a || (b || false)) new (same_view leaf.view)
    ]

pages_searched : (searched : List (List ℕ)) (leaves : List Leaf) → AllByRecursion (IsLookedAt (searched_all searched leaves)) leaves
pages_searched searched [] = tt
pages_searched searched (leaf ∷ leaves) =
    (λ whole. pages_keep (searched_with searched leaf) leaves leaf.view (page_searched searched leaf whole), pages_searched (searched_with searched leaf) leaves)

asked_searched : (searched : List (List ℕ)) (next : ℕ) (leaves : List Leaf) → AllByRecursion (IsLookedAt searched) leaves →
    AllByRecursion (IsLookedAt searched) (leaves_asked next leaves)
asked_searched searched next [] all = tt
asked_searched searched next (leaf ∷ leaves) all = (by_test (asks_piece next leaf) (wants_ack leaf), asked_searched searched (next_after next leaf) leaves all.1)
  where
    by_test : (asks wants : Bool) →
        IsLookedAt searched (if asks then record leaf { ask = Some next } else (if wants then record leaf { acked = leaf.page.rev } else leaf))
    by_test true wants = all.0
    by_test false true = all.0
    by_test false false = all.0

module _ (found : List ℕ → List Run) (new : List ℕ) where
  -- each whole text was searched
  abbrev AreSearched : Replacing → Type 0
  AreSearched state = AllByRecursion (IsLookedAt state.searched) state.book.leaves

  line_searched : (state : Replacing) (made : Result (List Leaf) BookFault) → AreSearched state → AreSearched (looked_if found new state made).after
  line_searched state (Ok leaves) are = pages_searched state.searched leaves
  line_searched state (Err fault) are = are

  event_searched : (state : Replacing) (event : Event) → AreSearched state → AreSearched (event_course found new state event).after
  event_searched state (line heard) are = line_searched state (taken heard state.book.leaves) are
  event_searched state asking are = asked_searched state.searched state.book.next state.book.leaves are

  searched_by : (first next : Course) (fault : Option BookFault) → AreSearched first.after → AreSearched next.after → AreSearched (unless_fault fault first next).after
  searched_by first next None here later = later
  searched_by first next (Some fault) here later = here

  events_searched : (state : Replacing) (events : List Event) → AreSearched state → AreSearched (course found new state events).after
  events_searched state [] are = are
  events_searched state (event ∷ events) are =
      let first = event_course found new state event in
      let here = event_searched state event are in
      searched_by first (course found new first.after events) first.fault here (events_searched first.after events here)

pub whole_searched : WholeTextsAreSearched
whole_searched found new events = events_searched found new replacing_start events tt

-- ---- no other text

-- a view that is new with one more is new without it
new_before : (searched : List (List ℕ)) (leaf : Leaf) (view : List ℕ) → is_one_of (searched_with searched leaf) view ≡ false → is_one_of searched view ≡ false
new_before searched leaf view new = not_true (is_one_of searched view) (λ there. false≢true (sym new ∙ page_keeps searched leaf view there))
  where
    not_true : (b : Bool) → (b ≢ true) → b ≡ false
    not_true true wrong = absurd (wrong refl)
    not_true false wrong = refl

module _ (found : List ℕ → List Run) (new : List ℕ) where
  abbrev AreNew : List (List ℕ) → List Leaf → List Command → Type 0
  AreNew searched leaves asks = AllByRecursion (EditsNewText found new searched leaves) asks

  -- with one page more before the others, and without what it adds to the views that were searched
  later_new : (searched : List (List ℕ)) (first : Leaf) (leaves : List Leaf) (asks : List Command) → AreNew (searched_with searched first) leaves asks →
      AreNew searched (first ∷ leaves) asks
  later_new searched first leaves [] are = tt
  later_new searched first leaves (command ∷ asks) are =
      let here = are.0 in (
        record {
          front = first ∷ here.front;
          leaf = here.leaf;
          back = here.back;
          stands = ap (λ ls. first ∷ ls) here.stands;
          whole = here.whole;
          first = new_before searched first here.leaf.view here.first;
          some = here.some;
          is = here.is;
        },
        later_new searched first leaves asks are.1,
      )

  by_runs_new : (searched : List (List ℕ)) (leaf : Leaf) (leaves : List Leaf) (runs : List Run) → runs ≡ found leaf.page.text → leaf.page.whole ≡ true →
      is_one_of searched leaf.view ≡ false → AreNew searched (leaf ∷ leaves) (edits_by leaf runs new)
  by_runs_new searched leaf leaves [] is whole first = tt
  by_runs_new searched leaf leaves (run ∷ runs) is whole first = (
    record {
      front = [];
      leaf = leaf;
      back = leaves;
      stands = refl;
      whole = whole;
      first = first;
      some = λ none. let empty = ap length (is ∙ none) in absurd (omega (arith, empty));
      is = ap (λ rs. edit_ask leaf rs new) is;
    },
    tt,
  )

  page_new : (searched : List (List ℕ)) (leaf : Leaf) (leaves : List Leaf) → AreNew searched (leaf ∷ leaves) (edits_of found new searched leaf)
  page_new searched leaf leaves =
      elim (cases_Bool (is_to_search searched leaf)) [
        | inl due ↦
            let both = and_parts leaf.page.whole (not (is_one_of searched leaf.view)) due in
            subst (AreNew searched (leaf ∷ leaves)) (sym (cond-true (is_to_search searched leaf) _ _ due))
            (by_runs_new searched leaf leaves (found leaf.page.text) refl both.0 (not-true _ both.1))
        | inr not_due ↦ subst (AreNew searched (leaf ∷ leaves)) (sym (cond-false (is_to_search searched leaf) _ _ not_due)) no_asks
      ]
    where
      no_asks : AreNew searched (leaf ∷ leaves) []
      no_asks = tt

  pages_new : (searched : List (List ℕ)) (leaves : List Leaf) → AreNew searched leaves (edits found new searched leaves)
  pages_new searched [] = tt
  pages_new searched (leaf ∷ leaves) =
      AllByRecursion-append (EditsNewText found new searched (leaf ∷ leaves)) (edits_of found new searched leaf) (edits found new (searched_with searched leaf) leaves)
      (page_new searched leaf leaves)
      (later_new searched leaf leaves (edits found new (searched_with searched leaf) leaves) (pages_new (searched_with searched leaf) leaves))

pub no_other : NoOtherTextIsEdited
no_other found new state heard leaves takes =
    subst (λ made. AllByRecursion (EditsNewText found new state.searched leaves) (looked_if found new state made).asks) (sym takes)
    (pages_new found new state.searched leaves)

-- ---- turns

behind-behind : (front back : List Command) (course : Course) → behind front (behind back course) ≡ behind (front ++ back) course
behind-behind front back course =
    ap (λ asks. record { after = course.after; asks = asks; fault = course.fault }) (sym (append_assoc front back course.asks))

unless-behind : (front : List Command) (two three : Course) (fault : Option BookFault) →
    behind front (unless_fault fault two three) ≡ unless_fault fault (behind front two) three
unless-behind front two three (Some fault) = refl
unless-behind front two three None = behind-behind front two.asks three

module _ (found : List ℕ → List Run) (new : List ℕ) where
  -- one event, those behind it, and the others
  by_fault_follow : (one two : Course) (later : List Event) (fault : Option BookFault) → one.fault ≡ fault → {next : Course} →
      next ≡ unless_fault two.fault two (course found new two.after later) →
      let begun = unless_fault fault one two in
      unless_fault fault one next ≡ unless_fault begun.fault begun (course found new begun.after later)
  by_fault_follow one two later (Some fault) is same = sym (ap (λ f. unless_fault f one (course found new one.after later)) is)
  by_fault_follow one two later None is same =
      ap (λ next. behind one.asks next) same ∙ unless-behind one.asks two (course found new two.after later) two.fault

  follow : (state : Replacing) (first later : List Event) →
      let begun = course found new state first in
      course found new state (first ++ later) ≡ unless_fault begun.fault begun (course found new begun.after later)
  follow state [] later = refl
  follow state (event ∷ first) later =
      let one = event_course found new state event in
      let two = course found new one.after first in
      by_fault_follow one two later one.fault refl (follow one.after first later)

pub turns_follow : TurnsFollow
turns_follow found new state first later = follow found new state first later
