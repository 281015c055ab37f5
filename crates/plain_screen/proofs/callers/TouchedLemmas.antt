-- Lemmas on touched lines: the partners of a layout rise, and each may be taken over for its line.
use Rattle.std.proofs.Common.{◌≡◌, ◌⊎◌, inl, inr, ℕ, zero, suc, ◌+◌, ◌-◌, ◌<◌, ◌≤◌, Bool, true, false, List, [], ◌∷◌, ◌++◌, length, map, take, Option, Some, None, refl, ap, sym, subst, ◌∙◌, arith, length-append}
use Rattle.std.specs.Prelude.{if◌then◌else◌, slice_get, nat_lt, unwrap_or}
use Rattle.std.specs.List.{enumerate_from, flat_map}
use Rattle.std.specs.Cmp.Lexicographic.{pointwise, as_long}
use Rattle.std.proofs.lemmas.Bool.{lt-ltb, le-ltb, cases_lt, and_parts, true≢false}
use Rattle.std.proofs.lemmas.List.{map-append}
use Rattle.plain_text.specs.declared.run.Run.{Run}
use Rattle.plain_screen.specs.declared.screen.Line.{Line}
use Rattle.plain_screen.specs.Screen.{Screen, numbered, restyled}
use Rattle.plain_screen.specs.Plan.{IsSameButNumber, CanBeTaken, ArePartners, restyle_of}
use Rattle.plain_screen.specs.Touched.{counterpart, is_same_but_number, is_same_text, begins_logical, onto_logical, by_logical_lines, lines_in, first_of, are_alike, partners_in, partners_of, TouchesNoOthers, if_valid, valid_partner, valid_partners}
use Rattle.plain_screen.proofs.callers.SameLemmas.{is_same_line-Decides}

-- ---- the same but for numbers

renumbered : (line : Line) (number : ℕ) →
    numbered line.ln number line ≡ numbered (numbered line.ln 0 line).ln number (numbered line.ln 0 line)
renumbered line number = by line.ln refl
  where
    by : (ln : Option ℕ) → line.ln ≡ ln → numbered ln number line ≡ numbered (numbered ln 0 line).ln number (numbered ln 0 line)
    by None is = ap (λ n. numbered n number line) (sym is)
    by (Some m) is = refl

IsSameButNumber-test : (line other : Line) → is_same_but_number line other ≡ true → IsSameButNumber line other
IsSameButNumber-test line other same number =
    let zero_alike = (is_same_line-Decides (numbered line.ln 0 line) (numbered other.ln 0 other)).0 same in
    renumbered line number ∙ ap (λ (l : Line). numbered l.ln number l) zero_alike ∙ sym (renumbered other number)

-- by the tests a line may be taken over
CanBeTaken-same : (line other : Line) → is_same_but_number line other ≡ true → CanBeTaken true line other
CanBeTaken-same line other same = IsSameButNumber-test line other same

CanBeTaken-text : (line other : Line) → is_same_text line other ≡ true → CanBeTaken false line other
CanBeTaken-text line other same = IsSameButNumber-test (restyled (restyle_of other) line) other same

-- ---- the logical lines of a layout

lines_in-by_logical_lines : (lines : List Line) → lines_in (by_logical_lines lines) ≡ lines
lines_in-by_logical_lines [] = refl
lines_in-by_logical_lines (line ∷ lines) = one (by_logical_lines lines) ∙ ap (λ ls. line ∷ ls) (lines_in-by_logical_lines lines)
  where
    by : (b : Bool) (first : List Line) (others : List (List Line)) →
        lines_in (if b then (line ∷ []) ∷ first ∷ others else (line ∷ first) ∷ others) ≡ line ∷ lines_in (first ∷ others)
    by true first others = refl
    by false first others = refl

    one : (groups : List (List Line)) → lines_in (onto_logical line groups) ≡ line ∷ lines_in groups
    one [] = refl
    one (first ∷ others) = by (begins_logical first) first others

get-left : {X : Type 0} (xs ys : List X) (k : ℕ) → k < length xs → slice_get (xs ++ ys) k ≡ slice_get xs k
get-left [] ys k lt = absurd (omega arith)
get-left (x ∷ xs) ys zero lt = refl
get-left (x ∷ xs) ys (suc k) lt = get-left xs ys k (omega arith)

get-right : {X : Type 0} (xs ys : List X) (k : ℕ) → slice_get (xs ++ ys) (length xs + k) ≡ slice_get ys k
get-right [] ys k = let same : 0 + k ≡ k = omega arith in ap (slice_get ys) same
get-right (x ∷ xs) ys k = let next : suc (length xs) + k ≡ suc (length xs + k) = omega arith in ap (slice_get (x ∷ xs ++ ys)) next ∙ get-right xs ys k

get-lines_in : (groups : List (List Line)) (index k : ℕ) (group : List Line) → slice_get groups index ≡ Some group → k < length group →
    slice_get (lines_in groups) (first_of groups index + k) ≡ slice_get group k
get-lines_in [] index k group is lt = absurd cc
get-lines_in (first ∷ groups) zero k group is lt =
    let same : first ≡ group = ap (λ o. unwrap_or o first) is in
    let start : 0 + k ≡ k = omega arith in
    ap (slice_get (first ++ lines_in groups)) start ∙
    get-left first (lines_in groups) k (subst (λ (g : List Line). k < length g) (sym same) lt) ∙ ap (λ g. slice_get g k) same
get-lines_in (first ∷ groups) (suc index) k group is lt =
    let sum : length (first ++ lines_in (take index groups)) + k ≡ length first + (first_of groups index + k) =
    omega (arith, length-append first (lines_in (take index groups))) in
    ap (slice_get (first ++ lines_in groups)) sum ∙ get-right first (lines_in groups) (first_of groups index + k) ∙
    get-lines_in groups index k group is lt

first_of-after : (groups : List (List Line)) (index later : ℕ) (group : List Line) → slice_get groups index ≡ Some group → index < later →
    first_of groups index + length group ≤ first_of groups later
first_of-after [] index later group is lt = absurd cc
first_of-after (first ∷ groups) index zero group is lt = absurd (omega arith)
first_of-after (first ∷ groups) zero (suc later) group is lt =
    let same : length first ≡ length group = ap (λ o. length (unwrap_or o first)) is in
    omega (arith, length-append first (lines_in (take later groups)))
first_of-after (first ∷ groups) (suc index) (suc later) group is lt =
    let rest = first_of-after groups index later group is (omega arith) in
    omega (arith, length-append first (lines_in (take later groups)), length-append first (lines_in (take index groups)))

-- ---- counterparts rise

record IsCounterpart (touched : Run) (old new index other : ℕ) : Type 0 where
  pub is : ((index < touched.start) × (other ≡ index)) ⊎ ((touched.start ≤ index) × (touched.end ≤ index) × (other ≡ old - (new - index)))

IsCounterpart-some : (touched : Run) (old new index other : ℕ) → counterpart touched old new index ≡ Some other → IsCounterpart touched old new index other
IsCounterpart-some touched old new index other is = by (nat_lt index touched.start) (nat_lt index touched.end) refl refl is
  where
    low : nat_lt index touched.start ≡ false → touched.start ≤ index
    low test = elim (cases_lt index touched.start) [ inl lt ↦ absurd (true≢false (sym (lt-ltb index touched.start lt) ∙ test)) | inr le ↦ le ]

    high : nat_lt index touched.end ≡ false → touched.end ≤ index
    high test = elim (cases_lt index touched.end) [ inl lt ↦ absurd (true≢false (sym (lt-ltb index touched.end lt) ∙ test)) | inr le ↦ le ]

    left : nat_lt index touched.start ≡ true → index < touched.start
    left test = elim (cases_lt index touched.start) [ inl lt ↦ lt | inr le ↦ absurd (true≢false (sym test ∙ le-ltb index touched.start le)) ]

    by : (a b : Bool) → nat_lt index touched.start ≡ a → nat_lt index touched.end ≡ b →
        (if a then Some index else (if b then None else Some (old - (new - index)))) ≡ Some other → IsCounterpart touched old new index other
    by true b first second is = record { is = inl (left first, sym (ap (λ o. unwrap_or o index) is)) }
    by false true first second is = absurd cc
    by false false first second is =
        record { is = inr (low first, high second, sym (ap (λ o. unwrap_or o (old - (new - index))) is)) }

counterpart-rises : (touched : Run) (old new index later other next : ℕ) → touched.start + new ≤ old + touched.end → index < later → later < new →
    counterpart touched old new index ≡ Some other → counterpart touched old new later ≡ Some next → other < next
counterpart-rises touched old new index later other next room before inside one two =
    by (IsCounterpart-some touched old new index other one).is (IsCounterpart-some touched old new later next two).is
  where
    by : ((index < touched.start) × (other ≡ index)) ⊎ ((touched.start ≤ index) × (touched.end ≤ index) × (other ≡ old - (new - index))) →
        ((later < touched.start) × (next ≡ later)) ⊎ ((touched.start ≤ later) × (touched.end ≤ later) × (next ≡ old - (new - later))) → other < next
    by (inl a) (inl b) = let x = a.1 in let y = b.1 in omega arith
    by (inl a) (inr b) = let x = a.1 in let lt = a.0 in let y = b.2 in let le = b.1 in omega arith
    by (inr a) (inl b) = let x = a.0 in let y = b.0 in omega arith
    by (inr a) (inr b) = let x = a.2 in let y = b.2 in let lea = a.1 in let leb = b.1 in omega arith

-- ---- the partners

ArePartners-lower : (screen : Screen) (low from : ℕ) (partners : List (Option (ℕ × Bool))) (lines : List Line) → low ≤ from →
    ArePartners screen from partners lines → ArePartners screen low partners lines
ArePartners-lower screen low from partners [] lower are = tt
ArePartners-lower screen low from [] (line ∷ lines) lower are = tt
ArePartners-lower screen low from (None ∷ partners) (line ∷ lines) lower are = ArePartners-lower screen low from partners lines lower are
ArePartners-lower screen low from (Some (old, same) ∷ partners) (line ∷ lines) lower are = (let le = are.0 in omega arith, are.1, are.2)

-- the lines that are valid on the screen from an index on may be taken over for these
abbrev AreShown : Bool → Screen → ℕ → List Line → Type 0
AreShown same screen old [] = Unit {0}
AreShown same screen old (line ∷ lines) =
    ((shown : Line) → slice_get screen old ≡ Some (Some shown) → CanBeTaken same shown line) × AreShown same screen (old + 1) lines

-- the partners of a logical line with a counterpart whose first line has this index
abbrev with_partners : ℕ → Bool → List Line → List (Option (ℕ × Bool))
with_partners old same lines = map (λ (at, line). Some (at, same)) (enumerate_from old lines)

partners-taken : (screen : Screen) (same : Bool) (from old : ℕ) (group lines : List Line) (partners : List (Option (ℕ × Bool))) → from ≤ old →
    AreShown same screen old group → ArePartners screen (old + length group) partners lines →
    ArePartners screen from (map (valid_partner screen) (with_partners old same group) ++ partners) (group ++ lines)
partners-taken screen same from old [] lines partners le shown rest = ArePartners-lower screen from (old + 0) partners lines (omega arith) rest
partners-taken screen same from old (line ∷ group) lines partners le shown rest =
    let sum : old + suc (length group) ≡ old + 1 + length group = omega arith in
    by (slice_get screen old) refl
    (partners-taken screen same (old + 1) (old + 1) group lines partners (omega arith) shown.1
    (subst (λ (n : ℕ). ArePartners screen n partners lines) sum rest))
  where
    by : (o : Option (Option Line)) → slice_get screen old ≡ o →
        ArePartners screen (old + 1) (map (valid_partner screen) (with_partners (old + 1) same group) ++ partners) (group ++ lines) →
        ArePartners screen from
        (if_valid o (Some (old, same)) ∷ (map (valid_partner screen) (with_partners (old + 1) same group) ++ partners)) (line ∷ (group ++ lines))
    by None is rest = ArePartners-lower screen from (old + 1) _ (group ++ lines) (omega arith) rest
    by (Some None) is rest = ArePartners-lower screen from (old + 1) _ (group ++ lines) (omega arith) rest
    by (Some (Some found)) is rest = (le, record { shown = found; is = is; can = shown.0 found is }, rest)

partners-none : (screen : Screen) (from : ℕ) (group lines : List Line) (partners : List (Option (ℕ × Bool))) → ArePartners screen from partners lines →
    ArePartners screen from (map (valid_partner screen) (map (λ line. None) group) ++ partners) (group ++ lines)
partners-none screen from [] lines partners rest = rest
partners-none screen from (line ∷ group) lines partners rest = partners-none screen from group lines partners rest

-- the lines of a counterpart, by a test that tells that they may be taken over
AreShown-by : (same : Bool) (test : Line → Line → Bool) → ((line other : Line) → test line other ≡ true → CanBeTaken same line other) →
    (screen : Screen) (before : List Line) (old : ℕ) (lines group : List Line) →
    ((i : ℕ) (line : Line) → slice_get screen i ≡ Some (Some line) → slice_get before i ≡ Some line) →
    ((k : ℕ) → k < length lines → slice_get before (old + k) ≡ slice_get lines k) → pointwise test lines group ≡ true →
    AreShown same screen old group
AreShown-by same test tells screen before old lines [] shows there alike = tt
AreShown-by same test tells screen before old [] (line ∷ group) shows there alike = absurd cc
AreShown-by same test tells screen before old (first ∷ lines) (line ∷ group) shows there alike =
    let start : old + 0 ≡ old = omega arith in
    let here : slice_get before old ≡ Some first = ap (slice_get before) (sym start) ∙ there 0 (omega arith) in
    let both = and_parts (test first line) (pointwise test lines group) alike in (
      λ shown is.
          let is_first : shown ≡ first = ap (λ o. unwrap_or o shown) (sym (shows old shown is) ∙ here) in
          subst (λ (l : Line). CanBeTaken same l line) (sym is_first) (tells first line both.0),
      AreShown-by same test tells screen before (old + 1) lines group shows
          (λ k lt. let sum : old + 1 + k ≡ old + suc k = omega arith in ap (slice_get before) sum ∙ there (suc k) (omega arith)) both.1,
    )

-- by the test of what is the same where that holds, and by that of the texts else
AreShown-counterpart : (screen : Screen) (before : List Line) (old : ℕ) (lines group : List Line) (same : Bool) →
    pointwise is_same_but_number lines group ≡ same → pointwise is_same_text lines group ≡ true →
    ((i : ℕ) (line : Line) → slice_get screen i ≡ Some (Some line) → slice_get before i ≡ Some line) →
    ((k : ℕ) → k < length lines → slice_get before (old + k) ≡ slice_get lines k) → AreShown same screen old group
AreShown-counterpart screen before old lines group true alike texts shows there =
    AreShown-by true is_same_but_number CanBeTaken-same screen before old lines group shows there alike
AreShown-counterpart screen before old lines group false alike texts shows there =
    AreShown-by false is_same_text CanBeTaken-text screen before old lines group shows there texts

module _ (screen : Screen) (touched : Run) (before after : List Line) (no_others : TouchesNoOthers touched before after)
    (shows : (i : ℕ) (line : Line) → slice_get screen i ≡ Some (Some line) → slice_get before i ≡ Some line) where
  -- the counterpart of a logical line
  abbrev other_of : ℕ → Option ℕ
  other_of index = counterpart touched (length (by_logical_lines before)) (length (by_logical_lines after)) index

  abbrev partners_from : ℕ → List (List Line) → List (Option (ℕ × Bool))
  partners_from index groups = flat_map (λ (i, lines). partners_in (by_logical_lines before) (other_of i) lines) (enumerate_from index groups)

  -- the counterparts of the logical lines from this index on begin at or after an old line
  abbrev BeginFrom : ℕ → ℕ → Type 0
  BeginFrom index from =
      (later other : ℕ) → index ≤ later → later < length (by_logical_lines after) → other_of later ≡ Some other → from ≤ first_of (by_logical_lines before) other

  partners-rest : (index from : ℕ) (groups : List (List Line)) → index + length groups ≡ length (by_logical_lines after) →
      ((k : ℕ) → slice_get (by_logical_lines after) (index + k) ≡ slice_get groups k) → BeginFrom index from →
      ArePartners screen from (map (valid_partner screen) (partners_from index groups)) (lines_in groups)
  partners-rest index from [] sum there begin = tt
  partners-rest index from (group ∷ groups) sum there begin =
      subst (λ (partners : List (Option (ℕ × Bool))). ArePartners screen from partners (group ++ lines_in groups))
      (sym (map-append (valid_partner screen) (partners_in (by_logical_lines before) (other_of index) group) (partners_from (index + 1) groups)))
      (by (other_of index) refl
      (λ next begins. partners-rest (index + 1) next groups (omega arith)
      (λ k. let onward : index + 1 + k ≡ index + suc k = omega arith in ap (slice_get (by_logical_lines after)) onward ∙ there (suc k)) begins))
    where
      Rest : Type 0
      Rest = (next : ℕ) → BeginFrom (index + 1) next → ArePartners screen next (map (valid_partner screen) (partners_from (index + 1) groups)) (lines_in groups)

      here : slice_get (by_logical_lines after) index ≡ Some group
      here = let start : index ≡ index + 0 = omega arith in ap (slice_get (by_logical_lines after)) start ∙ there 0

      by_group : (other : ℕ) (was : Option (List Line)) → other_of index ≡ Some other → slice_get (by_logical_lines before) other ≡ was →
          are_alike is_same_text was group ≡ true → Rest →
          ArePartners screen from
          (map (valid_partner screen) (with_partners (first_of (by_logical_lines before) other) (are_alike is_same_but_number was group) group) ++
          map (valid_partner screen) (partners_from (index + 1) groups)) (group ++ lines_in groups)
      by_group other None is at texts rest = absurd cc
      by_group other (Some was) is at texts rest =
          let long : length was ≡ length group = as_long is_same_text was group texts in
          let first = first_of (by_logical_lines before) other in
          partners-taken screen (pointwise is_same_but_number was group) from first group (lines_in groups)
          (map (valid_partner screen) (partners_from (index + 1) groups)) (begin index other (omega arith) (omega arith) is)
          (AreShown-counterpart screen before first was group (pointwise is_same_but_number was group) refl texts shows
          (λ k lt. ap (λ ls. slice_get ls (first + k)) (sym (lines_in-by_logical_lines before)) ∙ get-lines_in (by_logical_lines before) other k was at lt))
          (rest (first + length group)
          (λ later next le lt found.
          let rises =
          counterpart-rises touched (length (by_logical_lines before)) (length (by_logical_lines after)) index later other next no_others.room (omega arith) lt is found in
          omega (arith, first_of-after (by_logical_lines before) other next was at rises, long)))

      by : (o : Option ℕ) → other_of index ≡ o → Rest →
          ArePartners screen from
          (map (valid_partner screen) (partners_in (by_logical_lines before) o group) ++ map (valid_partner screen) (partners_from (index + 1) groups))
          (group ++ lines_in groups)
      by None is rest =
          partners-none screen from group (lines_in groups) (map (valid_partner screen) (partners_from (index + 1) groups))
          (rest from (λ later other le lt found. begin later other (omega arith) lt found))
      by (Some other) is rest =
          by_group other (slice_get (by_logical_lines before) other) is refl (no_others.texts index other group here is) rest

-- THE PARTNERS of the lines of a layout, those that are valid on a screen that shows the lines before, are partners that rise
pub ArePartners-partners_of : (screen : Screen) (touched : Run) (before after : List Line) → TouchesNoOthers touched before after →
    ((i : ℕ) (line : Line) → slice_get screen i ≡ Some (Some line) → slice_get before i ≡ Some line) →
    ArePartners screen 0 (valid_partners screen (partners_of touched before after)) after
ArePartners-partners_of screen touched before after no_others shows =
    subst (ArePartners screen 0 (valid_partners screen (partners_of touched before after))) (lines_in-by_logical_lines after)
    (partners-rest screen touched before after no_others shows 0 0 (by_logical_lines after) (omega arith)
    (λ k. let start : 0 + k ≡ k = omega arith in ap (slice_get (by_logical_lines after)) start) (λ later other le lt is. omega arith))
