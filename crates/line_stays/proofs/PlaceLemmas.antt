-- Where the lines of each logical line stand among all lines, and that these are the pieces of a logical line of the text.
use Rattle.std.proofs.Common.{◌≡◌, inl, inr, ℕ, zero, suc, ◌+◌, ◌-◌, ◌<◌, ◌≤◌, Bool, true, false, List, [], ◌∷◌, ◌++◌, length, map, take, Some, refl, ap, sym, subst, ◌∙◌, arith, length-append}
use Rattle.std.specs.Prelude.{if◌then◌else◌, is_some, option_map, slice_get, unwrap_or}
use Rattle.std.specs.List.{AllByRecursion}
use Rattle.std.proofs.lemmas.Bool.{both_ways, cases_lt}
use Rattle.std.proofs.lemmas.List.{length-map}
use Rattle.std.proofs.lemmas.Option.{slice_get-map}
use Rattle.plain_screen.specs.declared.piece.Piece.{Piece}
use Rattle.plain_screen.specs.declared.screen.Line.{Line}
use Rattle.plain_screen.specs.Touched.{begins_logical, by_logical_lines, first_of, lines_in, onto_logical}
use Rattle.plain_screen.proofs.callers.OwnLemmas.{HasOwn, get_piece}

-- ---- the groups of lines

onto-lines : (line : Line) (groups : List (List Line)) → lines_in (onto_logical line groups) ≡ line ∷ lines_in groups
onto-lines line [] = refl
onto-lines line (group ∷ groups) = by (begins_logical group)
  where
    by : (b : Bool) → lines_in (if b then (line ∷ []) ∷ group ∷ groups else (line ∷ group) ∷ groups) ≡ line ∷ lines_in (group ∷ groups)
    by true = refl
    by false = refl

-- together they are all lines
pub lines-grouped : (lines : List Line) → lines_in (by_logical_lines lines) ≡ lines
lines-grouped [] = refl
lines-grouped (line ∷ lines) = onto-lines line (by_logical_lines lines) ∙ ap (λ ls. line ∷ ls) (lines-grouped lines)

-- a line that has no number
abbrev HasNone : Line → Type 0
HasNone line = is_some line.ln ≡ false

-- none but the first of a logical line has one
abbrev IsGroup : List Line → Type 0
IsGroup [] = ⊥
IsGroup (line ∷ lines) = AllByRecursion HasNone lines

-- and each begins with one, but the first
abbrev AreGroups : List (List Line) → Type 0
AreGroups [] = Unit {0}
AreGroups (group ∷ groups) = IsGroup group × AllByRecursion (λ g. IsGroup g × (begins_logical g ≡ true)) groups

groups-onto : (line : Line) (groups : List (List Line)) → AreGroups groups → AreGroups (onto_logical line groups)
groups-onto line [] are = (tt, tt)
groups-onto line ([] ∷ groups) are = absurd are.0
groups-onto line ((next ∷ lines) ∷ groups) are = by (is_some next.ln) refl
  where
    by : (b : Bool) → is_some next.ln ≡ b →
        AreGroups (if b then (line ∷ []) ∷ (next ∷ lines) ∷ groups else (line ∷ next ∷ lines) ∷ groups)
    by true is = (tt, ((are.0, is), are.1))
    by false is = ((is, are.0), are.1)

pub groups-are : (lines : List Line) → AreGroups (by_logical_lines lines)
groups-are [] = tt
groups-are (line ∷ lines) = groups-onto line (by_logical_lines lines) (groups-are lines)

-- ---- the group of a line

-- the line with an index is one of this group
pub record StandsIn (groups : List (List Line)) (at i : ℕ) (lines : List Line) : Type 0 where
  pub is : slice_get groups i ≡ Some lines
  pub low : first_of groups i ≤ at
  pub high : at < first_of groups i + length lines

pub stands-in : (groups : List (List Line)) (at : ℕ) → at < length (lines_in groups) → (i : ℕ) × (lines : List Line) × StandsIn groups at i lines
stands-in [] at less = absurd (omega (arith, less))
stands-in (group ∷ groups) at less = elim (cases_lt at (length group)) [
  | inl own ↦ (0, group, record { is = refl; low = omega arith; high = omega (arith, own) })
  | inr past ↦
      let rest = stands-in groups (at - length group) (omega (arith, less, past, length-append group (lines_in groups))) in
      let first = length-append group (lines_in (take rest.0 groups)) in (
        suc rest.0,
        rest.1,
        record {
          is = rest.2.is;
          low = omega (arith, first, past, rest.2.low);
          high = omega (arith, first, past, rest.2.high);
        },
      )
]

got-left : {X : Type 0} (xs ys : List X) (k : ℕ) → k < length xs → slice_get (xs ++ ys) k ≡ slice_get xs k
got-left [] ys k less = absurd (omega (arith, less))
got-left (x ∷ xs) ys zero less = refl
got-left (x ∷ xs) ys (suc k) less = got-left xs ys k (omega (arith, less))

got-right : {X : Type 0} (xs ys : List X) (k : ℕ) → slice_get (xs ++ ys) (length xs + k) ≡ slice_get ys k
got-right [] ys k = let none : 0 + k ≡ k = omega arith in ap (slice_get ys) none
got-right (x ∷ xs) ys k = let on : length (x ∷ xs) + k ≡ suc (length xs + k) = omega arith in ap (slice_get (x ∷ (xs ++ ys))) on ∙ got-right xs ys k

-- a line of a group, among all
pub line-in : (groups : List (List Line)) (i k : ℕ) (lines : List Line) → slice_get groups i ≡ Some lines → k < length lines →
    slice_get (lines_in groups) (first_of groups i + k) ≡ slice_get lines k
line-in [] i k lines is less = absurd cc
line-in (group ∷ groups) zero k lines is less =
    let same : group ≡ lines = ap (λ o. unwrap_or o group) is in
    let none : 0 + k ≡ k = omega arith in
    ap (slice_get (group ++ lines_in groups)) none ∙ got-left group (lines_in groups) k (omega (arith, less, ap length same)) ∙ ap (λ ls. slice_get ls k) same
line-in (group ∷ groups) (suc i) k lines is less =
    let on : length (group ++ lines_in (take i groups)) + k ≡ length group + (first_of groups i + k) =
    omega (arith, length-append group (lines_in (take i groups))) in
    ap (slice_get (group ++ lines_in groups)) on ∙ got-right group (lines_in groups) (first_of groups i + k) ∙ line-in groups i k lines is less

-- the next group begins where it ends
pub first-next : (groups : List (List Line)) (i : ℕ) (lines : List Line) → slice_get groups i ≡ Some lines →
    first_of groups (suc i) ≡ first_of groups i + length lines
first-next [] i lines is = absurd cc
first-next (group ∷ groups) zero lines is =
    let same : group ≡ lines = ap (λ o. unwrap_or o group) is in omega (arith, length-append group [], ap length same)
first-next (group ∷ groups) (suc i) lines is =
    omega (
      arith,
      first-next groups i lines is,
      length-append group (lines_in (take (suc i) groups)),
      length-append group (lines_in (take i groups)),
    )

-- and is the last one, or there is a next
next-there : (groups : List (List Line)) (i : ℕ) (lines : List Line) → slice_get groups i ≡ Some lines → first_of groups i + length lines < length (lines_in groups) →
    (next : List Line) × (slice_get groups (suc i) ≡ Some next)
next-there [] i lines is less = absurd cc
next-there (group ∷ []) zero lines is less =
    let same : group ≡ lines = ap (λ o. unwrap_or o group) is in absurd (omega (arith, less, ap length same, length-append group []))
next-there (group ∷ next ∷ groups) zero lines is less = (next, refl)
next-there (group ∷ groups) (suc i) lines is less =
    next-there groups i lines is
    (omega (arith, less, length-append group (lines_in (take i groups)), length-append group (lines_in groups)))

-- ---- numbers

all-at : (P : Line → Type 0) (lines : List Line) (k : ℕ) (line : Line) → AllByRecursion P lines → slice_get lines k ≡ Some line → P line
all-at P [] k line all is = absurd cc
all-at P (first ∷ lines) zero line all is = subst P (ap (λ o. unwrap_or o first) is) all.0
all-at P (first ∷ lines) (suc k) line all is = all-at P lines k line all.1 is

group-at : (groups : List (List Line)) (i : ℕ) (lines : List Line) → AreGroups groups → slice_get groups i ≡ Some lines → IsGroup lines
group-at [] i lines are is = absurd cc
group-at (group ∷ groups) zero lines are is = subst IsGroup (ap (λ o. unwrap_or o group) is) are.0
group-at (group ∷ groups) (suc i) lines are is = later groups i are.1 is
  where
    later : (rest : List (List Line)) (k : ℕ) → AllByRecursion (λ g. IsGroup g × (begins_logical g ≡ true)) rest → slice_get rest k ≡ Some lines → IsGroup lines
    later [] k all found = absurd cc
    later (first ∷ rest) zero all found = subst IsGroup (ap (λ o. unwrap_or o first) found) all.0.0
    later (first ∷ rest) (suc k) all found = later rest k all.1 found

begins-at : (groups : List (List Line)) (i : ℕ) (lines : List Line) → AreGroups groups → slice_get groups (suc i) ≡ Some lines → begins_logical lines ≡ true
begins-at [] i lines are is = absurd cc
begins-at (group ∷ groups) i lines are is = later groups i are.1 is
  where
    later : (rest : List (List Line)) (k : ℕ) → AllByRecursion (λ g. IsGroup g × (begins_logical g ≡ true)) rest → slice_get rest k ≡ Some lines →
        begins_logical lines ≡ true
    later [] k all found = absurd cc
    later (first ∷ rest) zero all found = subst (λ g. begins_logical g ≡ true) (ap (λ o. unwrap_or o first) found) all.0.1
    later (first ∷ rest) (suc k) all found = later rest k all.1 found

-- the first line of a later group has a number
first-numbered : (lines : List Line) (line : Line) → IsGroup lines → begins_logical lines ≡ true → slice_get lines 0 ≡ Some line → is_some line.ln ≡ true
first-numbered [] line group begins is = absurd group
first-numbered (first ∷ lines) line group begins is = subst (λ (l : Line). is_some l.ln ≡ true) (ap (λ o. unwrap_or o first) is) begins

-- none of the others has
rest-none : (lines : List Line) (k : ℕ) (line : Line) → IsGroup lines → 0 < k → slice_get lines k ≡ Some line → is_some line.ln ≡ false
rest-none [] k line group some is = absurd group
rest-none (first ∷ lines) zero line group some is = absurd (omega (arith, some))
rest-none (first ∷ lines) (suc k) line group some is = all-at HasNone lines k line group is

some-lines : (lines : List Line) → IsGroup lines → 0 < length lines
some-lines [] group = absurd group
some-lines (line ∷ lines) group = omega arith

module _ (draw : Piece → Line) (keeps : (piece : Piece) → (draw piece).ln ≡ piece.ln) (text : List ℕ) (pieces : List Piece) where
  abbrev groups : List (List Line)
  groups = by_logical_lines (map draw pieces)

  -- a piece is drawn as the line at its place
  drawn-at : (i k : ℕ) (lines : List Line) (piece : Piece) → slice_get groups i ≡ Some lines → k < length lines →
      slice_get pieces (first_of groups i + k) ≡ Some piece → slice_get lines k ≡ Some (draw piece)
  drawn-at i k lines piece is less there =
      sym (line-in groups i k lines is less) ∙ ap (λ ls. slice_get ls (first_of groups i + k)) (lines-grouped (map draw pieces)) ∙
      slice_get-map draw pieces (first_of groups i + k) ∙ ap (option_map draw) there

  module _ (at i first past : ℕ) (lines : List Line) (stands : StandsIn groups at i lines) (own : HasOwn text pieces at first past) where
    long : length (lines_in groups) ≡ length pieces
    long = ap length (lines-grouped (map draw pieces)) ∙ length-map pieces draw

    group : IsGroup lines
    group = group-at groups i lines (groups-are (map draw pieces)) stands.is

    abbrev start : ℕ
    start = first_of groups i

    -- a piece of the group but the first has no number
    none-inside : (j : ℕ) (piece : Piece) → start < j → j < start + length lines → slice_get pieces j ≡ Some piece → is_some piece.ln ≡ false
    none-inside j piece low high is =
        let on : start + (j - start) ≡ j = omega (arith, low) in
        sym (ap is_some (keeps piece)) ∙
        rest-none lines (j - start) (draw piece) group (omega (arith, low))
        (drawn-at i (j - start) lines piece stands.is (omega (arith, low, high)) (ap (slice_get pieces) on ∙ is))

    -- the first of a later group has one
    some-first : (k : ℕ) (piece : Piece) (others : List Line) → slice_get groups (suc k) ≡ Some others → slice_get pieces (first_of groups (suc k)) ≡ Some piece →
        is_some piece.ln ≡ true
    some-first k piece others is there =
        let they = group-at groups (suc k) others (groups-are (map draw pieces)) is in
        let none : first_of groups (suc k) + 0 ≡ first_of groups (suc k) = omega arith in
        sym (ap is_some (keeps piece)) ∙
        first-numbered others (draw piece) they (begins-at groups k others (groups-are (map draw pieces)) is)
        (drawn-at (suc k) 0 others piece is (some-lines others they) (ap (slice_get pieces) none ∙ there))

    -- THE PIECES OF A LOGICAL LINE of the text are those of the group
    pub first-is : first ≡ start
    first-is = elim (cases_lt first start) [
      | inl before ↦
          let piece = get_piece pieces start (omega (arith, own.high, own.inside, stands.low)) in
          absurd (both_ways (is_some piece.0.ln) (own.rest start piece.0 before (omega (arith, own.high, stands.low)) piece.1) (later i stands.is piece.0 piece.1 before))
      | inr ge ↦ elim (cases_lt start first) [
        | inl after ↦
            let piece = get_piece pieces first (omega (arith, own.low, own.high, own.inside)) in
            absurd (both_ways (is_some piece.0.ln) (none-inside first piece.0 after (omega (arith, own.low, stands.high)) piece.1) (own.start piece.0 piece.1).1)
        | inr le ↦ omega (arith, ge, le)
      ]
    ]
      where
        later : (index : ℕ) → slice_get groups index ≡ Some lines → (piece : Piece) → slice_get pieces (first_of groups index) ≡ Some piece →
            first < first_of groups index → is_some piece.ln ≡ true
        later zero is piece there before = absurd (omega (arith, before))
        later (suc k) is piece there before = some-first k piece lines is there

    pub past-is : past ≡ start + length lines
    past-is = elim (cases_lt past (start + length lines)) [
      | inl before ↦
          let inside : past < length pieces = elim (cases_lt past (length pieces)) [
            | inl less ↦ less
            | inr all ↦ absurd (omega (arith, all, before, ends, long))
          ] in
          let piece = get_piece pieces past inside in
          absurd (both_ways (is_some piece.0.ln) (none-inside past piece.0 (omega (arith, own.high, stands.low)) before piece.1) (own.next piece.0 piece.1).1)
      | inr ge ↦ elim (cases_lt (start + length lines) past) [
        | inl after ↦
            let next = next-there groups i lines stands.is (omega (arith, after, own.inside, long)) in
            let at_next = first-next groups i lines stands.is in
            let piece = get_piece pieces (start + length lines) (omega (arith, after, own.inside)) in
            absurd (both_ways (is_some piece.0.ln) (own.rest (start + length lines) piece.0 (omega (arith, own.low, stands.high)) after piece.1)
            (some-first i piece.0 next.0 next.1 (ap (slice_get pieces) at_next ∙ piece.1)))
        | inr le ↦ omega (arith, ge, le)
      ]
    ]
      where
        ends : start + length lines ≤ length (lines_in groups)
        ends = within groups i stands.is
          where
            within : (gs : List (List Line)) (k : ℕ) → slice_get gs k ≡ Some lines → first_of gs k + length lines ≤ length (lines_in gs)
            within [] k is = absurd cc
            within (g ∷ gs) zero is = let same : g ≡ lines = ap (λ o. unwrap_or o g) is in omega (arith, length-append g (lines_in gs), ap length same)
            within (g ∷ gs) (suc k) is =
                omega (arith, within gs k is, length-append g (lines_in (take k gs)), length-append g (lines_in gs))
