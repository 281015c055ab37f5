-- Stack and history go on to agree after each step.
use Rattle.std.proofs.Common.{◌≡◌, ℕ, zero, suc, ◌+◌, ◌-◌, ◌<◌, ◌≤◌, Bool, true, false, not, ◌&&◌, ◌||◌, if◌then◌else◌, nat_lt, nat_le, ◌==◌, List, [], ◌∷◌, ◌++◌, length, take, drop, get_or, Option, Some, None, refl, ap, ap₂, sym, ◌∙◌, inl, inr, arith, take_all}
use Rattle.std.specs.List.{list_any}
use Rattle.std.proofs.lemmas.Bool.{cases_eq, cases_lt, and_parts, and_from, or_cases, or_left, or_right, eqb-true, eq-eqb, ne_eqb, ltb-true, leb-true, lt-ltb, le-leb}
use Rattle.std.proofs.lemmas.List.{length-drop, length_push, take-append-drop, take-append-le, take_more, get_or-drop, get_or_push}
use Rattle.std.proofs.lemmas.List.Folds.{list_any-append}
use Rattle.plain_text.specs.Numbers.{has}
use Rattle.plain_text.proofs.callers.NumberLemmas.{has-with_numbers}
use Rattle.number_set.proofs.ForCallers.{no, absent, has-append, has-own, has-take}
use Rattle.plain_edits.specs.History.{Revision, edit, undo, undone}
use Rattle.plain_edits.specs.Edits.{is_edit_of}
use Rattle.plain_edits.proofs.callers.HistoryLemmas.{undone-edit, undone-undo}
use Rattle.undo_groups.specs.Groups.{Groups, IsStack, grown, excess, retiring, after_opening, is_known, next_undo, no_groups}
use Rattle.edit_groups.specs.declared.typing.Kind.{Kind}
use Rattle.edit_groups.specs.declared.typing.Typing.{Typing}
use Rattle.edit_groups.specs.Grouping.{group_by, groups_by, run_group}
use Rattle.edit_groups.specs.Typing.{is_same_kind, run_on, run_with}
use Rattle.doc_text.specs.Agree.{Agree, AreInOrder, IsNewest, is_given}
use Rattle.doc_text.specs.Inner.{IsTurned}

-- ---- truths

same_truth : (a b : Bool) → (a ≡ true → b ≡ true) → (b ≡ true → a ≡ true) → a ≡ b
same_truth true true up down = refl
same_truth true false up down = sym (up refl)
same_truth false true up down = down refl
same_truth false false up down = refl

or-false : (b : Bool) → (b || false) ≡ b
or-false true = refl
or-false false = refl

parted_again : (a b r d t m : Bool) → (a || b) ≡ (t || (m || false)) → (b || (r || (d || a))) ≡ (((t || d) || r) || m)
parted_again a b r d t m is =
    same_truth (b || (r || (d || a))) (((t || d) || r) || m)
    (λ some. elim (or_cases b (r || (d || a)) some) [
      | inl left ↦ back (sym is ∙ or_right a b left)
      | inr rest ↦ elim (or_cases r (d || a) rest) [
        | inl retired ↦ or_left ((t || d) || r) m (or_right (t || d) r retired)
        | inr out ↦ elim (or_cases d a out) [
          | inl cut ↦ or_left ((t || d) || r) m (or_left (t || d) r (or_right t d cut))
          | inr oldest ↦ back (sym is ∙ or_left a b oldest)
        ]
      ]
    ])
    (λ some. elim (or_cases ((t || d) || r) m some) [
      | inl old ↦ elim (or_cases (t || d) r old) [
        | inl live ↦ elim (or_cases t d live) [
          | inl kept ↦ forth (is ∙ or_left t (m || false) kept)
          | inr cut ↦ or_right b (r || (d || a)) (or_right r (d || a) (or_left d a cut))
        ]
        | inr retired ↦ or_right b (r || (d || a)) (or_left r (d || a) retired)
      ]
      | inr new ↦ forth (is ∙ or_right t (m || false) (or_left m false new))
    ])
  where
    back : (t || (m || false)) ≡ true → (((t || d) || r) || m) ≡ true
    back some = elim (or_cases t (m || false) some) [
      | inl kept ↦ or_left ((t || d) || r) m (or_left (t || d) r (or_left t d kept))
      | inr new ↦ or_right ((t || d) || r) m (sym (or-false m) ∙ new)
    ]

    forth : (a || b) ≡ true → (b || (r || (d || a))) ≡ true
    forth some = elim (or_cases a b some) [
      | inl oldest ↦ or_right b (r || (d || a)) (or_right r (d || a) (or_right d a oldest))
      | inr left ↦ or_left b (r || (d || a)) left
    ]

-- ---- groups that were given out

is_given-parts : (groups : Groups) (group : ℕ) → is_given groups group ≡ true → (1 ≤ group) × (group ≤ groups.given)
is_given-parts groups group is =
    let parts = and_parts (nat_lt 0 group) (nat_le group groups.given) is in
    (ltb-true 0 group parts.0, leb-true group groups.given parts.1)

is_given-from : (groups : Groups) (group : ℕ) → 1 ≤ group → group ≤ groups.given → is_given groups group ≡ true
is_given-from groups group counts within =
    and_from (nat_lt 0 group) (nat_le group groups.given) (lt-ltb 0 group counts) (le-leb group groups.given within)

-- after one more group
is_given-opened : (groups : Groups) (group : ℕ) → is_given (after_opening groups) group ≡ (is_given groups group || (groups.given + 1 == group))
is_given-opened groups group =
    same_truth (is_given (after_opening groups) group) (is_given groups group || (groups.given + 1 == group))
    (λ given. let parts = is_given-parts (after_opening groups) group given in
    elim (cases_eq (groups.given + 1) group) [
      | inl new ↦ or_right (is_given groups group) (groups.given + 1 == group) (eq-eqb (groups.given + 1) group new)
      | inr old ↦ or_left (is_given groups group) (groups.given + 1 == group)
          (is_given-from groups group parts.0 (at_most group groups.given parts.1 old))
    ])
    (λ some. elim (or_cases (is_given groups group) (groups.given + 1 == group) some) [
      | inl old ↦ let parts = is_given-parts groups group old in is_given-from (after_opening groups) group parts.0 (omega (arith, parts.1))
      | inr new ↦ let same = eqb-true (groups.given + 1) group new in is_given-from (after_opening groups) group (omega (arith, same)) (omega (arith, same))
    ])
  where
    at_most : (g n : ℕ) → g ≤ n + 1 → (n + 1 ≡ g → ⊥) → g ≤ n
    at_most g n within other = elim (cases_lt n g) [ inl past ↦ absurd (other (omega (arith, within, past))) | inr here ↦ here ]

-- the stack knows one more
is_known-opened : (s : Groups) (group : ℕ) → is_known (after_opening s) group ≡ (is_known s group || (s.given + 1 == group))
is_known-opened s group =
    let all = grown s in
    let e = excess all in
    let live = has (drop e all) group in
    let both : (has (take e all) group || has (drop e all) group) ≡ (has (take s.index s.live) group || ((s.given + 1 == group) || false)) =
    sym (has-append (take e all) (drop e all) group) ∙ ap (λ xs. has xs group) (take-append-drop e all) ∙ has-append (take s.index s.live) ((s.given + 1) ∷ []) group in
    let was : (has (take s.index s.live) group || has (drop s.index s.live) group) ≡ has s.live group =
    sym (has-append (take s.index s.live) (drop s.index s.live) group) ∙ ap (λ xs. has xs group) (take-append-drop s.index s.live) in
    ap (λ r. live || r)
    (has-with_numbers s.retired (retiring s) group ∙ ap (λ r. has s.retired group || r) (has-append (drop s.index s.live) (take e all) group)) ∙
    parted_again (has (take e all) group) live (has s.retired group) (has (drop s.index s.live) group) (has (take s.index s.live) group) (s.given + 1 == group) both ∙
    ap (λ b. (b || has s.retired group) || (s.given + 1 == group)) was

-- an undo takes it
pub next_undo-opened : (s : Groups) → next_undo (after_opening s) ≡ Some (s.given + 1)
next_undo-opened s =
    let all = grown s in
    let e = excess all in
    let front = take s.index s.live in
    let long : length all ≡ length front + 1 = length_push front (s.given + 1) in
    let left : length (drop e all) ≡ length all - e = length-drop e all in
    let last : e + (length (drop e all) - 1) ≡ length front = omega (arith, long, left) in
    ap (λ b. if b then None else Some (get_or (drop e all) (length (drop e all) - 1) 0))
    (ne_eqb (length (drop e all)) 0 (λ none. omega (arith, none, long, left))) ∙
    ap Some (get_or-drop e all (length (drop e all) - 1) 0 ∙ get_or_push front (s.given + 1) 0 (e + (length (drop e all) - 1)) (sym last))

-- what an undo takes is the last live group that is not undone
pub record IsLast (s : Groups) (group : ℕ) : Type 0 where
  pub some : 0 < s.index
  pub is : get_or s.live (s.index - 1) 0 ≡ group

pub IsLast-next_undo : (s : Groups) (group : ℕ) → next_undo s ≡ Some group → IsLast s group
IsLast-next_undo s group is = by (s.index == 0) refl is
  where
    positive : (n : ℕ) → (n ≡ 0 → ⊥) → 0 < n
    positive n some = elim (cases_lt 0 n) [ inl more ↦ more | inr none ↦ absurd (some (omega (arith, none))) ]

    by : (none : Bool) → (s.index == 0) ≡ none → (if none then None else Some (get_or s.live (s.index - 1) 0)) ≡ Some group → IsLast s group
    by true none is = absurd cc
    by false none is =
        let some : s.index ≡ 0 → ⊥ = λ zero. no (s.index == 0) (eq-eqb s.index 0 zero) none in
        record { some = positive s.index some; is = cc }

pub has-next_undo : (s : Groups) (group : ℕ) → IsStack s → next_undo s ≡ Some group → has (take s.index s.live) group ≡ true
has-next_undo s group stack is =
    let last = IsLast-next_undo s group is in
    let some = last.some in
    let back : s.index - 1 + 1 ≡ s.index = omega (arith, some) in
    let front : take s.index s.live ≡ take (s.index - 1) s.live ++ group ∷ [] =
    ap (λ i. take i s.live) (sym back) ∙ take_more s.live (s.index - 1) 0 (omega (arith, some, stack.reached)) ∙
    ap (λ g. take (s.index - 1) s.live ++ g ∷ []) last.is in
    ap (λ xs. has xs group) front ∙ has-append (take (s.index - 1) s.live) (group ∷ []) group ∙
    or_right (has (take (s.index - 1) s.live) group) (has (group ∷ []) group) (has-own group [])

-- ---- the order of the groups

-- after one more revision: all that have an edit then are those that were given out
in_order-more : (revisions : List Revision) (last : Revision) (groups : Groups) → AreInOrder revisions →
    ((group : ℕ) → list_any (is_edit_of group) (revisions ++ last ∷ []) ≡ is_given groups group) → AreInOrder (revisions ++ last ∷ [])
in_order-more revisions last groups was given = λ rev low high counts le some.
    let more : List Revision = revisions ++ last ∷ [] in
    elim (cases_lt (length revisions) rev) [
      | inl over ↦
          let all : take rev more ≡ more = take_all rev more (omega (arith, over, length_push revisions last)) in
          let parts = is_given-parts groups high (sym (given high) ∙ ap (list_any (is_edit_of high)) (sym all) ∙ some) in
          ap (list_any (is_edit_of low)) all ∙ given low ∙ is_given-from groups low counts (omega (arith, le, parts.1))
      | inr within ↦
          let same : take rev more ≡ take rev revisions = take-append-le rev revisions (last ∷ []) (omega (arith, within)) in
          ap (list_any (is_edit_of low)) same ∙ was rev low high counts le (ap (list_any (is_edit_of high)) (sym same) ∙ some)
    ]

-- ---- the group of an edit

-- it opens the next group, or joins the newest
abbrev pub JoinsNewest : Groups → Option ℕ → Type 0
JoinsNewest groups None = Unit {0}
JoinsNewest groups (Some group) = (group ≡ groups.given) × (next_undo groups ≡ Some group)

-- or joins one that the stack knows
abbrev pub JoinsKnown : Groups → Option ℕ → Type 0
JoinsKnown groups None = Unit {0}
JoinsKnown groups (Some group) = is_known groups group ≡ true

pub JoinsNewest-run : (groups : Groups) (typing : Option Typing) (kind : Option Kind) → IsNewest groups typing →
    JoinsNewest groups (run_group (run_on typing kind))
JoinsNewest-run groups None kind newest = tt
JoinsNewest-run groups (Some run) None newest = tt
JoinsNewest-run groups (Some run) (Some kind) newest = by (is_same_kind run.kind kind)
  where
    by : (same : Bool) → JoinsNewest groups (run_group (if same then Some run else None))
    by true = newest
    by false = tt

pub IsNewest-run : (groups : Groups) (typing : Option Typing) (kind : Option Kind) → IsNewest groups typing → IsNewest groups (run_on typing kind)
IsNewest-run groups None kind newest = tt
IsNewest-run groups (Some run) None newest = tt
IsNewest-run groups (Some run) (Some kind) newest = by (is_same_kind run.kind kind)
  where
    by : (same : Bool) → IsNewest groups (if same then Some run else None)
    by true = newest
    by false = tt

pub IsNewest-edited : (groups : Groups) (joined : Option ℕ) (kind : Option Kind) → JoinsNewest groups joined →
    IsNewest (groups_by groups joined) (run_with kind (group_by groups joined))
IsNewest-edited groups joined None newest = tt
IsNewest-edited groups None (Some kind) newest = (refl, next_undo-opened groups)
IsNewest-edited groups (Some group) (Some kind) newest = newest

module _ (revisions : List Revision) (collected : List ℕ) (groups : Groups) (typing : Option Typing) (agree : Agree revisions collected groups typing) where
  -- a known group was given out, and is not collected
  known-parts : (group : ℕ) → is_known groups group ≡ true → (is_given groups group ≡ true) × (not (has collected group) ≡ true)
  known-parts group known = and_parts (is_given groups group) (not (has collected group)) (sym (agree.known group) ∙ known)

  kept-known : (group : ℕ) → is_known groups group ≡ true → has collected group ≡ false
  kept-known group known = absent (has collected group) (λ gone. no (not (has collected group)) (known-parts group known).1 (ap not gone))

  pub fresh : is_given groups (groups.given + 1) ≡ false
  fresh = absent (is_given groups (groups.given + 1)) (λ given. absurd (omega (arith, (is_given-parts groups (groups.given + 1) given).1)))

  kept-fresh : has collected (groups.given + 1) ≡ false
  kept-fresh = absent (has collected (groups.given + 1)) (λ gone. no (is_given groups (groups.given + 1)) (agree.collected_given (groups.given + 1) gone) fresh)

  pub JoinsKnown-newest : (joined : Option ℕ) → JoinsNewest groups joined → JoinsKnown groups joined
  JoinsKnown-newest None newest = tt
  JoinsKnown-newest (Some group) newest =
      or_left (has groups.live group) (has groups.retired group)
      (has-take groups.index groups.live group (has-next_undo groups group agree.stack newest.1))

  -- a revision may be made in the group
  pub counts-joined : (joined : Option ℕ) → JoinsKnown groups joined → 1 ≤ group_by groups joined
  counts-joined None known = omega arith
  counts-joined (Some group) known = (is_given-parts groups group (known-parts group known).0).0

  pub kept-joined : (joined : Option ℕ) → JoinsKnown groups joined → has collected (group_by groups joined) ≡ false
  kept-joined None known = kept-fresh
  kept-joined (Some group) known = kept-known group known

  pub shown-joined : (joined : Option ℕ) → JoinsNewest groups joined → has (undone revisions (length revisions)) (group_by groups joined) ≡ false
  shown-joined None newest =
      ap (λ xs. has xs (groups.given + 1)) agree.undone ∙
      absent (has groups.undone (groups.given + 1)) (λ there. absurd (omega (arith, (agree.stack.undone_given (groups.given + 1) there).1)))
  shown-joined (Some group) newest =
      ap (λ xs. has xs group) agree.undone ∙ agree.stack.done group (has-next_undo groups group agree.stack newest.1)

  -- ---- after an edit

  edits-more : (group : ℕ) (last : Revision) → list_any (is_edit_of group) (revisions ++ last ∷ []) ≡ (is_given groups group || (is_edit_of group last || false))
  edits-more group last =
      list_any-append (is_edit_of group) revisions (last ∷ []) ∙ ap (λ b. b || (is_edit_of group last || false)) (agree.given group)

  given-edited : (joined : Option ℕ) (group : ℕ) → JoinsKnown groups joined →
      (is_given groups group || ((group_by groups joined == group) || false)) ≡ is_given (groups_by groups joined) group
  given-edited None group known = ap (λ b. is_given groups group || b) (or-false (groups.given + 1 == group)) ∙ sym (is_given-opened groups group)
  given-edited (Some own) group known =
      ap (λ b. is_given groups group || b) (or-false (own == group)) ∙
      elim (cases_eq own group) [
        | inl same ↦ let given : is_given groups group ≡ true = ap (is_given groups) (sym same) ∙ (known-parts own known).0 in
            or_left (is_given groups group) (own == group) given ∙ sym given
        | inr other ↦ ap (λ b. is_given groups group || b) (ne_eqb own group other) ∙ or-false (is_given groups group)
      ]

  known-edited : (joined : Option ℕ) (group : ℕ) → is_known (groups_by groups joined) group ≡ (is_given (groups_by groups joined) group && not (has collected group))
  known-edited (Some own) group = agree.known group
  known-edited None group =
      is_known-opened groups group ∙ ap (λ b. b || (groups.given + 1 == group)) (agree.known group) ∙
      elim (cases_eq (groups.given + 1) group) [
        | inl same ↦ let kept : has collected group ≡ false = ap (has collected) (sym same) ∙ kept-fresh in
            let new : (groups.given + 1 == group) ≡ true = eq-eqb (groups.given + 1) group same in
            or_right (is_given groups group && not (has collected group)) (groups.given + 1 == group) new ∙
            sym (and_from (is_given (after_opening groups) group) (not (has collected group))
            (is_given-opened groups group ∙ or_right (is_given groups group) (groups.given + 1 == group) new) (ap not kept))
        | inr other ↦ let old : (groups.given + 1 == group) ≡ false = ne_eqb (groups.given + 1) group other in
            ap (λ b. (is_given groups group && not (has collected group)) || b) old ∙ or-false (is_given groups group && not (has collected group)) ∙
            ap (λ b. b && not (has collected group))
            (sym (is_given-opened groups group ∙ ap (λ b. is_given groups group || b) old ∙ or-false (is_given groups group)))
      ]

  collected_given-edited : (joined : Option ℕ) (group : ℕ) → has collected group ≡ true → is_given (groups_by groups joined) group ≡ true
  collected_given-edited None group gone =
      is_given-opened groups group ∙ or_left (is_given groups group) (groups.given + 1 == group) (agree.collected_given group gone)
  collected_given-edited (Some own) group gone = agree.collected_given group gone

  few-edited : (joined : Option ℕ) → (groups_by groups joined).given ≤ length revisions + 1
  few-edited None = omega (arith, agree.few)
  few-edited (Some own) = omega (arith, agree.few)

  undone-edited : (joined : Option ℕ) → groups.undone ≡ (groups_by groups joined).undone
  undone-edited None = refl
  undone-edited (Some own) = refl

  pub Agree-edited : (joined : Option ℕ) (base priority author : ℕ) (run : Option Typing) → JoinsKnown groups joined → IsStack (groups_by groups joined) →
      IsNewest (groups_by groups joined) run →
      Agree (revisions ++ edit base (group_by groups joined) priority author ∷ []) collected (groups_by groups joined) run
  Agree-edited joined base priority author run known stack newest =
      let last : Revision = edit base (group_by groups joined) priority author in
      record {
        stack = stack;
        undone =
            ap (undone (revisions ++ last ∷ [])) (length_push revisions last) ∙
            undone-edit revisions base (group_by groups joined) priority author ∙ agree.undone ∙ undone-edited joined;
        given = λ group. edits-more group last ∙ given-edited joined group known;
        few = omega (arith, few-edited joined, length_push revisions last);
        in_order =
            in_order-more revisions last (groups_by groups joined) agree.in_order
            (λ group. edits-more group last ∙ given-edited joined group known);
        known = known-edited joined;
        collected_given = collected_given-edited joined;
        newest = newest;
      }

  -- ---- after an undo or a redo

  module _ (next : Groups) (group : ℕ) (turn : IsTurned groups next group) where
    known-turned : (g : ℕ) → is_known next g ≡ is_known groups g
    known-turned g = ap₂ (λ live retired. has live g || has retired g) turn.live turn.retired

    given-turned : (g : ℕ) → is_given next g ≡ is_given groups g
    given-turned g = ap (λ n. nat_lt 0 g && nat_le g n) turn.given

    pub kept-turned : has collected group ≡ false
    kept-turned = kept-known group (or_left (has groups.live group) (has groups.retired group) turn.is_live)

    -- each group of its set has an edit
    pub edits-turned : (g : ℕ) → has next.undone g ≡ true → (0 < g) × (list_any (is_edit_of g) revisions ≡ true)
    edits-turned g there =
        let parts = turn.sound.undone_given g there in
        (parts.0, agree.given g ∙ is_given-from groups g parts.0 (omega (arith, parts.1, turn.given)))

    pub Agree-turned : Agree (revisions ++ undo next.undone ∷ []) collected next None
    Agree-turned =
        let last : Revision = undo next.undone in
        record {
          stack = turn.sound;
          undone = ap (undone (revisions ++ last ∷ [])) (length_push revisions last) ∙ undone-undo revisions next.undone;
          given = λ g. edits-more g last ∙ or-false (is_given groups g) ∙ sym (given-turned g);
          few = omega (arith, agree.few, turn.given, length_push revisions last);
          in_order =
              in_order-more revisions last next agree.in_order
              (λ g. edits-more g last ∙ or-false (is_given groups g) ∙ sym (given-turned g));
          known = λ g. known-turned g ∙ agree.known g ∙ ap (λ b. b && not (has collected g)) (sym (given-turned g));
          collected_given = λ g gone. given-turned g ∙ agree.collected_given g gone;
          newest = tt;
        }

  -- ---- after a line that makes no revision
  pub Agree-still : (kind : Option Kind) → Agree revisions collected groups (run_on typing kind)
  Agree-still kind = record {
    stack = agree.stack;
    undone = agree.undone;
    given = agree.given;
    few = agree.few;
    in_order = agree.in_order;
    known = agree.known;
    collected_given = agree.collected_given;
    newest = IsNewest-run groups typing kind agree.newest;
  }

  pub Agree-ended : Agree revisions collected groups None
  Agree-ended = record {
    stack = agree.stack;
    undone = agree.undone;
    given = agree.given;
    few = agree.few;
    in_order = agree.in_order;
    known = agree.known;
    collected_given = agree.collected_given;
    newest = tt;
  }

-- on a text that was just loaded
pub Agree-loaded : IsStack no_groups → Agree [] [] no_groups None
Agree-loaded stack = record {
  stack = stack;
  undone = refl;
  given = λ group. none group;
  few = omega arith;
  in_order = λ rev low high counts le some. absurd (no (list_any (is_edit_of high) (take rev none_yet)) some (ap (list_any (is_edit_of high)) (take_nothing rev)));
  known = λ group. ap (λ b. b && true) (none group);
  collected_given = λ group gone. no false gone refl;
  newest = tt;
}
  where
    none_yet : List Revision
    none_yet = []

    take_nothing : (rev : ℕ) → take rev none_yet ≡ []
    take_nothing zero = refl
    take_nothing (suc rev) = refl

    none : (group : ℕ) → false ≡ is_given no_groups group
    none group = sym (absent (is_given no_groups group) (λ given. let parts = is_given-parts no_groups group given in absurd (omega (arith, parts))))
