-- What holds of every stack goes on to hold after each call.
use Rattle.std.proofs.Common.{◌≡◌, ℕ, ◌+◌, ◌-◌, ◌^◌, ◌<◌, ◌⊎◌, true, false, if◌then◌else◌, ◌==◌, List, [], ◌∷◌, ◌++◌, fold, length, take, drop, get_or, refl, ap, sym, ◌∙◌, inl, inr, arith}
use Rattle.std.proofs.lemmas.Bool.{cases_eq, or_cases, or_left, or_right, eqb-true, eq-eqb}
use Rattle.std.proofs.lemmas.List.{length-drop, take_more, drop_more}
use Rattle.std.proofs.Math.Seq.{drop-length}
use Rattle.plain_text.specs.Numbers.{has, with_number, without_number, IsRising}
use Rattle.plain_text.proofs.callers.NumberLemmas.{differ, has-with_number, has-with_numbers, IsRising-with, IsRising-with_numbers, IsRising-without}
use Rattle.undo_groups.specs.Groups.{Groups, grown, excess, no_groups, groups_of, retiring, after_opening, AreGiven, IsStack}
use Rattle.number_set.proofs.ForCallers.{no, has-append, has-one, has-own, has-take, has-drop, absent, parted, IsRising-take, IsRising-drop, IsRising-end, has-without, in-without}

-- ---- no group

pub none_yet : IsStack no_groups
none_yet = record {
  few = omega arith;
  small = omega arith;
  reached = omega arith;
  live_rise = tt;
  retired_rise = tt;
  undone_rise = tt;
  done = λ group there. no false there refl;
  taken_back = λ group there. no false there refl;
  reachable = λ group there. refl;
  live_given = λ group there. no false there refl;
  retired_given = λ group there. no false there refl;
  undone_given = λ group there. no false there refl;
}

-- ---- a new group

module _ (s : Groups) (is : IsStack s) where
  -- a group that was not given out is nowhere
  fresh : (groups : List ℕ) (group : ℕ) → AreGiven s.given groups → s.given < group → has groups group ≡ false
  fresh groups group given over = absent (has groups group) (λ there. absurd (omega (arith, given group there)))

  grown_given : AreGiven (s.given + 1) (grown s)
  grown_given group there =
      elim (or_cases (has (take s.index s.live) group) (has ((s.given + 1) ∷ []) group) (sym (has-append (take s.index s.live) ((s.given + 1) ∷ []) group) ∙ there)) [
        | inl old ↦ let own = is.live_given group (has-take s.index s.live group old) in (own.0, omega (arith, own))
        | inr new ↦ let same = has-one (s.given + 1) group new in (omega arith, omega arith)
      ]

  grown_rises : IsRising (grown s)
  grown_rises = IsRising-end (take s.index s.live) (s.given + 1) (IsRising-take s.index s.live is.live_rise) (λ m there. omega (arith, is.live_given m (has-take s.index s.live m there)))

  abbrev left : List ℕ
  left = drop (excess (grown s)) (grown s)

  abbrev out : List ℕ
  out = take (excess (grown s)) (grown s)

  left_in : (group : ℕ) → has left group ≡ true → has (grown s) group ≡ true
  left_in group there = has-drop (excess (grown s)) (grown s) group there

  -- a live group after a new one is new, or was live and not undone
  left_old : (group : ℕ) → has left group ≡ true → ((has (take s.index s.live) group ≡ true) ⊎ (group ≡ s.given + 1))
  left_old group there =
      elim (or_cases (has (take s.index s.live) group) (has ((s.given + 1) ∷ []) group) (sym (has-append (take s.index s.live) ((s.given + 1) ∷ []) group) ∙ left_in group there)) [
        | inl old ↦ inl old
        | inr new ↦ inr (sym (has-one (s.given + 1) group new))
      ]

  none_left : {X : Type 0} (group : ℕ) → has (drop (length left) left) group ≡ true → X
  none_left group there = no false (ap (λ ys. has ys group) (sym (drop-length left)) ∙ there) refl

  kept : (group : ℕ) → has left group ≡ true → has s.undone group ≡ false
  kept group there =
      elim (left_old group there) [
        | inl old ↦ is.done group old
        | inr new ↦ fresh s.undone group is.undone_given (omega arith)
      ]

  -- what retires is no live group any more
  not_out : (group : ℕ) → has left group ≡ true → has (retiring s) group ≡ true → ⊥
  not_out group there gone =
      elim (or_cases (has (drop s.index s.live) group) (has out group) (sym (has-append (drop s.index s.live) out group) ∙ gone)) [
        | inl cut ↦ elim (left_old group there) [
          | inl old ↦ omega (arith, parted s.index s.live group group is.live_rise old cut)
          | inr new ↦ omega (arith, is.live_given group (has-drop s.index s.live group cut))
        ]
        | inr oldest ↦ omega (arith, parted (excess (grown s)) (grown s) group group grown_rises oldest there)
      ]

  not_retired : (group : ℕ) → has left group ≡ true → has s.retired group ≡ true → ⊥
  not_retired group there gone =
      elim (left_old group there) [
        | inl old ↦ no (has s.retired group) gone (is.reachable group (has-take s.index s.live group old))
        | inr new ↦ no (has s.retired group) gone (fresh s.retired group is.retired_given (omega arith))
      ]

  retiring_given : AreGiven (s.given + 1) (retiring s)
  retiring_given group there =
      elim (or_cases (has (drop s.index s.live) group) (has out group) (sym (has-append (drop s.index s.live) out group) ∙ there)) [
        | inl cut ↦ let own = is.live_given group (has-drop s.index s.live group cut) in (own.0, omega (arith, own))
        | inr oldest ↦ grown_given group (has-take (excess (grown s)) (grown s) group oldest)
      ]

  pub opened : s.given + 1 < 2 ^ 63 → IsStack (after_opening s)
  opened small = record {
    few = omega (arith, length-drop (excess (grown s)) (grown s));
    small = small;
    reached = omega arith;
    live_rise = IsRising-drop (excess (grown s)) (grown s) grown_rises;
    retired_rise = IsRising-with_numbers s.retired (retiring s) is.retired_rise;
    undone_rise = is.undone_rise;
    done = λ group there. kept group (has-take (length left) left group there);
    taken_back = λ group there. none_left group there;
    reachable = λ group there. absent _ (λ gone. elim (or_cases (has s.retired group) (has (retiring s) group) (sym (has-with_numbers s.retired (retiring s) group) ∙ gone)) [
      | inl old ↦ not_retired group there old
      | inr new ↦ not_out group there new
    ]);
    live_given = λ group there. grown_given group (left_in group there);
    retired_given = λ group there. elim (or_cases (has s.retired group) (has (retiring s) group) (sym (has-with_numbers s.retired (retiring s) group) ∙ there)) [
      | inl old ↦ let own = is.retired_given group old in (own.0, omega (arith, own))
      | inr new ↦ retiring_given group new
    ];
    undone_given = λ group there. let own = is.undone_given group there in (own.0, omega (arith, own));
  }

pub opened_as : (s : Groups) → IsStack s → s.given + 1 < 2 ^ 63 → (live : List ℕ) (index : ℕ) (retired : List ℕ) → live ≡ drop (excess (grown s)) (grown s) → index ≡ length live → retired ≡ fold with_number s.retired (retiring s) → IsStack (groups_of live index retired s.undone (s.given + 1))
opened_as s is small live index retired left count gone = rw (count, left, gone) (opened s is small)

-- ---- an undo, a redo, a forgotten group

module _ (live : List ℕ) (index : ℕ) (retired undone : List ℕ) (given : ℕ) (is : IsStack (groups_of live index retired undone given)) (group : ℕ) where
  pub undone_then : 0 < index → group ≡ get_or live (index - 1) group → IsStack (groups_of live (index - 1) retired (with_number undone group) given)
  undone_then some own =
      let back : index - 1 + 1 ≡ index = omega arith in
      let inside : index - 1 < length live = omega (arith, is.reached) in
      let front : take index live ≡ take (index - 1) live ++ group ∷ [] = ap (λ i. take i live) (sym back) ∙ take_more live (index - 1) group inside ∙ ap (λ y. take (index - 1) live ++ y ∷ []) (sym own) in
      let rest : drop (index - 1) live ≡ group ∷ drop index live = drop_more live (index - 1) group inside ∙ ap (λ y. y ∷ drop (index - 1 + 1) live) (sym own) ∙ ap (λ i. group ∷ drop i live) back in
      let there : has (drop (index - 1) live) group ≡ true = ap (λ ys. has ys group) rest ∙ has-own group (drop index live) in
      record {
        few = is.few;
        small = is.small;
        reached = omega (arith, is.reached);
        live_rise = is.live_rise;
        retired_rise = is.retired_rise;
        undone_rise = IsRising-with undone group is.undone_rise;
        done = λ m before. absent _ (λ gone. elim (or_cases (group == m) (has undone m) (sym (has-with_number undone group m) ∙ gone)) [
          | inl same ↦ omega (arith, eqb-true group m same, parted (index - 1) live m group is.live_rise before there)
          | inr old ↦ no (has undone m) old (is.done m (ap (λ ys. has ys m) front ∙ has-append (take (index - 1) live) (group ∷ []) m ∙ or_left _ _ before))
        ]);
        taken_back = λ m after. has-with_number undone group m ∙ elim (or_cases (group == m) (has (drop index live) m) (sym (ap (λ ys. has ys m) rest) ∙ after)) [
          | inl same ↦ or_left (group == m) (has undone m) same
          | inr later ↦ or_right (group == m) (has undone m) (is.taken_back m later)
        ];
        reachable = is.reachable;
        live_given = is.live_given;
        retired_given = is.retired_given;
        undone_given = λ m gone. elim (or_cases (group == m) (has undone m) (sym (has-with_number undone group m) ∙ gone)) [
          | inl same ↦ is.live_given m (ap (has live) (sym (eqb-true group m same)) ∙ has-drop (index - 1) live group there)
          | inr old ↦ is.undone_given m old
        ];
      }

  pub redone_then : index < length live → group ≡ get_or live index group → IsStack (groups_of live (index + 1) retired (without_number undone group) given)
  redone_then inside own =
      let front : take (index + 1) live ≡ take index live ++ group ∷ [] = take_more live index group inside ∙ ap (λ y. take index live ++ y ∷ []) (sym own) in
      let rest : drop index live ≡ group ∷ drop (index + 1) live = drop_more live index group inside ∙ ap (λ y. y ∷ drop (index + 1) live) (sym own) in
      let there : has (take (index + 1) live) group ≡ true = ap (λ ys. has ys group) front ∙ has-append (take index live) (group ∷ []) group ∙ or_right _ _ (has-own group []) in
      let gone_now : has undone group ≡ true = is.taken_back group (ap (λ ys. has ys group) rest ∙ has-own group (drop (index + 1) live)) in
      record {
        few = is.few;
        small = is.small;
        reached = omega (arith, inside);
        live_rise = is.live_rise;
        retired_rise = is.retired_rise;
        undone_rise = IsRising-without undone group is.undone_rise;
        done = λ m before. has-without undone group m is.undone_rise gone_now ∙ elim (cases_eq group m) [
          | inl same ↦ ap (λ b. if b then false else has undone m) (eq-eqb group m same)
          | inr other ↦ ap (λ b. if b then false else has undone m) (differ group m other) ∙ elim (or_cases (has (take index live) m) (has (group ∷ []) m) (sym (has-append (take index live) (group ∷ []) m) ∙ sym (ap (λ ys. has ys m) front) ∙ before)) [
            | inl old ↦ is.done m old
            | inr new ↦ absurd (other (has-one group m new))
          ]
        ];
        taken_back = λ m after. has-without undone group m is.undone_rise gone_now ∙ ap (λ b. if b then false else has undone m) (differ group m (λ same. omega (arith, same, parted (index + 1) live group m is.live_rise there after))) ∙ is.taken_back m (ap (λ ys. has ys m) rest ∙ or_right (group == m) _ after);
        reachable = is.reachable;
        live_given = is.live_given;
        retired_given = is.retired_given;
        undone_given = λ m gone. is.undone_given m (in-without undone group m is.undone_rise gone_now gone);
      }

  pub forgot : has retired group ≡ true → IsStack (groups_of live index (without_number retired group) undone given)
  forgot there_now = record {
    few = is.few;
    small = is.small;
    reached = is.reached;
    live_rise = is.live_rise;
    retired_rise = IsRising-without retired group is.retired_rise;
    undone_rise = is.undone_rise;
    done = is.done;
    taken_back = is.taken_back;
    reachable = λ m there. absent _ (λ gone. no (has retired m) (in-without retired group m is.retired_rise there_now gone) (is.reachable m there));
    live_given = is.live_given;
    retired_given = λ m there. is.retired_given m (in-without retired group m is.retired_rise there_now there);
    undone_given = is.undone_given;
  }
