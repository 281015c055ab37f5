-- The matches of a text before and after an edit: those of a common front, and those of a common back.
use Rattle.std.proofs.Common.{◌≡◌, ◌⊎◌, inl, inr, ℕ, zero, suc, ◌+◌, ◌-◌, ◌<◌, ◌≤◌, List, [], ◌∷◌, ◌++◌, Some, length, map, take, drop, refl, ap, ap₂, sym, subst, ◌∙◌, arith, append_assoc, take-append-drop}
use Rattle.std.specs.Prelude.{max, slice_get, ⊤}
use Rattle.std.specs.List.{AllByRecursion}
use Rattle.std.proofs.lemmas.Bool.{cases_lt}
use Rattle.plain_text.specs.declared.run.Run.{Run}
use Rattle.find_core.specs.Laws.{AreMatchesFrom, IsMatchAt, IsNextMatch}
use Rattle.match_index.specs.declared.edit.Rest.{Rest}
use Rattle.match_index.specs.Strides.{runs_behind, span}
use Rattle.match_index.specs.Inner.{AreMatchesUpTo, IsLastBy}
use Rattle.match_index.specs.Changed.{moved}
use Rattle.match_index.specs.Edited.{IsRest}
use Rattle.match_index.proofs.MatchLemmas.{before-match, behind-match, match-before, match-behind}
use Rattle.match_index.proofs.StrideLemmas.{run_to, runs_behind-append, span-next, up-one}
use Rattle.match_index.proofs.WindowLemmas.{end_of}

-- the first of some runs starts at a gap or after it
abbrev pub StartsFrom : ℕ → List Run → Type 0
StartsFrom gap [] = ⊤
StartsFrom gap (run ∷ runs) = gap ≤ run.start

-- ---- where runs of strides end

pub end-runs : (len gap : ℕ) (strides : List ℕ) → end_of gap (runs_behind len gap strides) ≡ gap + span strides
end-runs len gap [] = omega arith
end-runs len gap (stride ∷ strides) = omega (arith, end-runs len (gap + stride) strides)

module _ (chars : List ℕ) (some : 0 < length chars) where
  up-rises : (text : List ℕ) (from to : ℕ) (runs : List Run) → AreMatchesUpTo chars text from runs to → from ≤ end_of from runs
  up-rises text from to [] are = omega arith
  up-rises text from to (run ∷ runs) are = omega (arith, are.0.after, are.0.end, up-rises text run.end to runs are.1)

  -- ---- matches in two, at a gap across which none stands

  pub from-split : (text : List ℕ) (from gap : ℕ) (xs ys : List Run) → AreMatchesFrom chars text from (xs ++ ys) → end_of from xs ≤ gap → StartsFrom gap ys →
      AreMatchesUpTo chars text from xs gap × AreMatchesFrom chars text gap ys
  from-split text from gap [] [] are le starts = ((le, λ at after before. are at after), λ at after. are at (omega arith))
  from-split text from gap [] (run ∷ ys) are le starts = (
    (le, λ at after before. are.0.first at after (omega arith)),
    (
      record { after = starts; end = are.0.end; is = are.0.is; first = λ at after before. are.0.first at (omega arith) before },
      are.1,
    ),
  )
  from-split text from gap (run ∷ xs) ys are le starts =
      let rest = from-split text run.end gap xs ys are.1 le starts in ((are.0, rest.0), rest.1)

  -- ---- a common front

  module _ (front back other : List ℕ) where
    next-front : (from : ℕ) (run : Run) → run.end ≤ length front → IsNextMatch chars (front ++ back) from run → IsNextMatch chars (front ++ other) from run
    next-front from run inside next = record {
      after = next.after;
      end = next.end;
      is = match-before chars front other run.start (omega (arith, next.end)) (before-match chars front back run.start (omega (arith, next.end)) next.is);
      first = λ at after before is.
          next.first at after before
          (match-before chars front back at (omega (arith, next.end)) (before-match chars front other at (omega (arith, next.end)) is));
    }

    pub up-front : (from to : ℕ) (runs : List Run) → end_of from runs ≤ length front → (to + length chars ≤ length front + 1) ⊎ (to ≡ end_of from runs) →
        AreMatchesUpTo chars (front ++ back) from runs to → AreMatchesUpTo chars (front ++ other) from runs to
    up-front from to [] inside which are = (
      are.0,
      λ at after before is. elim which [
        | inl early ↦
            are.1 at after before (match-before chars front back at (omega arith) (before-match chars front other at (omega arith) is))
        | inr here ↦ omega arith
      ],
    )
    up-front from to (run ∷ runs) inside which are =
        let rises = up-rises (front ++ back) run.end to runs are.1 in
        (next-front from run (omega arith) are.0, up-front run.end to runs inside which are.1)

  -- ---- a common back

  module _ (front other back : List ℕ) (old new : ℕ) (same : old + length other ≡ new + length front) where
    over : (at : ℕ) → length front ≤ at → IsMatchAt chars (front ++ back) at → IsMatchAt chars (other ++ back) (at + new - old)
    over at past is =
        let here : at ≡ at - length front + length front = omega arith in
        let there : at - length front + length other ≡ at + new - old = omega arith in
        subst (IsMatchAt chars (other ++ back)) there
        (match-behind chars other back (at - length front)
        (behind-match chars front back (at - length front) (subst (IsMatchAt chars (front ++ back)) here is)))

    back-over : (at gap : ℕ) → length front ≤ at → at + new - old ≤ gap → IsMatchAt chars (other ++ back) gap → IsMatchAt chars (front ++ back) (gap + old - new)
    back-over at gap past after is =
        let here : gap ≡ gap - length other + length other = omega arith in
        let there : gap - length other + length front ≡ gap + old - new = omega arith in
        subst (IsMatchAt chars (front ++ back)) there
        (match-behind chars front back (gap - length other)
        (behind-match chars other back (gap - length other) (subst (IsMatchAt chars (other ++ back)) here is)))

    pub from-moved : (at : ℕ) (runs : List Run) → length front ≤ at → AreMatchesFrom chars (front ++ back) at runs →
        AreMatchesFrom chars (other ++ back) (at + new - old) (map (moved old new) runs)
    from-moved at [] past are = λ gap after is. are (gap + old - new) (omega arith) (back-over at gap past after is)
    from-moved at (run ∷ runs) past are = (
      record {
        after = omega (arith, are.0.after);
        end = omega (arith, are.0.after, are.0.end);
        is = over run.start (omega (arith, are.0.after)) are.0.is;
        first = λ gap after before is.
            are.0.first (gap + old - new) (omega arith) (omega (arith, are.0.after)) (back-over at gap past after is);
      },
      from-moved run.end runs (omega (arith, are.0.after, are.0.end)) are.1,
    )

-- ---- strides that say the moved runs

pub runs-moved : (len at old new : ℕ) (strides : List ℕ) → old ≤ at + new → AllByRecursion (λ stride. len ≤ stride) strides →
    runs_behind len (at + new - old) strides ≡ map (moved old new) (runs_behind len at strides)
runs-moved len at old new [] le long = refl
runs-moved len at old new (stride ∷ strides) le long =
    let end : at + new - old + stride ≡ at + stride + new - old = omega arith in
    let start : at + new - old + stride - len ≡ at + stride - len + new - old = omega (arith, long.0) in
    ap₂ (λ (s e : ℕ). (let one : Run = record { start = s; end = e } in one) ∷ runs_behind len (at + new - old + stride) strides) start end ∙
    ap (λ (rest : List Run). moved old new (run_to len (at + stride)) ∷ rest)
    (ap (λ (n : ℕ). runs_behind len n strides) end ∙ runs-moved len (at + stride) old new strides (omega arith) long.1)

pub long-drop : (len : ℕ) (strides : List ℕ) (n : ℕ) → AllByRecursion (λ stride. len ≤ stride) strides → AllByRecursion (λ stride. len ≤ stride) (drop n strides)
long-drop len strides zero long = long
long-drop len [] (suc n) long = long
long-drop len (stride ∷ strides) (suc n) long = long-drop len strides n long.1

drop-get : (strides : List ℕ) (i stride : ℕ) → slice_get strides i ≡ Some stride → drop i strides ≡ stride ∷ drop (suc i) strides
drop-get [] i stride is = absurd cc
drop-get (own ∷ strides) zero stride is =
    let same : own ≡ stride = cc in ap (λ (n : ℕ). n ∷ strides) same
drop-get (own ∷ strides) (suc i) stride is = drop-get strides i stride is

-- the old strides from one on, of which the first is counted from another gap
pub behind-some : (len old new last number : ℕ) (strides : List ℕ) (i end stride : ℕ) → AllByRecursion (λ own. len ≤ own) strides → slice_get strides i ≡ Some stride →
    old + len ≤ end + stride → last + number ≡ new + (end + stride - old) →
    runs_behind len last (number ∷ drop (i + 1) strides) ≡ map (moved old new) (runs_behind len end (drop i strides))
behind-some len old new last number strides i end stride long is past at =
    let next : i + 1 ≡ suc i = omega arith in
    let here : last + number ≡ end + stride + new - old = omega arith in
    let start : end + stride + new - old - len ≡ end + stride - len + new - old = omega arith in
    ap₂ (λ (n m : ℕ). (let one : Run = record { start = n - len; end = n } in one) ∷ runs_behind len n (drop m strides)) here next ∙
    ap₂ (λ (s : ℕ) (rest : List Run). (let one : Run = record { start = s; end = end + stride + new - old } in one) ∷ rest) start
    (runs-moved len (end + stride) old new (drop (suc i) strides) (omega arith) (long-drop len strides (suc i) long)) ∙
    ap (λ (xs : List ℕ). map (moved old new) (runs_behind len end xs)) (sym (drop-get strides i stride is))

pub behind-none : (len old new at end : ℕ) (ahead : List ℕ) → ahead ≡ [] → runs_behind len at ahead ≡ map (moved old new) (runs_behind len end ahead)
behind-none len old new at end ahead none =
    subst (λ (xs : List ℕ). runs_behind len at xs ≡ map (moved old new) (runs_behind len end xs)) (sym none) refl

-- ---- the first stride from an index on

-- each is as long as what is looked for
pub next-long : (len : ℕ) (strides : List ℕ) (i : ℕ) → AllByRecursion (λ stride. len ≤ stride) strides → i < length strides →
    span (take i strides) + len ≤ span (take (suc i) strides)
next-long len [] i long more = absurd (omega arith)
next-long len (stride ∷ strides) zero long more = omega (arith, long.0)
next-long len (stride ∷ strides) (suc i) long more = omega (arith, next-long len strides i long.1 (omega arith))

-- it starts at a gap or after it, where it ends far enough behind
pub starts-at : (len at : ℕ) (strides : List ℕ) (index gap : ℕ) → (index < length strides → gap + len ≤ at + span (take (suc index) strides)) →
    StartsFrom gap (runs_behind len (at + span (take index strides)) (drop index strides))
starts-at len at [] zero gap far = tt
starts-at len at [] (suc index) gap far = tt
starts-at len at (stride ∷ strides) zero gap far =
    let end : gap + len ≤ at + (stride + 0) = far (omega arith) in omega arith
starts-at len at (stride ∷ strides) (suc index) gap far =
    let sum : at + stride + span (take index strides) ≡ at + (stride + span (take index strides)) = omega arith in
    subst (λ (n : ℕ). StartsFrom gap (runs_behind len n (drop index strides))) sum
    (starts-at len (at + stride) strides index gap (λ more. let end = far (omega arith) in omega arith))

pub runs-parted : (len : ℕ) (strides : List ℕ) (index : ℕ) →
    runs_behind len 0 strides ≡ runs_behind len 0 (take index strides) ++ runs_behind len (0 + span (take index strides)) (drop index strides)
runs-parted len strides index =
    ap (runs_behind len 0) (sym (take-append-drop index strides)) ∙ runs_behind-append len 0 (take index strides) (drop index strides)

end-front : (len : ℕ) (strides : List ℕ) (index end : ℕ) → end ≡ span (take index strides) → end_of 0 (runs_behind len 0 (take index strides)) ≡ end
end-front len strides index end is = omega (arith, end-runs len 0 (take index strides), is)

-- ---- where the old matches go on

pub rest-all : (len : ℕ) (strides : List ℕ) (gap index end : ℕ) → IsLastBy strides gap index end → length strides ≤ index →
    IsRest len strides (record { gap = gap; index = index; end = end })
rest-all len strides gap index end last all = record {
  inside = last.inside;
  ends = last.ends;
  by_then = last.by_then;
  starts = λ more. absurd (omega (arith, more, all));
}

pub rest-here : (len : ℕ) (strides : List ℕ) (gap index end stride : ℕ) → IsLastBy strides gap index end → slice_get strides index ≡ Some stride →
    gap + len ≤ end + stride → IsRest len strides (record { gap = gap; index = index; end = end })
rest-here len strides gap index end stride last is far = record {
  inside = last.inside;
  ends = last.ends;
  by_then = last.by_then;
  starts = λ more. omega (arith, far, last.ends, span-next strides index stride is);
}

pub rest-next : (len : ℕ) (strides : List ℕ) (gap index end stride : ℕ) → AllByRecursion (λ own. len ≤ own) strides → IsLastBy strides gap index end →
    slice_get strides index ≡ Some stride → index < length strides →
    IsRest len strides (record { gap = end + stride; index = index + 1; end = end + stride })
rest-next len strides gap index end stride long last is more =
    let ends : end + stride ≡ span (take (index + 1) strides) = omega (arith, last.ends, span-next strides index stride is) in
    record {
      inside = omega (arith, more);
      ends = ends;
      by_then = omega arith;
      starts = λ further. omega (arith, ends, next-long len strides (index + 1) long further, up-one strides (index + 1));
    }

-- of two gaps the greater one has no fewer strides before it
pub counts-rise : (len : ℕ) (strides : List ℕ) (gap index : ℕ) (rest : Rest) → 0 < len → index ≤ length strides → span (take index strides) ≤ gap →
    IsRest len strides rest → gap ≤ rest.gap → index ≤ rest.index
counts-rise len strides gap index rest some inside by_then is le =
    elim (cases_lt rest.index index) [
      | inl less ↦
          let starts = is.starts (omega (arith, less, inside)) in
          absurd (omega (arith, some, starts, le, by_then, span-rises strides (rest.index + 1) index (omega (arith, less))))
      | inr past ↦ past
    ]
  where
    span-rises : (xs : List ℕ) (i j : ℕ) → i ≤ j → span (take i xs) ≤ span (take j xs)
    span-rises xs zero j le = omega arith
    span-rises [] (suc i) j le = omega arith
    span-rises (x ∷ xs) (suc i) zero le = absurd (omega (arith, le))
    span-rises (x ∷ xs) (suc i) (suc j) le = omega (arith, span-rises xs i j (omega (arith, le)))

-- THE MATCHES OF A TEXT AFTER AN EDIT, as strides
module _ (chars : List ℕ) (some : 0 < length chars) (len : ℕ) (many : len ≡ length chars) (front gone come back : List ℕ) (strides : List ℕ)
    (are : AreMatchesFrom chars (front ++ (gone ++ back)) 0 (runs_behind len 0 strides)) (long : AllByRecursion (λ stride. len ≤ stride) strides) where
  -- those that end by the first change stay, and none more begins before a match may reach the change
  pub stay-up : (gap index last start : ℕ) → gap ≡ length front → IsLastBy strides gap index last → start ≡ max last (gap - (len - 1)) →
      AreMatchesUpTo chars (front ++ (come ++ back)) 0 (runs_behind len 0 (take index strides)) start
  stay-up gap index last start at by_then is =
      let ends = by_then.ends in
      let low = by_then.by_then in
      let end = end-front len strides index last ends in
      let same : 0 + span (take index strides) ≡ last = omega arith in
      let starts : StartsFrom start (runs_behind len (0 + span (take index strides)) (drop index strides)) =
      starts-at len 0 strides index start (λ more. let past = by_then.past more in omega (arith, is, many, some, past, ends, up-one strides index, next-long len strides index long more)) in
      let split =
      from-split chars some (front ++ (gone ++ back)) 0 start (runs_behind len 0 (take index strides)) (runs_behind len (0 + span (take index strides)) (drop index strides))
      (subst (AreMatchesFrom chars (front ++ (gone ++ back)) 0) (runs-parted len strides index) are) (omega (arith, end, is)) starts in
      up-front chars some front (gone ++ back) (come ++ back) 0 start (runs_behind len 0 (take index strides)) (omega (arith, end, low, at))
      (elim (cases_lt last (gap - (len - 1))) [
        | inl less ↦ inl (omega (arith, is, at, many, some))
        | inr past ↦ inr (omega (arith, is, end))
      ]) split.0

  -- from a gap right of the last change on, across which no match stands, they are the old ones
  pub rest-from : (old new : ℕ) (rest : Rest) → IsRest len strides rest → length (front ++ gone) ≤ rest.gap → old ≡ length (front ++ gone) → new ≡ length (front ++ come) →
      AreMatchesFrom chars (front ++ (come ++ back)) (rest.gap + new - old) (map (moved old new) (runs_behind len rest.end (drop rest.index strides)))
  rest-from old new rest is past old_is new_is =
      let ends = is.ends in
      let low = is.by_then in
      let at : 0 + span (take rest.index strides) ≡ rest.end = omega arith in
      let starts : StartsFrom rest.gap (runs_behind len (0 + span (take rest.index strides)) (drop rest.index strides)) =
      starts-at len 0 strides rest.index rest.gap (λ more. omega (arith, is.starts more, up-one strides rest.index)) in
      let split =
      from-split chars some (front ++ (gone ++ back)) 0 rest.gap (runs_behind len 0 (take rest.index strides))
      (runs_behind len (0 + span (take rest.index strides)) (drop rest.index strides))
      (subst (AreMatchesFrom chars (front ++ (gone ++ back)) 0) (runs-parted len strides rest.index) are)
      (omega (arith, end-front len strides rest.index rest.end ends, low)) starts in
      let before =
      subst (λ (n : ℕ). AreMatchesFrom chars (front ++ (gone ++ back)) rest.gap (runs_behind len n (drop rest.index strides))) at split.1 in
      subst (λ (text : List ℕ). AreMatchesFrom chars text (rest.gap + new - old) (map (moved old new) (runs_behind len rest.end (drop rest.index strides))))
      (append_assoc front come back)
      (from-moved chars some (front ++ gone) (front ++ come) back old new (omega (arith, old_is, new_is)) rest.gap (runs_behind len rest.end (drop rest.index strides)) past
      (subst (λ (text : List ℕ). AreMatchesFrom chars text rest.gap (runs_behind len rest.end (drop rest.index strides))) (sym (append_assoc front gone back)) before))
