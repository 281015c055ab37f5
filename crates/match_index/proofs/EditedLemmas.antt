-- The strides of the matches after an edit: those that stay, those that a search found, and the old ones behind them.
use Rattle.std.proofs.Common.{◌≡◌, ◌⊎◌, inl, inr, ℕ, ◌+◌, ◌-◌, ◌^◌, ◌<◌, ◌≤◌, IsTrue, List, [], ◌∷◌, ◌++◌, Some, length, map, take, drop, refl, ap, sym, subst, ◌∙◌, arith, append_assoc, length-append}
use Rattle.std.specs.Prelude.{max, slice_get}
use Rattle.std.specs.List.{AllByRecursion}
use Rattle.std.proofs.lemmas.Bool.{lt-ltb}
use Rattle.std.proofs.lemmas.List.{drop_all}
use Rattle.plain_text.specs.declared.run.Run.{Run}
use Rattle.shared_tree.specs.Replaced.{replaced}
use Rattle.find_core.specs.Matches.{folded, matches_of}
use Rattle.find_core.specs.Laws.{AreMatchesFrom}
use Rattle.find_core.proofs.ForCallers.{AreMatchesFrom-same, matches_of-are}
use Rattle.match_index.specs.declared.edit.Edit.{Edit}
use Rattle.match_index.specs.declared.edit.Rest.{Rest}
use Rattle.match_index.specs.declared.search.Walked.{Walked}
use Rattle.match_index.specs.Found.{Found}
use Rattle.match_index.specs.Strides.{is_countable, reach_of, runs_behind, span, span-append}
use Rattle.match_index.specs.Inner.{strides_under, AreMatchesUpTo, HasRuns, IsLastBy, IsWalked}
use Rattle.match_index.specs.Edited.{after_of, HasBegun, HasMet, IsBegun, IsEdit, IsEditing, IsMet}
use Rattle.match_index.specs.Changed.{moved}
use Rattle.match_index.proofs.EditLemmas.{behind-none, behind-some, counts-rise, next-long, rest-from, stay-up}
use Rattle.match_index.proofs.MatchLemmas.{folded-append, folded-len, from-append, from-long, has-long, up-long}
use Rattle.match_index.proofs.StrideLemmas.{end-within, few-strides, runs_behind-append, span-next, up-one}

-- ---- strides that say the matches of a text

module _ (found : Found) (strides : List ℕ) (some : 0 < length found.chars)
    (are : AreMatchesFrom (folded found.fold found.chars) (folded found.fold found.text) 0 (runs_behind (length found.chars) 0 strides)) where
  pub has-from : HasRuns found strides
  has-from = record {
    are =
        AreMatchesFrom-same (folded found.fold found.chars) (folded found.fold found.text) 0 (runs_behind (length found.chars) 0 strides)
        (matches_of found.text found.chars found.fold) are (matches_of-are found.text found.chars found.fold some);
  }

  pub span-from : AllByRecursion (λ stride. length found.chars ≤ stride) strides × (span strides ≤ length found.text)
  span-from =
      let long =
      from-long (folded found.fold found.chars) (folded found.fold found.text) (length found.chars) 0 strides (sym (folded-len found.fold found.chars)) some
      (omega arith) are in
      (long.0, omega (arith, long.1, folded-len found.fold found.text))

  pub fits-from : length found.text < 2 ^ 64 → IsTrue (is_countable (reach_of strides))
  fits-from small =
      lt-ltb _ _ (omega (arith, span-from.1, small, few-strides (length found.chars) strides some span-from.0))

-- a search that begins
pub walked-new : (found : Found) (walked : Walked) (from start : ℕ) → walked ≡ record { from = from; start = start; strides = record { leaves = []; height = 0 }; at = start } →
    from ≤ start → start ≤ length found.text → IsWalked found walked
walked-new found walked from start is before inside =
    subst (IsWalked found) (sym is)
    record {
      are = (omega arith, λ gap after less. absurd (omega (arith, after, less)));
      before = before;
      inside = inside;
    }

-- ---- an edit of a text

module _ (before strides : List ℕ) (after : Found) (front old new : ℕ) (edit : IsEdit before strides after front old new) where
  many : length after.chars ≡ length (folded after.fold after.chars)
  many = sym (folded-len after.fold after.chars)

  some : 0 < length (folded after.fold after.chars)
  some = omega (arith, edit.some, many)

  pub edit-long : AllByRecursion (λ stride. length after.chars ≤ stride) strides
  edit-long = has-long (record after { text = before }) strides (length after.chars) refl edit.has

  are-before : AreMatchesFrom (folded after.fold after.chars) (folded after.fold before) 0 (runs_behind (length after.chars) 0 strides)
  are-before =
      subst (AreMatchesFrom (folded after.fold after.chars) (folded after.fold before) 0) (sym edit.has.are) (matches_of-are before after.chars after.fold edit.some)

  pub edit-span : span strides ≤ length before
  edit-span = (span-from (record after { text = before }) strides edit.some are-before).1

  -- ---- how long its parts are

  pub new-inside : new ≤ length after.text
  new-inside =
      omega (
        arith,
        ap length edit.keeps.is,
        length-append edit.keeps.start (edit.keeps.come ++ edit.keeps.rest),
        length-append edit.keeps.come edit.keeps.rest,
        length-append edit.keeps.start edit.keeps.come,
        edit.keeps.to_after,
      )

  pub edit-sizes : length before + new ≡ length after.text + old
  edit-sizes =
      omega (
        arith,
        ap length edit.keeps.is,
        length-append edit.keeps.start (edit.keeps.come ++ edit.keeps.rest),
        length-append edit.keeps.come edit.keeps.rest,
        length-append edit.keeps.start edit.keeps.come,
        edit.keeps.to_after,
        ap length edit.keeps.was,
        length-append edit.keeps.start (edit.keeps.gone ++ edit.keeps.rest),
        length-append edit.keeps.gone edit.keeps.rest,
        length-append edit.keeps.start edit.keeps.gone,
        edit.keeps.to,
      )

  pub front-old : front ≤ old
  front-old = omega (arith, edit.keeps.from, edit.keeps.to, length-append edit.keeps.start edit.keeps.gone)

  pub front-new : front ≤ new
  front-new = omega (arith, edit.keeps.from, edit.keeps.to_after, length-append edit.keeps.start edit.keeps.come)

  -- how far a search goes on for a gap of the text before
  pub gap-inside : (gap at : ℕ) → (gap ≤ old + (at - new)) ⊎ (gap ≤ span strides) → new ≤ at → at ≤ length after.text → old ≤ gap →
      new + (gap - old) ≤ length after.text
  gap-inside gap at (inl near) past inside behind = omega (arith, near, past, inside, behind)
  gap-inside gap at (inr far) past inside behind = omega (arith, far, behind, edit-span, edit-sizes)

  -- ---- its parts, as they are compared

  parted : (text middle : List ℕ) → text ≡ edit.keeps.start ++ (middle ++ edit.keeps.rest) →
      folded after.fold text ≡ folded after.fold edit.keeps.start ++ (folded after.fold middle ++ folded after.fold edit.keeps.rest)
  parted text middle whole =
      ap (folded after.fold) whole ∙ folded-append after.fold edit.keeps.start (middle ++ edit.keeps.rest) ∙
      ap (λ (xs : List ℕ). folded after.fold edit.keeps.start ++ xs) (folded-append after.fold middle edit.keeps.rest)

  are : AreMatchesFrom (folded after.fold after.chars)
      (folded after.fold edit.keeps.start ++ (folded after.fold edit.keeps.gone ++ folded after.fold edit.keeps.rest)) 0
      (runs_behind (length after.chars) 0 strides)
  are =
      subst (λ (text : List ℕ). AreMatchesFrom (folded after.fold after.chars) text 0 (runs_behind (length after.chars) 0 strides))
      (parted before edit.keeps.gone edit.keeps.was) are-before

  front-long : length (folded after.fold edit.keeps.start) ≡ front
  front-long = folded-len after.fold edit.keeps.start ∙ edit.keeps.from

  upto-long : (middle : List ℕ) (to : ℕ) → length (edit.keeps.start ++ middle) ≡ to →
      to ≡ length (folded after.fold edit.keeps.start ++ folded after.fold middle)
  upto-long middle to is =
      omega (
        arith,
        is,
        length-append edit.keeps.start middle,
        length-append (folded after.fold edit.keeps.start) (folded after.fold middle),
        folded-len after.fold edit.keeps.start,
        folded-len after.fold middle,
      )

  pub begun-stays : (index last start : ℕ) → IsLastBy strides front index last → start ≡ max last (front - (length after.chars - 1)) →
      HasBegun strides after front index last start
  begun-stays index last start by is = record {
    inside = by.inside;
    ends = by.ends;
    by_then = by.by_then;
    near = omega (arith, is, by.by_then);
    next = λ more. omega (arith, is, edit.some, by.past more, by.ends, up-one strides index, next-long (length after.chars) strides index edit-long more);
    stay =
        subst (λ (text : List ℕ). AreMatchesUpTo (folded after.fold after.chars) text 0 (runs_behind (length after.chars) 0 (take index strides)) start)
        (sym (parted after.text edit.keeps.come edit.keeps.is))
        (stay-up (folded after.fold after.chars) some (length after.chars) many (folded after.fold edit.keeps.start) (folded after.fold edit.keeps.gone)
        (folded after.fold edit.keeps.come) (folded after.fold edit.keeps.rest) strides are edit-long front index last start (sym front-long) by is);
  }

  -- ---- what a search found, between those that stay and the old ones

  module _ (index from start at : ℕ) (rest : Rest) (found : List ℕ) (begun : HasBegun strides after front index from start) (before_start : from ≤ start)
      (walked : AreMatchesUpTo (folded after.fold after.chars) (folded after.fold after.text) start (runs_behind (length after.chars) from found) at)
      (met : HasMet strides after old new at rest) where
    pub joined-ordered : index ≤ rest.index
    joined-ordered =
        counts-rise (length after.chars) strides front index rest edit.some begun.inside (omega (arith, begun.ends, begun.by_then)) met.is
        (omega (arith, front-old, met.past))

    ahead : AreMatchesFrom (folded after.fold after.chars) (folded after.fold after.text) at
        (map (moved old new) (runs_behind (length after.chars) rest.end (drop rest.index strides)))
    ahead =
        let here : rest.gap + new - old ≡ at = omega (arith, met.meets) in
        let past : length (folded after.fold edit.keeps.start ++ folded after.fold edit.keeps.gone) ≤ rest.gap =
        omega (arith, met.past, upto-long edit.keeps.gone old edit.keeps.to) in
        subst (λ (n : ℕ). AreMatchesFrom (folded after.fold after.chars) (folded after.fold after.text) n
        (map (moved old new) (runs_behind (length after.chars) rest.end (drop rest.index strides)))) here
        (subst (λ (text : List ℕ). AreMatchesFrom (folded after.fold after.chars) text (rest.gap + new - old)
        (map (moved old new) (runs_behind (length after.chars) rest.end (drop rest.index strides))))
        (sym (parted after.text edit.keeps.come edit.keeps.is))
        (rest-from (folded after.fold after.chars) some (length after.chars) many (folded after.fold edit.keeps.start) (folded after.fold edit.keeps.gone)
        (folded after.fold edit.keeps.come) (folded after.fold edit.keeps.rest) strides are edit-long old new rest met.is past
        (upto-long edit.keeps.gone old edit.keeps.to) (upto-long edit.keeps.come new edit.keeps.to_after)))

    -- those that stay, those that were found, and the old ones behind them
    pub parts-from : AreMatchesFrom (folded after.fold after.chars) (folded after.fold after.text) 0
        (runs_behind (length after.chars) 0 (take index strides) ++
        (runs_behind (length after.chars) from found ++ map (moved old new) (runs_behind (length after.chars) rest.end (drop rest.index strides))))
    parts-from =
        from-append (folded after.fold after.chars) (folded after.fold after.text) 0 start (runs_behind (length after.chars) 0 (take index strides))
        (runs_behind (length after.chars) from found ++ map (moved old new) (runs_behind (length after.chars) rest.end (drop rest.index strides))) begun.stay
        (from-append (folded after.fold after.chars) (folded after.fold after.text) start at (runs_behind (length after.chars) from found)
        (map (moved old new) (runs_behind (length after.chars) rest.end (drop rest.index strides))) walked ahead)

    joined-from : (behind : List ℕ) →
        runs_behind (length after.chars) (from + span found) behind ≡ map (moved old new) (runs_behind (length after.chars) rest.end (drop rest.index strides)) →
        AreMatchesFrom (folded after.fold after.chars) (folded after.fold after.text) 0
        (runs_behind (length after.chars) 0 (take index strides ++ (found ++ behind)))
    joined-from behind said =
        let first : 0 + span (take index strides) ≡ from = omega (arith, begun.ends) in
        let runs :
        runs_behind (length after.chars) 0 (take index strides ++ (found ++ behind)) ≡
        runs_behind (length after.chars) 0 (take index strides) ++
        (runs_behind (length after.chars) from found ++ map (moved old new) (runs_behind (length after.chars) rest.end (drop rest.index strides))) =
        runs_behind-append (length after.chars) 0 (take index strides) (found ++ behind) ∙
        ap (λ (n : ℕ). runs_behind (length after.chars) 0 (take index strides) ++ runs_behind (length after.chars) n (found ++ behind)) first ∙
        ap (λ (rs : List Run). runs_behind (length after.chars) 0 (take index strides) ++ rs)
        (runs_behind-append (length after.chars) from found behind ∙ ap (λ (rs : List Run). runs_behind (length after.chars) from found ++ rs) said) in
        subst (AreMatchesFrom (folded after.fold after.chars) (folded after.fold after.text) 0) (sym runs) parts-from

    -- no old one goes on
    pub joined-last : length strides ≤ rest.index →
        AreMatchesFrom (folded after.fold after.chars) (folded after.fold after.text) 0
        (runs_behind (length after.chars) 0 (replaced strides index rest.index found))
    joined-last all =
        joined-from (drop rest.index strides)
        (behind-none (length after.chars) old new (from + span found) rest.end (drop rest.index strides) (drop_all rest.index strides all))

    module _ (number stride : ℕ) (is : slice_get strides rest.index ≡ Some stride) (more : rest.index < length strides) where
      -- where the first old one that goes on ends
      pub next-ends : rest.gap + length after.chars ≤ rest.end + stride
      next-ends =
          omega (arith, met.is.starts more, met.is.ends, span-next strides rest.index stride is)

      pub next-inside : rest.end + stride ≤ length before
      next-inside = omega (arith, met.is.ends, end-within strides rest.index stride is, edit-span)

      found-long : AllByRecursion (λ own. length after.chars ≤ own) found × (from + span found ≤ at)
      found-long =
          up-long (folded after.fold after.chars) (folded after.fold after.text) (length after.chars) from start at found many before_start walked

      pub next-behind : from + span found + length after.chars ≤ new + (rest.end + stride - old)
      next-behind = omega (arith, found-long.1, next-ends, met.meets, met.past)

      pub next-after : new + (rest.end + stride - old) ≤ length after.text
      next-after = omega (arith, next-inside, edit-sizes, next-ends, met.past)

      pub joined-next : from + span found + number ≡ new + (rest.end + stride - old) →
          AreMatchesFrom (folded after.fold after.chars) (folded after.fold after.text) 0
          (runs_behind (length after.chars) 0 (replaced strides index (rest.index + 1) (found ++ number ∷ [])))
      joined-next ends =
          let turned : found ++ (number ∷ drop (rest.index + 1) strides) ≡ (found ++ number ∷ []) ++ drop (rest.index + 1) strides =
          sym (append_assoc found (number ∷ []) (drop (rest.index + 1) strides)) in
          subst (λ (xs : List ℕ). AreMatchesFrom (folded after.fold after.chars) (folded after.fold after.text) 0
          (runs_behind (length after.chars) 0 (take index strides ++ xs))) turned
          (joined-from (number ∷ drop (rest.index + 1) strides)
          (behind-some (length after.chars) old new (from + span found) number strides rest.index rest.end stride edit-long is
          (omega (arith, next-ends, met.past)) ends))

      pub next-fits : from + span found + number ≡ new + (rest.end + stride - old) → length after.text < 2 ^ 64 →
          IsTrue (is_countable (reach_of (found ++ number ∷ [])))
      next-fits ends small =
          lt-ltb _ _ (omega (
            arith,
            ends,
            small,
            next-after,
            next-behind,
            edit.some,
            few-strides (length after.chars) found edit.some found-long.0,
            length-append found (number ∷ []),
            span-append found (number ∷ []),
          ))

-- ---- the same of an edit, with a search that has come to the old matches

module _ (edit : Edit) (index : ℕ) (walked : Walked) (rest : Rest) (is : IsEditing edit) (begun : IsBegun edit index walked.from walked.start)
    (search : IsWalked (after_of edit) walked) (met : IsMet edit walked.at rest) where
  pub edit-ordered : index ≤ rest.index
  edit-ordered =
      joined-ordered edit.before.now (strides_under edit.strides.now) (after_of edit) edit.front edit.old edit.new is index walked.from walked.start walked.at rest
      (strides_under walked.strides) begun search.before search.are met

  all-last : length (strides_under edit.strides.now) ≤ rest.index →
      AreMatchesFrom (folded edit.fold edit.chars.now) (folded edit.fold edit.after.now) 0
      (runs_behind (length edit.chars.now) 0 (replaced (strides_under edit.strides.now) index rest.index (strides_under walked.strides)))
  all-last all =
      joined-last edit.before.now (strides_under edit.strides.now) (after_of edit) edit.front edit.old edit.new is index walked.from walked.start walked.at rest
      (strides_under walked.strides) begun search.before search.are met all

  pub last-has : length (strides_under edit.strides.now) ≤ rest.index → (made : List ℕ) →
      made ≡ replaced (strides_under edit.strides.now) index rest.index (strides_under walked.strides) → HasRuns (after_of edit) made
  last-has all made said = subst (HasRuns (after_of edit)) (sym said) (has-from (after_of edit) _ is.some (all-last all))

  pub last-fits : length (strides_under edit.strides.now) ≤ rest.index → length edit.after.now < 2 ^ 64 →
      IsTrue (is_countable (reach_of (replaced (strides_under edit.strides.now) index rest.index (strides_under walked.strides))))
  last-fits all small = fits-from (after_of edit) _ is.some (all-last all) small

  module _ (stride : ℕ) (get : slice_get (strides_under edit.strides.now) rest.index ≡ Some stride) (more : rest.index < length (strides_under edit.strides.now)) where
    pub edit-ends : rest.gap + length edit.chars.now ≤ rest.end + stride
    edit-ends =
        next-ends edit.before.now (strides_under edit.strides.now) (after_of edit) edit.front edit.old edit.new is index walked.from walked.start walked.at rest
        (strides_under walked.strides) begun search.before search.are met 0 stride get more

    pub edit-past : edit.old ≤ rest.end + stride
    edit-past = omega (arith, edit-ends, met.past)

    pub edit-inside : rest.end + stride ≤ length edit.before.now
    edit-inside =
        next-inside edit.before.now (strides_under edit.strides.now) (after_of edit) edit.front edit.old edit.new is index walked.from walked.start walked.at rest
        (strides_under walked.strides) begun search.before search.are met 0 stride get more

    pub edit-behind : walked.from + span (strides_under walked.strides) + length edit.chars.now ≤ edit.new + (rest.end + stride - edit.old)
    edit-behind =
        next-behind edit.before.now (strides_under edit.strides.now) (after_of edit) edit.front edit.old edit.new is index walked.from walked.start walked.at rest
        (strides_under walked.strides) begun search.before search.are met 0 stride get more

    pub edit-after : edit.new + (rest.end + stride - edit.old) ≤ length edit.after.now
    edit-after =
        next-after edit.before.now (strides_under edit.strides.now) (after_of edit) edit.front edit.old edit.new is index walked.from walked.start walked.at rest
        (strides_under walked.strides) begun search.before search.are met 0 stride get more

    module _ (number : ℕ) (ends : walked.from + span (strides_under walked.strides) + number ≡ edit.new + (rest.end + stride - edit.old)) where
      pub number-fits : length edit.after.now < 2 ^ 64 → IsTrue (is_countable (reach_of (strides_under walked.strides ++ number ∷ [])))
      number-fits small =
          next-fits edit.before.now (strides_under edit.strides.now) (after_of edit) edit.front edit.old edit.new is index walked.from walked.start walked.at rest
          (strides_under walked.strides) begun search.before search.are met number stride get more ends small

      all-next : (found : List ℕ) → found ≡ strides_under walked.strides ++ number ∷ [] →
          AreMatchesFrom (folded edit.fold edit.chars.now) (folded edit.fold edit.after.now) 0
          (runs_behind (length edit.chars.now) 0 (replaced (strides_under edit.strides.now) index (rest.index + 1) found))
      all-next found put =
          subst (λ (xs : List ℕ). AreMatchesFrom (folded edit.fold edit.chars.now) (folded edit.fold edit.after.now) 0
          (runs_behind (length edit.chars.now) 0 (replaced (strides_under edit.strides.now) index (rest.index + 1) xs))) (sym put)
          (joined-next edit.before.now (strides_under edit.strides.now) (after_of edit) edit.front edit.old edit.new is index walked.from walked.start walked.at rest
          (strides_under walked.strides) begun search.before search.are met number stride get more ends)

      pub next-has : (found made : List ℕ) → found ≡ strides_under walked.strides ++ number ∷ [] →
          made ≡ replaced (strides_under edit.strides.now) index (rest.index + 1) found → HasRuns (after_of edit) made
      next-has found made put said = subst (HasRuns (after_of edit)) (sym said) (has-from (after_of edit) _ is.some (all-next found put))

      pub next-fit : (found : List ℕ) → found ≡ strides_under walked.strides ++ number ∷ [] → length edit.after.now < 2 ^ 64 →
          IsTrue (is_countable (reach_of (replaced (strides_under edit.strides.now) index (rest.index + 1) found)))
      next-fit found put small = fits-from (after_of edit) _ is.some (all-next found put) small
