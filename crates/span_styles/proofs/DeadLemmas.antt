-- The style rule over a change between two visible lists.
use Rattle.std.proofs.Common.{◌≡◌, ℕ, suc, ◌+◌, ◌<◌, Bool, true, false, not, if◌then◌else◌, List, [], ◌∷◌, ◌++◌, length, map, Option, None, refl, ap, ap₂, sym, ◌∙◌, arith, append-nil}
use Rattle.std.proofs.lemmas.Bool.{eq-eqb, ne_eqb}
use Rattle.plain_text.specs.Woven.{woven}
use Rattle.plain_edits.specs.Styles.{Layer}
use Rattle.subset_runs.specs.Subset.{contains, complement, items_outside, shrink}
use Rattle.delta_core.specs.Synthesis.{appearing}
use Rattle.plain_edits.specs.UnitDelta.{unit_keeps, unit_adds}
use Rattle.span_styles.specs.Laws.{styles_with_dead, StylesFollowCharacters}

abbrev styles_of_added : (ℕ → List ℕ) → ℕ → Layer
styles_of_added adds gap = map (λ c. None) (adds gap)

abbrev styles_of_kept : (ℕ → Bool) → ℕ → Option ℕ → Layer
styles_of_kept keeps index style = if keeps index then style ∷ [] else []

-- nothing appears left of the characters that are ahead
appearing-left : (alive : ℕ) (union : List ℕ) (before after : List Bool) (gap : ℕ) → gap < alive → appearing alive union before after gap ≡ []
appearing-left alive [] before after gap left = refl
appearing-left alive (c ∷ union) [] after gap left = refl
appearing-left alive (c ∷ union) (dead ∷ before) [] gap left = refl
appearing-left alive (c ∷ union) (true ∷ before) (true ∷ after) gap left = appearing-left alive union before after gap left
appearing-left alive (c ∷ union) (true ∷ before) (false ∷ after) gap left =
    ap₂ (λ b cs. (if b then c ∷ [] else []) ++ cs) (ne_eqb alive gap (λ is. omega (arith, left, is))) (appearing-left alive union before after gap left)
appearing-left alive (c ∷ union) (false ∷ before) (dead ∷ after) gap left = appearing-left (alive + 1) union before after gap (omega (arith, left))

module _ (keeps : ℕ → Bool) (adds : ℕ → List ℕ) where
  -- what stands right of a gap, after what is added at it
  right_of : ℕ → Layer → Layer
  right_of gap [] = []
  right_of gap (style ∷ layer) = styles_of_kept keeps gap style ++ woven (styles_of_added adds) (styles_of_kept keeps) (gap + 1) layer

  right_of-woven : (gap : ℕ) (layer : Layer) → woven (styles_of_added adds) (styles_of_kept keeps) gap layer ≡ map (λ c. None) (adds gap) ++ right_of gap layer
  unfolding right_of
  right_of-woven gap [] = sym (append-nil (map (λ c. None) (adds gap)))
  right_of-woven gap (style ∷ layer) = refl

  follows : (alive : ℕ) (union : List ℕ) (before after : List Bool) (layer : Layer) (here : List ℕ) → length before ≡ length union → length after ≡ length union →
      length layer ≡ length (items_outside before union) → here ≡ appearing alive union before after alive →
      ((i : ℕ) → keeps (alive + i) ≡ contains (shrink (complement after) before) i) →
      ((gap : ℕ) → alive < gap → adds gap ≡ appearing alive union before after gap) →
      map (λ c. None) here ++ right_of alive layer ≡ items_outside after (styles_with_dead before layer)
  unfolding right_of
  follows alive [] [] [] [] here one other over here_is kept added = ap (λ cs. map (λ c. None) cs ++ []) here_is
  follows alive [] [] [] (style ∷ layer) here one other over here_is kept added = absurd (omega arith)
  follows alive [] [] (d ∷ after) layer here one other over here_is kept added = absurd (omega arith)
  follows alive [] (b ∷ before) after layer here one other over here_is kept added = absurd (omega arith)
  follows alive (c ∷ union) [] after layer here one other over here_is kept added = absurd (omega arith)
  follows alive (c ∷ union) (b ∷ before) [] layer here one other over here_is kept added = absurd (omega arith)
  follows alive (c ∷ union) (true ∷ before) (true ∷ after) layer here one other over here_is kept added =
      follows alive union before after layer here (omega arith) (omega arith) over here_is kept added
  follows alive (c ∷ union) (true ∷ before) (false ∷ after) layer here one other over here_is kept added =
      let first : here ≡ c ∷ appearing alive union before after alive =
      here_is ∙ ap (λ b. (if b then c ∷ [] else []) ++ appearing alive union before after alive) (eq-eqb alive alive refl) in
      ap (λ cs. map (λ x. None) cs ++ right_of alive layer) first ∙
      ap (λ styles. None ∷ styles)
      (follows alive union before after layer (appearing alive union before after alive) (omega arith) (omega arith) over refl kept
      (λ gap right. added gap right ∙
      ap (λ b. (if b then c ∷ [] else []) ++ appearing alive union before after gap) (ne_eqb alive gap (λ is. omega (arith, right, is)))))
  follows alive (c ∷ union) (false ∷ before) (d ∷ after) [] here one other over here_is kept added = absurd (omega arith)
  follows alive (c ∷ union) (false ∷ before) (d ∷ after) (style ∷ layer) here one other over here_is kept added =
      let none : here ≡ [] = here_is ∙ appearing-left (alive + 1) union before after alive (omega arith) in
      let stays : keeps alive ≡ not d = (let same : alive ≡ alive + 0 = omega arith in ap keeps same) ∙ kept 0 in
      ap (λ cs. map (λ x. None) cs ++ (styles_of_kept keeps alive style ++ woven (styles_of_added adds) (styles_of_kept keeps) (alive + 1) layer)) none ∙
      ap (λ b. (if b then style ∷ [] else []) ++ woven (styles_of_added adds) (styles_of_kept keeps) (alive + 1) layer) stays ∙
      ap (λ styles. (if not d then style ∷ [] else []) ++ styles)
      (right_of-woven (alive + 1) layer ∙
      follows (alive + 1) union before after layer (adds (alive + 1)) (omega arith) (omega arith) (omega arith) (added (alive + 1) (omega arith))
      (λ i. (let next : alive + 1 + i ≡ alive + suc i = omega arith in ap keeps next) ∙ kept (suc i))
      (λ gap right. added gap (omega (arith, right)))) ∙
      shown d
    where
      shown : (d : Bool) → (if not d then style ∷ [] else []) ++ items_outside after (styles_with_dead before layer) ≡ items_outside (d ∷ after) (style ∷ styles_with_dead before layer)
      shown true = refl
      shown false = refl

  pub woven-dead : (union : List ℕ) (before after : List Bool) (layer : Layer) → length before ≡ length union → length after ≡ length union →
      length layer ≡ length (items_outside before union) → ((i : ℕ) → keeps i ≡ contains (shrink (complement after) before) i) →
      ((gap : ℕ) → adds gap ≡ appearing 0 union before after gap) →
      woven (styles_of_added adds) (styles_of_kept keeps) 0 layer ≡ items_outside after (styles_with_dead before layer)
  woven-dead union before after layer one other over kept added =
      right_of-woven 0 layer ∙
      follows 0 union before after layer (adds 0) one other over (added 0) (λ i. (let same : 0 + i ≡ i = omega arith in ap keeps same) ∙ kept i) (λ gap right. added gap)

pub styles_follow : StylesFollowCharacters
styles_follow union before after units layer one other between over =
    woven-dead (unit_keeps units) (unit_adds units) union before after layer one other (over ∙ between.base) between.kept between.added
