-- A text in one piece a logical line: each piece starts at a boundary.
use Rattle.std.proofs.Common.{◌≡◌, ⊎_elim, ℕ, ◌+◌, true, List, [], ◌∷◌, ◌++◌, length, map, sym, ap, subst, ◌∙◌, arith}
use Rattle.std.specs.List.{AllByRecursion, Contains, concat, flat_map}
use Rattle.std.specs.Str.{all_scalars}
use Rattle.std.proofs.lemmas.List.Elements.{Contains-append_left, Contains-append_right}
use Rattle.plain_text.specs.Lines.{logical_lines}
use Rattle.plain_text.proofs.callers.ListLemmas.{AllByRecursion-weaker}
use Rattle.plain_screen.specs.View.{pieces_from, whole_lines}
use Rattle.plain_screen.proofs.callers.ViewLemmas.{concat-logical_lines}
use Rattle.cluster_core.specs.Boundaries.{clusters_in, ends_from}
use Rattle.movement_core.specs.Lines.{StartAtPlaces}
use Rattle.movement_core.proofs.PlaceLemmas.{all_scalars-parts, clusters-whole, ends_from-append, ends_from-last, first, first_or_later}

module _ (line : List ℕ) (lines : List (List ℕ)) (start : ℕ) (scalars : all_scalars line ≡ true) where
  cut-later : (gap : ℕ) → Contains ((start + length line) ∷ ends_from (start + length line) (flat_map clusters_in lines)) gap →
      Contains (start ∷ ends_from start (flat_map clusters_in (line ∷ lines))) gap
  cut-later gap found =
      let own = clusters_in line in
      let rest = flat_map clusters_in lines in
      let long : start + length (concat own) ≡ start + length line = ap (λ cs. start + length cs) (clusters-whole line scalars) in
      let parts : ends_from start (own ++ rest) ≡ ends_from start own ++ ends_from (start + length line) rest =
      ends_from-append start own rest ∙ ap (λ n. ends_from start own ++ ends_from n rest) long in
      subst (λ zs. Contains (start ∷ zs) gap) (sym parts)
      (⊎_elim
      (λ here. Contains-append_left (start ∷ ends_from start own) (ends_from (start + length line) rest) gap
      (subst (Contains (start ∷ ends_from start own)) (long ∙ here) (ends_from-last start own)))
      (λ past. Contains-append_right (start ∷ ends_from start own) (ends_from (start + length line) rest) gap past)
      (first_or_later (start + length line) _ gap found))

StartAtPlaces-lines : (number start : ℕ) (lines : List (List ℕ)) → all_scalars (concat lines) ≡ true →
    AllByRecursion (λ piece. Contains (start ∷ ends_from start (flat_map clusters_in lines)) piece.start)
    (pieces_from number start (map (λ line. (line, length line ∷ [])) lines))
StartAtPlaces-lines number start [] scalars = tt
StartAtPlaces-lines number start (line ∷ lines) scalars =
    let parts = all_scalars-parts line (concat lines) scalars in
    let at : start ≡ start + 0 = omega arith in (
      subst (Contains (start ∷ ends_from start (flat_map clusters_in (line ∷ lines)))) at (first start _),
      AllByRecursion-weaker
          (λ piece. Contains ((start + length line) ∷ ends_from (start + length line) (flat_map clusters_in lines)) piece.start)
          (λ piece. Contains (start ∷ ends_from start (flat_map clusters_in (line ∷ lines))) piece.start)
          (λ piece found. cut-later line lines start parts.0 piece.start found) _ (StartAtPlaces-lines (number + 1) (start + length line) lines parts.1),
    )

pub StartAtPlaces-whole_lines : (text : List ℕ) → all_scalars text ≡ true → StartAtPlaces text (whole_lines text)
StartAtPlaces-whole_lines text scalars =
    StartAtPlaces-lines 1 0 (logical_lines text) (subst (λ t. all_scalars t ≡ true) (sym (concat-logical_lines text)) scalars)
