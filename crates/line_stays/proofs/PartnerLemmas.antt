-- The partner of each line of a layout, by the logical line that it is of and its place in that.
use Rattle.std.proofs.Common.{◌≡◌, ℕ, zero, suc, ◌+◌, ◌<◌, Bool, List, [], ◌∷◌, ◌++◌, length, map, take, Option, Some, None, refl, ap, ap₂, ◌∙◌, arith, length-append}
use Rattle.std.specs.Prelude.{slice_get, unwrap_or}
use Rattle.std.specs.List.{enumerate_from, flat_map}
use Rattle.plain_text.specs.declared.run.Run.{Run}
use Rattle.plain_screen.specs.declared.screen.Line.{Line}
use Rattle.plain_screen.specs.Plan.{partner_at}
use Rattle.plain_screen.specs.Touched.{are_alike, by_logical_lines, counterpart, first_of, is_same_but_number, lines_in, partners_in, partners_of}
use Rattle.line_stays.specs.Partners.{partner_in}

partner_at-none : (index : ℕ) → partner_at [] index ≡ None
partner_at-none zero = refl
partner_at-none (suc index) = refl

partner_at-left : (ps qs : List (Option (ℕ × Bool))) (k : ℕ) → k < length ps → partner_at (ps ++ qs) k ≡ partner_at ps k
partner_at-left [] qs k less = absurd (omega (arith, less))
partner_at-left (p ∷ ps) qs zero less = refl
partner_at-left (p ∷ ps) qs (suc k) less = partner_at-left ps qs k (omega (arith, less))

partner_at-right : (ps qs : List (Option (ℕ × Bool))) (k : ℕ) → partner_at (ps ++ qs) (length ps + k) ≡ partner_at qs k
partner_at-right [] qs k = let none : 0 + k ≡ k = omega arith in ap (partner_at qs) none
partner_at-right (p ∷ ps) qs k =
    let on : length (p ∷ ps) + k ≡ suc (length ps + k) = omega arith in ap (partner_at (p ∷ (ps ++ qs))) on ∙ partner_at-right ps qs k

module _ (before : List (List Line)) where
  -- the partners of lines one after the other
  abbrev numbered_on : ℕ → Bool → List Line → List (Option (ℕ × Bool))
  numbered_on old same lines = map (λ (at, line). Some (at, same)) (enumerate_from old lines)

  length-on : (old : ℕ) (same : Bool) (lines : List Line) → length (numbered_on old same lines) ≡ length lines
  length-on old same [] = refl
  length-on old same (line ∷ lines) = ap suc (length-on (old + 1) same lines)

  at-on : (old k : ℕ) (same : Bool) (lines : List Line) → k < length lines → partner_at (numbered_on old same lines) k ≡ Some (old + k, same)
  at-on old k same [] less = absurd (omega (arith, less))
  at-on old zero same (line ∷ lines) less = let here : old ≡ old + 0 = omega arith in ap (λ n. Some (n, same)) here
  at-on old (suc k) same (line ∷ lines) less =
      at-on (old + 1) k same lines (omega (arith, less)) ∙ (let on : old + 1 + k ≡ old + suc k = omega arith in ap (λ n. Some (n, same)) on)

  length-none : (lines : List Line) → length (partners_in before None lines) ≡ length lines
  length-none [] = refl
  length-none (line ∷ lines) = ap suc (length-none lines)

  pub length-partners : (other : Option ℕ) (lines : List Line) → length (partners_in before other lines) ≡ length lines
  length-partners None lines = length-none lines
  length-partners (Some index) lines = length-on (first_of before index) (are_alike is_same_but_number (slice_get before index) lines) lines

  at-none : (lines : List Line) (k : ℕ) → partner_at (partners_in before None lines) k ≡ None
  at-none [] k = partner_at-none k
  at-none (line ∷ lines) zero = refl
  at-none (line ∷ lines) (suc k) = at-none lines k

  at-partners : (other : Option ℕ) (lines : List Line) (k : ℕ) → k < length lines →
      partner_at (partners_in before other lines) k ≡ partner_in before other lines k
  at-partners None lines k less = at-none lines k
  at-partners (Some index) lines k less = at-on (first_of before index) k (are_alike is_same_but_number (slice_get before index) lines) lines less

  module _ (other_of : ℕ → Option ℕ) where
    abbrev pub partners_on : ℕ → List (List Line) → List (Option (ℕ × Bool))
    partners_on start groups = flat_map (λ (i, lines). partners_in before (other_of i) lines) (enumerate_from start groups)

    at-groups : (start index k : ℕ) (groups : List (List Line)) (lines : List Line) → slice_get groups index ≡ Some lines → k < length lines →
        partner_at (partners_on start groups) (first_of groups index + k) ≡ partner_in before (other_of (start + index)) lines k
    at-groups start index k [] lines is less = absurd cc
    at-groups start zero k (group ∷ groups) lines is less =
        let same : group ≡ lines = ap (λ o. unwrap_or o group) is in
        let none : 0 + k ≡ k = omega arith in
        let here : start ≡ start + 0 = omega arith in
        let inside : k < length (partners_in before (other_of start) group) = omega (arith, less, length-partners (other_of start) group, ap length same) in
        ap (partner_at (partners_in before (other_of start) group ++ partners_on (start + 1) groups)) none ∙
        partner_at-left (partners_in before (other_of start) group) (partners_on (start + 1) groups) k inside ∙
        at-partners (other_of start) group k (omega (arith, less, ap length same)) ∙
        ap₂ (λ i ls. partner_in before (other_of i) ls k) here same
    at-groups start (suc index) k (group ∷ groups) lines is less =
        let sum : length (group ++ lines_in (take index groups)) + k ≡ length (partners_in before (other_of start) group) + (first_of groups index + k) =
        omega (arith, length-append group (lines_in (take index groups)), length-partners (other_of start) group) in
        let on : start + 1 + index ≡ start + suc index = omega arith in
        ap (partner_at (partners_in before (other_of start) group ++ partners_on (start + 1) groups)) sum ∙
        partner_at-right (partners_in before (other_of start) group) (partners_on (start + 1) groups) (first_of groups index + k) ∙
        at-groups (start + 1) index k groups lines is less ∙ ap (λ i. partner_in before (other_of i) lines k) on

-- THE PARTNER OF A LINE is the line at its place in the counterpart of its logical line
pub partners-at : (touched : Run) (before after : List Line) (index k : ℕ) (lines : List Line) → slice_get (by_logical_lines after) index ≡ Some lines →
    k < length lines →
    partner_at (partners_of touched before after) (first_of (by_logical_lines after) index + k) ≡
    partner_in (by_logical_lines before) (counterpart touched (length (by_logical_lines before)) (length (by_logical_lines after)) index) lines k
partners-at touched before after index k lines is less =
    let none : 0 + index ≡ index = omega arith in
    at-groups (by_logical_lines before) (λ i. counterpart touched (length (by_logical_lines before)) (length (by_logical_lines after)) i) 0 index k
    (by_logical_lines after) lines is less ∙
    ap (λ i. partner_in (by_logical_lines before) (counterpart touched (length (by_logical_lines before)) (length (by_logical_lines after)) i) lines k) none
