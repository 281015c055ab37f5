-- What the screen of a plan shows.
use Rattle.std.proofs.Common.{◌≡◌, ℕ, zero, suc, ◌+◌, Bool, true, false, List, [], ◌∷◌, length, map, Option, Some, None, refl, ap, sym, ◌∙◌, arith}
use Rattle.std.specs.Prelude.{◌||◌, if◌then◌else◌, option_map, slice_get, unwrap_or}
use Rattle.plain_text.specs.declared.run.Run.{Run}
use Rattle.plain_screen.specs.declared.screen.Line.{Line}
use Rattle.plain_screen.specs.Plan.{Standing, is_left, is_near, is_restyled, is_sent, is_within, partner_at, planned_screen, sent_or_left, shown_as, standing, stays, with_standings}

module _ (window request : Run) where
  planned-length : (index : ℕ) (partners : List (Option (ℕ × Bool))) (lines : List Line) →
      length (map shown_as (with_standings window request index partners lines)) ≡ length lines
  planned-length index partners [] = refl
  planned-length index [] (line ∷ lines) = ap suc (planned-length (index + 1) [] lines)
  planned-length index (partner ∷ partners) (line ∷ lines) = ap suc (planned-length (index + 1) partners lines)

  -- a line by its standing
  abbrev shown_at : ℕ → Option (ℕ × Bool) → Line → Option Line
  shown_at at partner line = shown_as (standing window request at partner, line)

  planned-at : (index i at : ℕ) (partners : List (Option (ℕ × Bool))) (lines : List Line) → index + i ≡ at →
      slice_get (map shown_as (with_standings window request index partners lines)) i ≡ option_map (shown_at at (partner_at partners i)) (slice_get lines i)
  planned-at index i at partners [] is = refl
  planned-at index zero at [] (line ∷ lines) is = let here : index ≡ at = omega (arith, is) in ap (λ n. Some (shown_at n None line)) here
  planned-at index (suc i) at [] (line ∷ lines) is = planned-at (index + 1) i at [] lines (omega (arith, is)) ∙ ap (λ p. option_map (shown_at at p) (slice_get lines i)) (none i)
    where
      none : (j : ℕ) → partner_at [] j ≡ None
      none zero = refl
      none (suc j) = refl
  planned-at index zero at (partner ∷ partners) (line ∷ lines) is = let here : index ≡ at = omega (arith, is) in ap (λ n. Some (shown_at n partner line)) here
  planned-at index (suc i) at (partner ∷ partners) (line ∷ lines) is = planned-at (index + 1) i at partners lines (omega (arith, is))

  own-line : (how : Standing) (line other : Line) → shown_as (how, line) ≡ Some other → line ≡ other
  own-line (stays old) line other is = ap (λ o. unwrap_or o line) is
  own-line (is_restyled old) line other is = ap (λ o. unwrap_or o line) is
  own-line is_sent line other is = ap (λ o. unwrap_or o line) is
  own-line is_left line other is = absurd cc

  found-line : (at : ℕ) (partner : Option (ℕ × Bool)) (found : Option Line) (line : Line) → option_map (shown_at at partner) found ≡ Some (Some line) →
      found ≡ Some line
  found-line at partner None line is = absurd cc
  found-line at partner (Some own) line is =
      ap Some (own-line (standing window request at partner) own line (ap (λ o. unwrap_or o (Some own)) is))

  -- a line that is asked for is shown
  asked-shown : (at : ℕ) (partner : Option (ℕ × Bool)) (line : Line) → (is_within window at || is_within request at) ≡ true → shown_at at partner line ≡ Some line
  asked-shown at None line asked = ap (λ (b : Bool). shown_as ((if b then is_sent else is_left), line)) asked
  asked-shown at (Some (old, true)) line asked = by (is_near window at || is_within request at)
    where
      by : (b : Bool) → shown_as ((if b then stays old else sent_or_left window request at), line) ≡ Some line
      by true = refl
      by false = ap (λ (b : Bool). shown_as ((if b then is_sent else is_left), line)) asked
  asked-shown at (Some (old, false)) line asked =
      ap (λ (b : Bool). shown_as ((if b then is_restyled old else sent_or_left window request at), line)) asked

  option-same : (f g : Line → Option Line) (found : Option Line) → ((line : Line) → f line ≡ g line) → option_map f found ≡ option_map g found
  option-same f g None same = refl
  option-same f g (Some line) same = ap Some (same line)

  pub length-planned : (lines : List Line) (partners : List (Option (ℕ × Bool))) → length (planned_screen window request lines partners) ≡ length lines
  length-planned lines partners = planned-length 0 partners lines

  pub equal-planned : (lines : List Line) (partners : List (Option (ℕ × Bool))) (index : ℕ) (line : Line) →
      slice_get (planned_screen window request lines partners) index ≡ Some (Some line) → slice_get lines index ≡ Some line
  equal-planned lines partners index line is =
      found-line index (partner_at partners index) (slice_get lines index) line (sym (planned-at 0 index index partners lines (omega arith)) ∙ is)

  pub valid-planned : (lines : List Line) (partners : List (Option (ℕ × Bool))) (index : ℕ) → (is_within window index || is_within request index) ≡ true →
      slice_get (planned_screen window request lines partners) index ≡ option_map Some (slice_get lines index)
  valid-planned lines partners index asked =
      planned-at 0 index index partners lines (omega arith) ∙
      option-same (shown_at index (partner_at partners index)) Some (slice_get lines index) (λ line. asked-shown index (partner_at partners index) line asked)
