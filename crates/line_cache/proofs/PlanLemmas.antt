-- Lemmas on the steps of a plan.
use Rattle.std.proofs.Common.{◌≡◌, ℕ, zero, suc, ◌+◌, ◌<◌, ◌≤◌, ◌||◌, Bool, true, false, cond, List, ◌∷◌, ◌++◌, map, Some, None, refl, sym, ap, ap₂, ◌∙◌, arith}
use Rattle.std.specs.Prelude.{Option}
use Rattle.std.specs.List.{range_with_len}
use Rattle.std.proofs.lemmas.List.{map-append}
use Rattle.plain_text.specs.declared.run.Run.{Run}
use Rattle.plain_screen.specs.Plan.{Standing, stays, is_restyled, is_sent, is_left, is_near, is_within, standing}
use Rattle.line_cache.specs.Ahead.{moved_by}
use Rattle.line_cache.specs.Edges.{AreAlike}
use Rattle.line_cache.specs.Inner.{kept_step, restyled_step, sent_step}
use Rattle.line_cache.specs.Standings.{standings}
use Rattle.line_cache.specs.Stays.{if_true, partner_by, partners_by, valid_by}
use Rattle.line_cache.specs.Steps.{IsPlacedAt, lines_of, standings_in}
use Rattle.line_cache.specs.declared.stay.Stay.{Stay}
use Rattle.line_cache.specs.declared.step.Step.{Step}
use Rattle.line_cache.proofs.RangeLemmas.{map-range, map-replicate, range-parts}

-- ---- lines that stand alike

-- the rule, by what it asks
unfoldable pub stand_by : Bool → Bool → Bool → Option (ℕ × Bool) → Standing
stand_by near within asked None = cond (within || asked) is_sent is_left
stand_by near within asked (Some (old, true)) = cond (near || asked) (stays old) (cond (within || asked) is_sent is_left)
stand_by near within asked (Some (old, false)) = cond (within || asked) (is_restyled old) (cond (within || asked) is_sent is_left)

pub stand-is : (window request : Run) (index : ℕ) (partner : Option (ℕ × Bool)) →
    standing window request index partner ≡ stand_by (is_near window index) (is_within window index) (is_within request index) partner
unfolding stand_by
stand-is window request index None = refl
stand-is window request index (Some (old, true)) = refl
stand-is window request index (Some (old, false)) = refl

stand-level : (window request : Run) (at n : ℕ) → AreAlike window request at n → (partner : Option (ℕ × Bool)) (k : ℕ) → k < n →
    standing window request (at + k) partner ≡ stand_by (is_near window at) (is_within window at) (is_within request at) partner
stand-level window request at n alike partner k lt =
    stand-is window request (at + k) partner ∙
    ap (λ near. stand_by near (is_within window (at + k)) (is_within request (at + k)) partner) (alike.near k lt) ∙
    ap₂ (λ within asked. stand_by (is_near window at) within asked partner) (alike.within k lt) (alike.requested k lt)

kept-stands : (lines : ℕ → Standing) (is_kept is_shown : Bool) (old at n : ℕ) →
    ((k : ℕ) → k < n → lines (at + k) ≡ cond is_kept (stays (old + k)) (cond is_shown is_sent is_left)) →
    standings_in (kept_step is_kept old is_shown at n) ≡ map lines (range_with_len at n)
kept-stands lines true is_shown old at n same = sym (map-range lines stays at old n same)
kept-stands lines false true old at n same = sym (map-replicate lines at n is_sent same)
kept-stands lines false false old at n same = sym (map-replicate lines at n is_left same)

restyled-stands : (lines : ℕ → Standing) (is_shown : Bool) (old at n : ℕ) →
    ((k : ℕ) → k < n → lines (at + k) ≡ cond is_shown (is_restyled (old + k)) (cond is_shown is_sent is_left)) →
    standings_in (restyled_step is_shown old at n) ≡ map lines (range_with_len at n)
restyled-stands lines true old at n same = sym (map-range lines is_restyled at old n same)
restyled-stands lines false old at n same = sym (map-replicate lines at n is_left same)

sent-stands : (lines : ℕ → Standing) (is_shown : Bool) (at n : ℕ) → ((k : ℕ) → k < n → lines (at + k) ≡ cond is_shown is_sent is_left) →
    standings_in (sent_step is_shown at n) ≡ map lines (range_with_len at n)
sent-stands lines true at n same = sym (map-replicate lines at n is_sent same)
sent-stands lines false at n same = sym (map-replicate lines at n is_left same)

module _ (window request : Run) (at n : ℕ) (alike : AreAlike window request at n) (partner : ℕ → Option (ℕ × Bool)) where
  abbrev lines : ℕ → Standing
  lines index = standing window request index (partner index)

  pub step-kept : (old : ℕ) → ((k : ℕ) → k < n → partner (at + k) ≡ Some (old + k, true)) →
      standings_in (kept_step (is_near window at || is_within request at) old (is_within window at || is_within request at) at n) ≡ map lines (range_with_len at n)
  unfolding stand_by
  step-kept old same =
      kept-stands lines (is_near window at || is_within request at) (is_within window at || is_within request at) old at n
      (λ k lt. stand-level window request at n alike (partner (at + k)) k lt ∙
      ap (stand_by (is_near window at) (is_within window at) (is_within request at)) (same k lt))

  pub step-restyled : (old : ℕ) → ((k : ℕ) → k < n → partner (at + k) ≡ Some (old + k, false)) →
      standings_in (restyled_step (is_within window at || is_within request at) old at n) ≡ map lines (range_with_len at n)
  unfolding stand_by
  step-restyled old same =
      restyled-stands lines (is_within window at || is_within request at) old at n
      (λ k lt. stand-level window request at n alike (partner (at + k)) k lt ∙
      ap (stand_by (is_near window at) (is_within window at) (is_within request at)) (same k lt))

  pub step-sent : ((k : ℕ) → k < n → partner (at + k) ≡ None) →
      standings_in (sent_step (is_within window at || is_within request at) at n) ≡ map lines (range_with_len at n)
  unfolding stand_by
  step-sent same =
      sent-stands lines (is_within window at || is_within request at) at n
      (λ k lt. stand-level window request at n alike (partner (at + k)) k lt ∙
      ap (stand_by (is_near window at) (is_within window at) (is_within request at)) (same k lt))

pub lines_of-kept : (is_kept : Bool) (old : ℕ) (is_shown : Bool) (at n : ℕ) →
    (lines_of (kept_step is_kept old is_shown at n) ≡ n) × IsPlacedAt at (kept_step is_kept old is_shown at n)
lines_of-kept true old is_shown at n = (refl, tt)
lines_of-kept false old true at n = (refl, refl)
lines_of-kept false old false at n = (refl, tt)

pub lines_of-restyled : (is_shown : Bool) (old at n : ℕ) →
    (lines_of (restyled_step is_shown old at n) ≡ n) × IsPlacedAt at (restyled_step is_shown old at n)
lines_of-restyled true old at n = (refl, tt)
lines_of-restyled false old at n = (refl, tt)

pub lines_of-sent : (is_shown : Bool) (at n : ℕ) → (lines_of (sent_step is_shown at n) ≡ n) × IsPlacedAt at (sent_step is_shown at n)
lines_of-sent true at n = (refl, refl)
lines_of-sent false at n = (refl, tt)

-- ---- all lines

pub range-more : {X : Type 0} (f : ℕ → X) (at n : ℕ) → map f (range_with_len 0 at) ++ map f (range_with_len at n) ≡ map f (range_with_len 0 (at + n))
range-more f at n =
    let same : at ≡ 0 + at = omega arith in
    ap (λ from. map f (range_with_len 0 at) ++ map f (range_with_len from n)) same ∙
    sym (map-append f (range_with_len 0 at) (range_with_len (0 + at) n)) ∙ ap (map f) (sym (range-parts 0 at n))

standings-range : (window request : Run) (g : ℕ → Option (ℕ × Bool)) (a n : ℕ) →
    standings window request a (map g (range_with_len a n)) ≡ map (λ index. standing window request index (g index)) (range_with_len a n)
standings-range window request g a zero = refl
standings-range window request g a (suc n) = ap (λ those. standing window request a (g a) ∷ those) (standings-range window request g (a + 1) n)

valid-range : (truths : List Bool) (g : ℕ → Option (ℕ × Bool)) (a n : ℕ) →
    valid_by truths (map g (range_with_len a n)) ≡ map (λ index. if_true truths (g index)) (range_with_len a n)
valid-range truths g a zero = refl
valid-range truths g a (suc n) = ap (λ those. if_true truths (g a) ∷ those) (valid-range truths g (a + 1) n)

pub standings-all : (window request : Run) (truths : List Bool) (runs : List Stay) (total : ℕ) →
    map (λ index. standing window request index (if_true truths (partner_by runs index))) (range_with_len 0 total)
    ≡ standings window request 0 (valid_by truths (partners_by runs total))
standings-all window request truths runs total =
    sym (standings-range window request (λ index. if_true truths (partner_by runs index)) 0 total) ∙
    ap (standings window request 0) (sym (valid-range truths (partner_by runs) 0 total))

-- ---- the steps that lines which stand alike make

module _ (window request : Run) (at n count : ℕ) (alike : AreAlike window request at n) (fewer : n ≤ count) (partner : ℕ → Option (ℕ × Bool))
    (part : Option (ℕ × Bool)) (same : (k : ℕ) → k < count → partner (at + k) ≡ moved_by k part) where
  abbrev those : ℕ → Standing
  those index = standing window request index (partner index)

  abbrev Stands : Step → Type 0
  Stands step = standings_in step ≡ map those (range_with_len at (lines_of step))

  pub stands-kept : (result : Step) (is_kept is_shown : Bool) (old : ℕ) → result ≡ kept_step is_kept old is_shown at n →
      is_kept ≡ (is_near window at || is_within request at) → is_shown ≡ (is_within window at || is_within request at) → part ≡ Some (old, true) → Stands result
  stands-kept result is_kept is_shown old is kept shown own =
      let step = is ∙ ap₂ (λ a b. kept_step a old b at n) kept shown in
      ap standings_in step ∙
      step-kept window request at n alike partner old (λ k lt. same k (omega arith) ∙ ap (moved_by k) own) ∙
      ap (λ m. map those (range_with_len at m))
      (sym (ap lines_of step ∙ (lines_of-kept (is_near window at || is_within request at) old (is_within window at || is_within request at) at n).0))

  pub stands-restyled : (result : Step) (is_shown : Bool) (old : ℕ) → result ≡ restyled_step is_shown old at n →
      is_shown ≡ (is_within window at || is_within request at) → part ≡ Some (old, false) → Stands result
  stands-restyled result is_shown old is shown own =
      let step = is ∙ ap (λ b. restyled_step b old at n) shown in
      ap standings_in step ∙
      step-restyled window request at n alike partner old (λ k lt. same k (omega arith) ∙ ap (moved_by k) own) ∙
      ap (λ m. map those (range_with_len at m)) (sym (ap lines_of step ∙ (lines_of-restyled (is_within window at || is_within request at) old at n).0))

  pub stands-sent : (result : Step) (is_shown : Bool) → result ≡ sent_step is_shown at n →
      is_shown ≡ (is_within window at || is_within request at) → part ≡ None → Stands result
  stands-sent result is_shown is shown own =
      let step = is ∙ ap (λ b. sent_step b at n) shown in
      ap standings_in step ∙
      step-sent window request at n alike partner (λ k lt. same k (omega arith) ∙ ap (moved_by k) own) ∙
      ap (λ m. map those (range_with_len at m)) (sym (ap lines_of step ∙ (lines_of-sent (is_within window at || is_within request at) at n).0))
