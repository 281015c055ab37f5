-- Where no line has a partner that is valid: where all logical lines are touched by text, or nothing is valid.
use Rattle.std.proofs.Common.{◌≡◌, ℕ, zero, suc, ◌+◌, ◌-◌, ◌<◌, ◌≤◌, Bool, true, false, List, [], ◌∷◌, ◌++◌, length, map, replicate, Option, Some, None, refl, ap, ap₂, sym, subst, ◌∙◌, arith, length-append}
use Rattle.std.specs.Prelude.{if◌then◌else◌, nat_lt}
use Rattle.std.specs.List.{AllByRecursion, range_with_len}
use Rattle.std.proofs.lemmas.Bool.{le-ltb, lt-ltb}
use Rattle.plain_text.specs.declared.run.Run.{Run}
use Rattle.plain_screen.specs.declared.screen.Line.{Line}
use Rattle.plain_screen.specs.Touched.{begins_logical, by_logical_lines, counterpart, lines_in, onto_logical, partners_in, partners_of}
use Rattle.line_cache.specs.Stays.{if_true, partner_by, partners_by, valid_by}
use Rattle.line_stays.proofs.PartnerLemmas.{length-partners, partners_on}

-- ---- partners of which none is valid

abbrev AreNone : List (Option (ℕ × Bool)) → Type 0
AreNone ps = AllByRecursion (λ p. p ≡ None) ps

valid-none : (had : List Bool) (ps : List (Option (ℕ × Bool))) → AreNone ps → valid_by had ps ≡ replicate (length ps) None
valid-none had [] none = refl
valid-none had (p ∷ ps) none = ap₂ (λ q qs. q ∷ qs) (ap (if_true had) none.0) (valid-none had ps none.1)

valid-lost : (ps : List (Option (ℕ × Bool))) → valid_by [] ps ≡ replicate (length ps) None
valid-lost [] = refl
valid-lost (None ∷ ps) = ap (λ qs. None ∷ qs) (valid-lost ps)
valid-lost (Some (old, same) ∷ ps) = ap (λ qs. None ∷ qs) (valid-lost ps)

nothing-from : (had : List Bool) (from n : ℕ) → valid_by had (map (partner_by []) (range_with_len from n)) ≡ replicate n None
nothing-from had from zero = refl
nothing-from had from (suc n) = ap (λ qs. None ∷ qs) (nothing-from had (from + 1) n)

-- of no runs
pub nothing-stays : (had : List Bool) (total : ℕ) → valid_by had (partners_by [] total) ≡ replicate total None
nothing-stays had total = nothing-from had 0 total

-- ---- as many partners as lines

length-onto : (line : Line) (groups : List (List Line)) → length (lines_in (onto_logical line groups)) ≡ suc (length (lines_in groups))
length-onto line [] = refl
length-onto line (group ∷ groups) = by (begins_logical group)
  where
    by : (b : Bool) → length (lines_in (if b then (line ∷ []) ∷ group ∷ groups else (line ∷ group) ∷ groups)) ≡ suc (length (lines_in (group ∷ groups)))
    by true = refl
    by false = refl

length-lines : (lines : List Line) → length (lines_in (by_logical_lines lines)) ≡ length lines
length-lines [] = refl
length-lines (line ∷ lines) = length-onto line (by_logical_lines lines) ∙ ap suc (length-lines lines)

module _ (before : List (List Line)) (other_of : ℕ → Option ℕ) where
  length-on-groups : (start : ℕ) (groups : List (List Line)) → length (partners_on before other_of start groups) ≡ length (lines_in groups)
  length-on-groups start [] = refl
  length-on-groups start (group ∷ groups) =
      omega (
        arith,
        length-append (partners_in before (other_of start) group) (partners_on before other_of (start + 1) groups),
        length-append group (lines_in groups),
        length-partners before (other_of start) group,
        length-on-groups (start + 1) groups,
      )

  none-lines : (lines : List Line) → AreNone (partners_in before None lines)
  none-lines [] = tt
  none-lines (line ∷ lines) = (refl, none-lines lines)

  none-both : (ps qs : List (Option (ℕ × Bool))) → AreNone ps → AreNone qs → AreNone (ps ++ qs)
  none-both [] qs one other = other
  none-both (p ∷ ps) qs one other = (one.0, none-both ps qs one.1 other)

  none-groups : (start : ℕ) (groups : List (List Line)) → ((i : ℕ) → i < start + length groups → other_of i ≡ None) →
      AreNone (partners_on before other_of start groups)
  none-groups start [] none = tt
  none-groups start (group ∷ groups) none =
      none-both (partners_in before (other_of start) group) (partners_on before other_of (start + 1) groups)
      (subst (λ o. AreNone (partners_in before o group)) (sym (none start (omega arith))) (none-lines group))
      (none-groups (start + 1) groups (λ i less. none i (omega (arith, less))))

module _ (touched : Run) (before after : List Line) where
  abbrev others : ℕ → Option ℕ
  others index = counterpart touched (length (by_logical_lines before)) (length (by_logical_lines after)) index

  -- there are as many partners as lines
  pub length-partners_of : length (partners_of touched before after) ≡ length after
  length-partners_of = length-on-groups (by_logical_lines before) others 0 (by_logical_lines after) ∙ length-lines after

  -- none is valid where all logical lines are touched by text
  pub none-untouched : (had : List Bool) → touched.start ≡ 0 → length (by_logical_lines after) ≤ touched.end →
      valid_by had (partners_of touched before after) ≡ replicate (length after) None
  none-untouched had first last =
      valid-none had (partners_of touched before after)
      (none-groups (by_logical_lines before) others 0 (by_logical_lines after) (λ i less. lost i (omega (arith, less)))) ∙
      ap (λ n. replicate n None) length-partners_of
    where
      lost : (i : ℕ) → i < length (by_logical_lines after) → others i ≡ None
      lost i less =
          ap (λ (b : Bool). if b then Some i else if nat_lt i touched.end then None else Some (length (by_logical_lines before) - (length (by_logical_lines after) - i)))
          (le-ltb i touched.start (omega (arith, first))) ∙
          ap (λ (b : Bool). if b then None else Some (length (by_logical_lines before) - (length (by_logical_lines after) - i))) (lt-ltb i touched.end (omega (arith, less, last)))

  -- nor where nothing is valid
  pub none-valid : valid_by [] (partners_of touched before after) ≡ replicate (length after) None
  none-valid = valid-lost (partners_of touched before after) ∙ ap (λ n. replicate n None) length-partners_of
