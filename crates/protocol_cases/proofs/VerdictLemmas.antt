-- Lemmas on the first line at which two outputs differ.
use Rattle.std.proofs.Common.{◌≡◌, ℕ, ◌+◌, ◌<◌, ◌≤◌, Bool, true, false, List, [], ◌∷◌, length, Option, None, Some, refl, ap, sym, ◌∙◌, subst, length-append, arith}
use Rattle.std.specs.Prelude.{◌↔◌, if◌then◌else◌, ◌==◌, ⊤, option_map, unwrap_or}
use Rattle.std.proofs.lemmas.Bool.Decides.{nat_tests}
use Rattle.std.specs.Str.{bytes_eq}
use Rattle.std.proofs.lemmas.Slice.Eq.{bytes_eq-Decides}
use Rattle.std.specs.List.{AllByRecursion, concat}
use Rattle.plain_text.specs.InputLines.{lines_of}
use Rattle.plain_text.proofs.callers.InputLemmas.{concat-lines_of}
use Rattle.protocol_cases.specs.declared.verdict.Difference.{Difference}
use Rattle.outside.specs.Shelf.{bytes_of}
use Rattle.case_scripts.specs.declared.shelf.FileSaid.{FileSaid}
use Rattle.protocol_cases.specs.declared.verdict.Fault.{Fault}
use Rattle.protocol_cases.specs.declared.verdict.Fault.TheVariants.{Absent, Differs, FileCount, Present}
use Rattle.protocol_cases.specs.declared.verdict.Place.{Place}
use Rattle.protocol_cases.specs.declared.verdict.Place.TheVariants.{File}
use Rattle.case_scripts.specs.Shelf.{Files, may_hold}
use Rattle.protocol_cases.specs.Shelf.{AreAsSaid, IsAsSaid, count_after, counts, end_of}
use Rattle.case_scripts.proofs.ForCallers.{IsCut}
use Rattle.protocol_cases.specs.Verdict.{bytes_fault, count_fault, file_fault, files_fault, first_difference, first_of, found_fault, shelf_fault}

-- ---- lines are the same exactly where there is no difference

bytes_eq-same : (line : List ℕ) → bytes_eq line line ≡ true
bytes_eq-same line = (bytes_eq-Decides line line).1 refl

pub first_difference-same : (number : ℕ) (lines : List (List ℕ)) → first_difference number lines lines ≡ None
first_difference-same number [] = refl
first_difference-same number (line ∷ lines) =
    ap (λ same. if same then first_difference (number + 1) lines lines else Some (record { line = number; expected = line; got = line }))
    (bytes_eq-same line) ∙ first_difference-same (number + 1) lines

unfoldable pub IsNone : {A : Type 0} → Option A → Type 0
IsNone None = ⊤
IsNone (Some a) = ⊥

pub first_difference-none : (number : ℕ) (lines others : List (List ℕ)) → IsNone (first_difference number lines others) → lines ≡ others
unfolding IsNone
first_difference-none number [] [] none = refl
first_difference-none number [] (other ∷ others) none = absurd none
first_difference-none number (line ∷ lines) [] none = absurd none
first_difference-none number (line ∷ lines) (other ∷ others) none =
    elim (bytes_eq line other) as (λ same. bytes_eq line other ≡ same →
    IsNone (if same then first_difference (number + 1) lines others else Some (record { line = number; expected = line; got = other })) →
    line ∷ lines ≡ other ∷ others) [
      | true ↦ λ same rest. ap (λ l. l ∷ lines) ((bytes_eq-Decides line other).0 same) ∙
          ap (λ ls. other ∷ ls) (first_difference-none (number + 1) lines others rest)
      | false ↦ λ same rest. absurd rest
    ] refl none

same_bytes : (expected got : List ℕ) → lines_of expected ≡ lines_of got → got ≡ expected
same_bytes expected got same = sym (concat-lines_of got) ∙ ap concat (sym same) ∙ concat-lines_of expected

-- ---- a fault is told exactly where something is wrong

unfoldable pub IsExact : Option Fault → Type 0 → Type 0
IsExact fault Fact = IsNone fault ↔ Fact

pub bytes_fault-exact : (place : Place) (expected got : List ℕ) → IsExact (bytes_fault place expected got) (got ≡ expected)
unfolding IsNone IsExact
bytes_fault-exact place expected got = (
  λ none. same_bytes expected got (first_difference-none 1 (lines_of expected) (lines_of got) (no_difference (first_difference 1 (lines_of expected) (lines_of got)) none)),
  λ same. subst IsNone (ap (λ b. option_map (Differs place) (first_difference 1 (lines_of expected) (lines_of b))) (sym same))
      (subst IsNone (ap (option_map (Differs place)) (sym (first_difference-same 1 (lines_of expected)))) tt),
)
  where
    no_difference : (found : Option Difference) → IsNone (option_map (Differs place) found) → IsNone found
    no_difference None none = tt
    no_difference (Some difference) none = none

pub first_of-exact : (a b : Option Fault) (Fact Other : Type 0) → IsExact a Fact → IsExact b Other → IsExact (first_of a b) (Fact × Other)
unfolding IsNone IsExact
first_of-exact None b Fact Other one other = (λ none. (one.0 tt, other.0 none), λ both. other.1 both.1)
first_of-exact (Some fault) b Fact Other one other = (λ none. absurd none, λ both. absurd (one.1 both.0))

-- ---- files

abbrev no_bytes : Option (List ℕ)
no_bytes = None

-- no file is found
none_found : (file : FileSaid) (holds : Bool) →
    IsExact (if holds then Some (Absent file.path) else None) (no_bytes ≡ (if holds then Some file.bytes else None))
unfolding IsNone IsExact
none_found file true = (λ none. absurd none, λ is. absurd (subst IsNone is tt))
none_found file false = (λ none. refl, λ is. tt)

-- one is
some_found : (file : FileSaid) (got : List ℕ) (holds : Bool) →
    IsExact (if holds then bytes_fault (File file.path) file.bytes got else Some (Present file.path))
    (Some got ≡ (if holds then Some file.bytes else None))
unfolding IsNone IsExact
some_found file got true =
    let exact = bytes_fault-exact (File file.path) file.bytes got in
    (λ none. ap Some (exact.0 none), λ is. exact.1 (ap (λ o. unwrap_or o []) is))
some_found file got false = (λ none. absurd none, λ is. absurd (subst IsNone (sym is) tt))

found_fault-exact : (file : FileSaid) (found : Option (List ℕ)) → IsExact (found_fault file found) (found ≡ end_of file)
found_fault-exact file None = none_found file (may_hold file.when)
found_fault-exact file (Some got) = some_found file got (may_hold file.when)

-- of what counts alone
counted-exact : (does : Bool) (fault : Option Fault) (Fact : Type 0) → IsExact fault Fact →
    IsExact (if does then fault else None) (does ≡ true → Fact)
unfolding IsNone IsExact
counted-exact true fault Fact exact = (λ none is. exact.0 none, λ fact. exact.1 (fact refl))
counted-exact false fault Fact exact = (λ none is. absurd (untrue is), λ fact. tt)
  where
    Holds : Bool → Type 0
    Holds true = ⊥
    Holds false = ⊤

    untrue : false ≡ true → ⊥
    untrue is = subst Holds is tt

file_fault-exact : (said : List FileSaid) (shelf : Files) (file : FileSaid) → IsExact (file_fault said shelf file) (IsAsSaid said shelf file)
file_fault-exact said shelf file =
    counted-exact (counts said file) (found_fault file (bytes_of shelf file.path)) (bytes_of shelf file.path ≡ end_of file)
    (found_fault-exact file (bytes_of shelf file.path))

files_fault-exact : (said : List FileSaid) (shelf : Files) (files : List FileSaid) →
    IsExact (files_fault said shelf files) (AllByRecursion (IsAsSaid said shelf) files)
unfolding IsNone IsExact
files_fault-exact said shelf [] = (λ none. tt, λ all. tt)
files_fault-exact said shelf (file ∷ files) =
    first_of-exact (file_fault said shelf file) (files_fault said shelf files) (IsAsSaid said shelf file) (AllByRecursion (IsAsSaid said shelf) files)
    (file_fault-exact said shelf file) (files_fault-exact said shelf files)

-- ---- numbers

pub number-exact : (expected got : ℕ) (fault : Fault) (same : Bool) → (expected == got) ≡ same →
    IsExact (if same then None else Some fault) (got ≡ expected)
unfolding IsNone IsExact
number-exact expected got fault true is = (λ none. grind (arith, nat_tests), λ same. tt)
number-exact expected got fault false is = (λ none. absurd none, λ same. absurd (grind (arith, nat_tests)))

pub shelf_fault-exact : (said : List FileSaid) (shelf : Files) → IsExact (shelf_fault said shelf) (AreAsSaid said shelf)
unfolding IsExact
shelf_fault-exact said shelf =
    let exact =
    first_of-exact (files_fault said shelf said) (count_fault (count_after said said) (length shelf)) (AllByRecursion (IsAsSaid said shelf) said)
    (length shelf ≡ count_after said said) (files_fault-exact said shelf said)
    (number-exact (count_after said said) (length shelf) (FileCount (count_after said said) (length shelf)) (count_after said said == length shelf) refl) in
    (λ none. record { each = (exact.0 none).0; count = (exact.0 none).1 }, λ are. exact.1 (are.each, are.count))

-- ---- the lines that were cut off

not_both : (same : Bool) → same ≡ true → same ≡ false → ⊥
not_both same holds fails = absurd_bool (sym holds ∙ fails)
  where
    Holds : Bool → Type 0
    Holds true = ⊤
    Holds false = ⊥

    absurd_bool : true ≡ false → ⊥
    absurd_bool is = subst Holds is tt

first_difference-step : (number : ℕ) (line : List ℕ) (lines : List (List ℕ)) (other : List ℕ) (others : List (List ℕ)) (same : Bool) →
    bytes_eq line other ≡ same → first_difference number (line ∷ lines) (other ∷ others) ≡
    (if same then first_difference (number + 1) lines others else Some (record { line = number; expected = line; got = other }))
first_difference-step number line lines other others same is =
    ap (λ b. if b then first_difference (number + 1) lines others else Some (record { line = number; expected = line; got = other })) is

-- they differ
pub first_difference-other : (number : ℕ) (a line rest b other later : List ℕ) → IsCut a line rest → IsCut b other later →
    bytes_eq line other ≡ false → first_difference number (lines_of a) (lines_of b) ≡ Some (record { line = number; expected = line; got = other })
first_difference-other number [] line rest [] other later cut cut_other differ =
    absurd (not_both (bytes_eq line other) ((bytes_eq-Decides line other).1 (cut.0 ∙ sym cut_other.0)) differ)
first_difference-other number [] line rest (y ∷ b) other later cut cut_other differ =
    ap (λ lines. first_difference number [] lines) cut_other.2 ∙ ap (λ l. Some (record { line = number; expected = l; got = other })) (sym cut.0)
first_difference-other number (x ∷ a) line rest [] other later cut cut_other differ =
    ap (λ lines. first_difference number lines []) cut.2 ∙ ap (λ o. Some (record { line = number; expected = line; got = o })) (sym cut_other.0)
first_difference-other number (x ∷ a) line rest (y ∷ b) other later cut cut_other differ =
    ap (λ lines. first_difference number lines (lines_of (y ∷ b))) cut.2 ∙ ap (λ lines. first_difference number (line ∷ lines_of rest) lines) cut_other.2 ∙
    first_difference-step number line (lines_of rest) other (lines_of later) false differ

-- they are the same
pub record GoesOn (number : ℕ) (a rest b later : List ℕ) : Type 0 where
  pub lines : first_difference number (lines_of a) (lines_of b) ≡ first_difference (number + 1) (lines_of rest) (lines_of later)
  pub shorter : length rest + 1 ≤ length a
  pub other : length later + 1 ≤ length b

cut-shorter : (x : ℕ) (a line rest : List ℕ) → IsCut (x ∷ a) line rest → length rest + 1 ≤ length (x ∷ a)
cut-shorter x a line rest cut = omega (arith, cut.0, ap length cut.1, length-append line rest)

pub first_difference-same_line : (number : ℕ) (a line rest b other later : List ℕ) → IsCut a line rest → IsCut b other later →
    bytes_eq line other ≡ true → 0 < length a + length b → GoesOn number a rest b later
first_difference-same_line number [] line rest [] other later cut cut_other same some = absurd (omega (arith, some))
first_difference-same_line number [] line rest (y ∷ b) other later cut cut_other same some =
    absurd (omega (arith, cut_other.0, ap length cut.0, ap length ((bytes_eq-Decides line other).0 same)))
first_difference-same_line number (x ∷ a) line rest [] other later cut cut_other same some =
    absurd (omega (arith, cut.0, ap length cut_other.0, ap length ((bytes_eq-Decides line other).0 same)))
first_difference-same_line number (x ∷ a) line rest (y ∷ b) other later cut cut_other same some = record {
  lines = ap (λ lines. first_difference number lines (lines_of (y ∷ b))) cut.2 ∙
      ap (λ lines. first_difference number (line ∷ lines_of rest) lines) cut_other.2 ∙
      first_difference-step number line (lines_of rest) other (lines_of later) true same;
  shorter = cut-shorter x a line rest cut;
  other = cut-shorter y b other later cut_other;
}
