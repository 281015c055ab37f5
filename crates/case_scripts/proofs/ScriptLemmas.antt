-- Lemmas on scripts that are read line by line.
use Rattle.std.proofs.Common.{◌≡◌, ℕ, ◌+◌, ◌<◌, ◌≤◌, Bool, true, false, List, [], ◌∷◌, length, Option, None, Some, Err, refl, ap, sym, subst, ◌∙◌, length-append, arith}
use Rattle.std.specs.Prelude.{⊤, option_and_then}
use Rattle.case_lines.specs.Lines.{content_of}
use Rattle.case_scripts.specs.Inner.{IsTakenAs}
use Rattle.case_scripts.specs.Said.{Meaning, said_of}
use Rattle.plain_text.specs.InputLines.{lines_of}
use Rattle.case_scripts.specs.declared.script.Script.{Script}
use Rattle.case_scripts.specs.declared.script.ReadFault.TheVariants.{BadLine}
use Rattle.case_scripts.proofs.CutLemmas.{IsCut}
use Rattle.case_scripts.specs.Script.{blank, ended_at, or_bad, read_from, script_of, with_line, with_said}

-- a text is read as far as its rest
abbrev pub Reads : List ℕ → Script → ℕ → List ℕ → Type 0
Reads text script number rest = script_of text ≡ read_from (number + 1) script (lines_of rest)

pub reads-start : (text : List ℕ) (script : Script) → script ≡ blank → Reads text script 0 text
reads-start text script is = ap (λ s. read_from 1 s (lines_of text)) (sym is)

-- the lines of a rest that is not empty, and its length
read_from-cut : (number : ℕ) (script : Script) (rest line later : List ℕ) → 0 < length rest → IsCut rest line later →
    read_from number script (lines_of rest) ≡ or_bad number (λ next. read_from (number + 1) next (lines_of later)) (with_line script line)
read_from-cut number script [] line later some cut = absurd (omega (arith, some))
read_from-cut number script (b ∷ rest) line later some cut = ap (read_from number script) cut.2

pub cut_length : (rest line later : List ℕ) → 0 < length rest → IsCut rest line later → length later + 1 ≤ length rest
cut_length [] line later some cut = absurd (omega (arith, some))
cut_length (b ∷ rest) line later some cut = omega (arith, cut.0, ap length cut.1, length-append line later)

-- ---- one line

absurd_truth : true ≡ false → ⊥
absurd_truth is = subst Holds is tt
  where
    Holds : Bool → Type 0
    Holds true = ⊤
    Holds false = ⊥

taken_is : {A : Type 0} (after : A) (wanted : Option A) (taken : Bool) → taken ≡ true → IsTakenAs after wanted taken → wanted ≡ Some after
taken_is after None taken does is = absurd (absurd_truth (sym does ∙ is))
taken_is after (Some it) taken does is = ap Some (sym is.1)

refused_is : {A : Type 0} (after : A) (wanted : Option A) (taken : Bool) → taken ≡ false → IsTakenAs after wanted taken → wanted ≡ None
refused_is after None taken does is = refl
refused_is after (Some it) taken does is = absurd (absurd_truth (sym is.0 ∙ does))

pub line_taken : (script after : Script) (line : List ℕ) (meaning : Meaning) (taken : Bool) → said_of (content_of line) ≡ Some meaning →
    taken ≡ true → IsTakenAs after (with_said script meaning) taken → with_line script line ≡ Some after
line_taken script after line meaning taken means does takes =
    ap (option_and_then (with_said script)) means ∙ taken_is after (with_said script meaning) taken does takes

pub line_refused : (script after : Script) (line : List ℕ) (meaning : Meaning) (taken : Bool) → said_of (content_of line) ≡ Some meaning →
    taken ≡ false → IsTakenAs after (with_said script meaning) taken → with_line script line ≡ None
line_refused script after line meaning taken means does takes =
    ap (option_and_then (with_said script)) means ∙ refused_is after (with_said script meaning) taken does takes

pub line_unsaid : (script : Script) (line : List ℕ) → said_of (content_of line) ≡ None → with_line script line ≡ None
line_unsaid script line none = ap (option_and_then (with_said script)) none

-- ---- the text

-- a line that may stand there
pub reads-line : (text : List ℕ) (script after : Script) (number : ℕ) (rest line later : List ℕ) →
    Reads text script number rest → 0 < length rest → IsCut rest line later → with_line script line ≡ Some after →
    Reads text after (number + 1) later
reads-line text script after number rest line later reads some cut takes =
    reads ∙ read_from-cut (number + 1) script rest line later some cut ∙
    ap (or_bad (number + 1) (λ next. read_from (number + 1 + 1) next (lines_of later))) takes

-- a bad line
pub reads-bad : (text : List ℕ) (script : Script) (number : ℕ) (rest line later : List ℕ) →
    Reads text script number rest → 0 < length rest → IsCut rest line later → with_line script line ≡ None →
    script_of text ≡ Err (BadLine (number + 1))
reads-bad text script number rest line later reads some cut bad =
    reads ∙ read_from-cut (number + 1) script rest line later some cut ∙
    ap (or_bad (number + 1) (λ next. read_from (number + 1 + 1) next (lines_of later))) bad

-- the end
pub reads-end : (text : List ℕ) (script : Script) (number : ℕ) (rest : List ℕ) → Reads text script number rest → rest ≡ [] →
    script_of text ≡ ended_at (number + 1) script.turns.begun script
reads-end text script number rest reads end = reads ∙ ap (λ more. read_from (number + 1) script (lines_of more)) end
