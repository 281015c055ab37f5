-- One line more is told.
use Rattle.std.proofs.Common.{◌≡◌, ℕ, ◌<◌, Bool, List, [], ◌∷◌, length, ap, sym, ◌∙◌, arith}
use Rattle.case_lines.specs.Lines.{first_line, after_line}
use Rattle.plain_text.specs.InputLines.{lines_of}
use Rattle.screen_flags.specs.Told.{changes_told, flags_told, flags_with}
use Rattle.screen_flags.proofs.CutLemmas.{is_cut}

pub next_line : (id : List ℕ) (flags after : List Bool) (rest line later : List ℕ) → 0 < length rest → line ≡ first_line rest →
    later ≡ after_line rest → after ≡ flags_with flags (changes_told id line) →
    flags_told id flags (lines_of rest) ≡ flags_told id after (lines_of later)
next_line id flags after [] line later some first left heeded = absurd (omega (arith, some))
next_line id flags after (b ∷ bytes) line later some first left heeded =
    ap (flags_told id flags) (is_cut (b ∷ bytes) line later first left).2 ∙ ap (λ f. flags_told id f (lines_of later)) (sym heeded)
