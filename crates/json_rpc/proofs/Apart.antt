-- Lines that are written one after the other come apart again.
use Rattle.std.proofs.Common.{◌≡◌, ℕ, List, [], ◌∷◌, ◌++◌, map, refl, ap, ◌∙◌, append_assoc, append-nil}
use Rattle.std.specs.List.{concat}
use Rattle.plain_text.specs.InputLines.{ended_lines, unended, last_line, lines_of}
use Rattle.serde_json.specs.Data.{Data}
use Rattle.serde_json.specs.Written.{compact_text}
use Rattle.json_rpc.specs.Line.{HasNoLf, line_of}
use Rattle.json_rpc.proofs.Lines.{goes_on}
use Rattle.json_rpc.proofs.Proper.{HasNoLf-compact_text}

ended_lines-line : (text begun rest : List ℕ) → HasNoLf text → ended_lines begun (text ++ 10 ∷ rest) ≡ (begun ++ (text ++ 10 ∷ [])) ∷ ended_lines [] rest
ended_lines-line [] begun rest h = refl
ended_lines-line (b ∷ text) begun rest h =
    goes_on b _ _ h.0 ∙ ended_lines-line text (begun ++ b ∷ []) rest h.1 ∙ ap (λ line. line ∷ ended_lines [] rest) (append_assoc begun (b ∷ []) (text ++ 10 ∷ []))

unended-line : (text begun rest : List ℕ) → HasNoLf text → unended begun (text ++ 10 ∷ rest) ≡ unended [] rest
unended-line [] begun rest h = refl
unended-line (b ∷ text) begun rest h = goes_on b _ _ h.0 ∙ unended-line text (begun ++ b ∷ []) rest h.1

regrouped : (d : Data) (rest : List ℕ) → line_of d ++ rest ≡ compact_text d ++ 10 ∷ rest
unfolding line_of
regrouped d rest = append_assoc (compact_text d) (10 ∷ []) rest

ended : (ds : List Data) → ended_lines [] (concat (map line_of ds)) ≡ map line_of ds
unfolding line_of
ended [] = refl
ended (d ∷ ds) =
    let rest = concat (map line_of ds) in
    ap (ended_lines []) (regrouped d rest) ∙ ended_lines-line (compact_text d) [] rest (HasNoLf-compact_text d) ∙ ap (λ lines. line_of d ∷ lines) (ended ds)

none_left : (ds : List Data) → unended [] (concat (map line_of ds)) ≡ []
none_left [] = refl
none_left (d ∷ ds) =
    let rest = concat (map line_of ds) in
    ap (unended []) (regrouped d rest) ∙ unended-line (compact_text d) [] rest (HasNoLf-compact_text d) ∙ none_left ds

pub lines_of-lines : (ds : List Data) → lines_of (concat (map line_of ds)) ≡ map line_of ds
lines_of-lines ds = (λ i. ended ds i ++ last_line (none_left ds i)) ∙ append-nil (map line_of ds)
