-- Lemmas on a walk from line to line.
use Rattle.std.proofs.Common.{◌≡◌, ℕ, zero, suc, ◌+◌, ◌-◌, ◌<◌, ◌≤◌, List, [], ◌∷◌, ◌++◌, length, take, drop, ap, sym, ◌∙◌, append_assoc, append-nil, replicate, arith}
use Rattle.std.specs.List.{concat, flat_map}
use Rattle.std.proofs.lemmas.Grind.{replicate_next}
use Rattle.std.proofs.lemmas.List.Folds.{concat-append}
use Rattle.plain_text.specs.InputLines.{lines_of}
use Rattle.macro_record.specs.Played.{with_lf}

-- an input that has a line has a byte
pub some_byte : (left : ℕ) (bytes : List ℕ) → 0 < left → left ≤ length (lines_of bytes) → 0 < length bytes
some_byte left [] some room = absurd (omega (arith, some, room))
some_byte left (b ∷ bytes) some room = omega arith

pub room_step : (left : ℕ) (lines more : List (List ℕ)) (line : List ℕ) → lines ≡ line ∷ more → left ≤ length lines → left - 1 ≤ length more
room_step left lines more line is room = omega (arith, room, ap length is)

pub drop_step : (left : ℕ) (lines more : List (List ℕ)) (line : List ℕ) → lines ≡ line ∷ more → 0 < left → drop (left - 1) more ≡ drop left lines
drop_step zero lines more line is some = absurd (omega (arith, some))
drop_step (suc left) lines more line is some =
    let less : suc left - 1 ≡ left = omega arith in ap (λ n. drop n more) less ∙ ap (drop (suc left)) (sym is)

take_step : (left : ℕ) (lines more : List (List ℕ)) (line : List ℕ) → lines ≡ line ∷ more → 0 < left → take left lines ≡ line ∷ take (left - 1) more
take_step zero lines more line is some = absurd (omega (arith, some))
take_step (suc left) lines more line is some =
    let less : left ≡ suc left - 1 = omega arith in ap (take (suc left)) is ∙ ap (λ n. line ∷ take n more) less

pub made_step : (all made next : List ℕ) (left : ℕ) (lines more : List (List ℕ)) (line : List ℕ) → lines ≡ line ∷ more → 0 < left →
    next ≡ made ++ with_lf line → all ≡ made ++ flat_map with_lf (take left lines) → all ≡ next ++ flat_map with_lf (take (left - 1) more)
made_step all made next left lines more line is some pushed so_far =
    so_far ∙ ap (λ xs. made ++ flat_map with_lf xs) (take_step left lines more line is some) ∙
    sym (append_assoc made (with_lf line) (flat_map with_lf (take (left - 1) more))) ∙
    ap (λ front. front ++ flat_map with_lf (take (left - 1) more)) (sym pushed)

-- bytes so many times over, and once more
pub repeated_step : (made next once : List ℕ) (count : ℕ) → made ≡ concat (replicate count once) → next ≡ made ++ once →
    next ≡ concat (replicate (count + 1) once)
repeated_step made next once count is pushed =
    pushed ∙ ap (λ front. front ++ once) is ∙ ap (λ back. concat (replicate count once) ++ back) (sym (append-nil once)) ∙
    sym (concat-append (replicate count once) (once ∷ [])) ∙ ap concat (sym (replicate_next count once))
