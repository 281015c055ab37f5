-- The logical lines that an edit leaves as they are.
use Rattle.std.proofs.Common.{◌≡◌, ℕ, ◌+◌, ◌-◌, ◌≤◌, List, [], ◌∷◌, ◌++◌, take, drop, refl, ap, ap₂, sym, ◌∙◌, arith, append_assoc}
use Rattle.std.specs.Prelude.{slice_range}
use Rattle.std.proofs.lemmas.List.{drop-drop, take-append-drop}
use Rattle.std.proofs.Math.Seq.{drop-append-add}
use Rattle.plain_text.specs.Lines.{logical_lines}
use Rattle.rope_node.specs.Lengths.{lf_count}
use Rattle.line_index.specs.declared.cut.Cut.{Cut}
use Rattle.line_index.specs.Cuts.{cuts_of_lines, full_lines, onto_front, open_line}
use Rattle.line_index.specs.Laws.{EditTouches}
use Rattle.line_index.proofs.LineLemmas.{count-full, cuts_of_lines-append, lf_count-append, logical_lines-append}
use Rattle.line_index.proofs.WholeLemmas.{first_lines}

-- what stands before a text changes its first logical line alone
drop-onto_front : (front : List ℕ) (lines : List (List ℕ)) → drop 1 (onto_front front lines) ≡ drop 1 lines
drop-onto_front front [] = refl
drop-onto_front front (line ∷ lines) = refl

last_lines : (front rest : List ℕ) → drop (lf_count front + 1) (logical_lines (front ++ rest)) ≡ drop 1 (logical_lines rest)
last_lines front rest =
    ap₂ (λ (n : ℕ) (lines : List (List ℕ)). drop (n + 1) lines) (sym (count-full front)) (logical_lines-append front rest) ∙
    drop-append-add (full_lines front) (onto_front (open_line front) (logical_lines rest)) 1 ∙
    drop-onto_front (open_line front) (logical_lines rest)

last_lines-of : (front middle rest : List ℕ) → drop (lf_count (front ++ middle) + 1) (logical_lines (front ++ (middle ++ rest))) ≡ drop 1 (logical_lines rest)
last_lines-of front middle rest =
    ap (λ (t : List ℕ). drop (lf_count (front ++ middle) + 1) (logical_lines t)) (sym (append_assoc front middle rest)) ∙ last_lines (front ++ middle) rest

-- a list in three
pub in_three : (from to : ℕ) (lines : List (List ℕ)) → from ≤ to → lines ≡ take from lines ++ (slice_range lines from to ++ drop to lines)
in_three from to lines ordered =
    let sum : from + (to - from) ≡ to = omega arith in
    sym (take-append-drop from lines) ∙
    ap (λ (rest : List (List ℕ)). take from lines ++ rest)
    (sym (take-append-drop (to - from) (drop from lines)) ∙
    ap (λ (rest : List (List ℕ)). slice_range lines from to ++ rest) (drop-drop (to - from) from lines ∙ ap (λ (n : ℕ). drop n lines) sum))

-- THE CUTS AFTER AN EDIT are those of the lines before and after it, as they were, and between these those of the touched lines
module _ (width tab : ℕ) where
  pub cuts_of-touched : (front gone come back : List ℕ) → EditTouches width tab front gone come back
  cuts_of-touched front gone come back =
      let old : List (List ℕ) = logical_lines (front ++ (gone ++ back)) in
      let new : List (List ℕ) = logical_lines (front ++ (come ++ back)) in
      let from : ℕ = lf_count front in
      let to : ℕ = lf_count (front ++ come) + 1 in
      let before : take from new ≡ take from old = first_lines front (come ++ back) ∙ sym (first_lines front (gone ++ back)) in
      let after : drop to new ≡ drop (lf_count (front ++ gone) + 1) old = last_lines-of front come back ∙ sym (last_lines-of front gone back) in
      let parts = in_three from to new (omega (arith, lf_count-append front come)) in
      ap (cuts_of_lines width tab) parts ∙ cuts_of_lines-append width tab (take from new) (slice_range new from to ++ drop to new) ∙
      ap₂ (λ (xs ys : List Cut). xs ++ ys) (ap (cuts_of_lines width tab) before)
      (cuts_of_lines-append width tab (slice_range new from to) (drop to new) ∙
      ap (λ (xs : List (List ℕ)). cuts_of_lines width tab (slice_range new from to) ++ cuts_of_lines width tab xs) after)
