-- What is left of a storm once bytes of its next line were given.
use Rattle.std.proofs.Common.{◌≡◌, ℕ, ◌≤◌, List, ◌∷◌, ◌++◌, length, min, take, drop, map, ap, sym, ◌∙◌, append_assoc, arith}
use Rattle.std.proofs.lemmas.List.{length-take-le, nil_from_length, take-append-drop}
use Rattle.std.proofs.Math.Seq.{take-append_seam}
use Rattle.outside.specs.Source.{filled}
use Rattle.storm_lines.specs.Lines.{bytes_of_all, line_bytes, storm_line_of}

-- the front of a buffer that was filled so
take-filled : (buf bytes : List ℕ) (n : ℕ) → n ≤ length bytes → take n (filled buf bytes n) ≡ take n bytes
take-filled buf bytes n fits =
    ap (λ k. take k (filled buf bytes n)) (sym (length-take-le n bytes fits)) ∙ take-append_seam (take n bytes) (drop n buf)

-- where the line that was begun is given whole, the line of the next word is given from its front on
pub next_given : (begun draws later buf after line rest : List ℕ) (word n : ℕ) → length begun ≡ 0 → draws ≡ word ∷ later →
    line ≡ line_bytes (storm_line_of word) → n ≡ min (length buf) (length line) → after ≡ filled buf line n → rest ≡ drop n line →
    begun ++ bytes_of_all (map storm_line_of draws) ≡ take n after ++ (rest ++ bytes_of_all (map storm_line_of later))
next_given begun draws later buf after line rest word n none drawn is_line count filled_so is_rest =
    let others = bytes_of_all (map storm_line_of later) in
    ap (λ b. b ++ bytes_of_all (map storm_line_of draws)) (nil_from_length begun none) ∙ ap (λ words. bytes_of_all (map storm_line_of words)) drawn ∙
    ap (λ l. l ++ others) (sym is_line ∙ sym (take-append-drop n line)) ∙ append_assoc (take n line) (drop n line) others ∙
    ap (λ front. front ++ (drop n line ++ others)) (sym (ap (take n) filled_so ∙ take-filled buf line n (omega (arith, count)))) ∙
    ap (λ r. take n after ++ (r ++ others)) (sym is_rest)
