-- The place of a gap of a rope, by the characters left of it.
use Rattle.std.proofs.Common.{◌≡◌, ℕ, ◌<◌, ◌≤◌, ◌⊎◌, inl, inr, List, ◌++◌, length, take, drop, ap, sym, ◌∙◌, arith, length-take}
use Rattle.std.proofs.lemmas.Bool.{cases_lt}
use Rattle.std.proofs.lemmas.List.{take_all, take_at, take-append-drop}
use Rattle.plain_text.specs.Text.{byte_len, place_of}
use Rattle.rope_metrics.specs.declared.measure.Measure.TheVariants.{Bytes, Chars}
use Rattle.rope_metrics.specs.Measure.{HasNone, IsConverted}

front_is : (text front back : List ℕ) (gap : ℕ) → text ≡ front ++ back → length front ≡ gap → take gap text ≡ front
front_is text front back gap cut ends =
    ap (take gap) cut ∙ take_at front back gap ends

past_end : (text : List ℕ) (gap : ℕ) → HasNone Chars text gap → take gap text ≡ text
past_end text gap none =
    by (cases_lt (length text) gap)
  where
    by : (length text < gap) ⊎ (gap ≤ length text) → take gap text ≡ text
    by (inl past) = take_all gap text (omega (arith, past))
    by (inr inside) =
        let all : length (take gap text) ≡ gap = omega (arith, length-take gap text, inside) in
        absurd (none (take gap text) (drop gap text) (sym (take-append-drop gap text)) all)

pub place_of-converted : (text : List ℕ) (gap place : ℕ) → IsConverted Chars Bytes text gap place → place ≡ place_of text gap
place_of-converted text gap place is = is.is ∙ ap byte_len (sym (front_is text is.front is.back gap is.cut.cut is.cut.ends))

pub place_of-past : (text : List ℕ) (gap place : ℕ) → HasNone Chars text gap → place ≡ byte_len text → place ≡ place_of text gap
place_of-past text gap place none is = is ∙ ap byte_len (sym (past_end text gap none))
