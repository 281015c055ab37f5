-- A walk along a text knows at its end whether the text ends in LF.
use Rattle.std.proofs.Common.{◌≡◌, ℕ, Bool, false, List, [], ◌∷◌, ◌++◌, length, refl, ap, ◌∙◌}
use Rattle.std.specs.Prelude.{◌==◌}
use Rattle.std.specs.Char.{encode_utf8}
use Rattle.std.specs.Str.{chars, IsUtf8}
use Rattle.std.proofs.lemmas.Str.{chars_past_char, chars-nil}
use Rattle.std.proofs.lemmas.List.{nil_from_length}
use Rattle.line_render.specs.Rendered.{ends_in_feed}

-- whether a text ends in LF of which the last character so far was one or not
abbrev pub feed_after : Bool → List ℕ → Bool
feed_after feed [] = feed
feed_after feed (c ∷ text) = ends_in_feed (c ∷ text)

pub feed_after-start : (text : List ℕ) → ends_in_feed text ≡ feed_after false text
feed_after-start [] = refl
feed_after-start (c ∷ text) = refl

pub feed_after-step : (feed : Bool) (bs rest : List ℕ) (c : ℕ) → IsUtf8 bs → bs ≡ encode_utf8 c ++ rest →
    feed_after feed (chars bs) ≡ feed_after (c == 10) (chars rest)
feed_after-step feed bs rest c is_text cut = ap (feed_after feed) (chars_past_char bs rest c is_text cut) ∙ next (chars rest)
  where
    next : (text : List ℕ) → ends_in_feed (c ∷ text) ≡ feed_after (c == 10) text
    next [] = refl
    next (d ∷ text) = refl

pub feed_after-end : (feed : Bool) (bs : List ℕ) → length bs ≡ 0 → feed_after feed (chars bs) ≡ feed
feed_after-end feed bs none = ap (feed_after feed) (ap chars (nil_from_length bs none) ∙ chars-nil)
