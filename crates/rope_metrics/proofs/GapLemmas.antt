-- The greatest gap within an offset, in one leaf and in the whole text.
use Rattle.std.proofs.Common.{◌≡◌, ℕ, ◌+◌, ◌-◌, true, take, drop, ◌^◌, ◌<◌, ◌≤◌, ◌⊎◌, inl, inr, IsTrue, List, [], ◌∷◌, ◌++◌, length, append_assoc, refl, sym, ap, ◌∙◌, arith, length-append}
use Rattle.std.proofs.lemmas.List.{append-nil, length-take-le, take-append-drop}
use Rattle.rope_metrics.specs.declared.measure.Measure.{Measure}
use Rattle.rope_metrics.specs.declared.measure.Measure.TheVariants.{Chars}
use Rattle.rope_metrics.specs.Measure.{is_plain, long, long_by, IsGapWithin}
use Rattle.rope_metrics.specs.Inner.{IsChunkAt, IsGapWithinIn}
use Rattle.rope_metrics.proofs.OffsetLemmas.{long-append, long_by-fits, long_by-together, two_cuts}
use Rattle.rope_metrics.proofs.PlainLemmas.{plain-long}
use Rattle.rope_node.specs.declared.lengths.Lengths.{Lengths}
use Rattle.rope_node.specs.Lengths.{is_countable, lengths_of, together}
use Rattle.plain_text.specs.Text.{byte_len}

-- ---- in a leaf

-- the characters of a leaf that were read, and the offset and the gap behind them
pub record IsGapReading (m : Measure) (before : Lengths) (own : List ℕ) (at here gap : ℕ) (rest : List ℕ) : Type 0 where
  pub seen : List ℕ
  pub cut : own ≡ seen ++ rest
  pub here_is : here ≡ long_by m before + long m seen
  pub gap_is : gap ≡ before.chars + length seen
  pub within : here ≤ at

pub gap-start : (m : Measure) (before : Lengths) (own : List ℕ) (at here gap : ℕ) → here ≡ long_by m before → gap ≡ before.chars → here ≤ at →
    IsGapReading m before own at here gap own
gap-start m before own at here gap first second within = record {
  seen = [];
  cut = refl;
  here_is = omega (arith, first, long-append m [] []);
  gap_is = omega (arith, second);
  within = within;
}

module _ (m : Measure) (before : Lengths) (own : List ℕ) (at here gap c : ℕ) (rest : List ℕ) (reading : IsGapReading m before own at here gap (c ∷ rest)) where
  one_more : own ≡ (reading.seen ++ (c ∷ [])) ++ rest
  one_more = reading.cut ∙ sym (append_assoc reading.seen (c ∷ []) rest)

  more_here : here + long m (c ∷ []) ≡ long_by m before + long m (reading.seen ++ (c ∷ []))
  more_here = omega (arith, reading.here_is, long-append m reading.seen (c ∷ []))

  pub gap-next : here + long m (c ∷ []) ≤ at → IsGapReading m before own at (here + long m (c ∷ [])) (gap + 1) rest
  gap-next within = record {
    seen = reading.seen ++ (c ∷ []);
    cut = one_more;
    here_is = more_here;
    gap_is = omega (arith, reading.gap_is, length-append reading.seen (c ∷ []));
    within = within;
  }

  pub gap-found : at < here + long m (c ∷ []) → IsGapWithinIn m before own at gap
  gap-found past = record {
    seen = reading.seen;
    next = c;
    rest = rest;
    cut = reading.cut;
    is = reading.gap_is;
    within = omega (arith, reading.within, reading.here_is);
    past = omega (arith, past, more_here);
  }

  pub gap-here_fits : IsTrue (is_countable (together before (lengths_of own))) → here + long m (c ∷ []) < 2 ^ 64
  gap-here_fits fit =
      omega (
        arith,
        more_here,
        ap (long m) one_more,
        long-append m (reading.seen ++ (c ∷ [])) rest,
        long_by-together m before (lengths_of own),
        long_by-fits m (together before (lengths_of own)) fit,
      )

  pub gap-fits : IsTrue (is_countable (together before (lengths_of own))) → gap + 1 < 2 ^ 64
  gap-fits fit =
      omega (
        arith,
        reading.gap_is,
        ap length reading.cut,
        length-append reading.seen (c ∷ rest),
        long_by-together Chars before (lengths_of own),
        long_by-fits Chars (together before (lengths_of own)) fit,
      )

-- the measure passes the offset before the leaf's end
pub gap-ended : (m : Measure) (before : Lengths) (own : List ℕ) (at here gap : ℕ) (rest : List ℕ) → IsGapReading m before own at here gap rest → rest ≡ [] →
    at < long_by m (together before (lengths_of own)) → ⊥
gap-ended m before own at here gap rest reading none past =
    let all : own ≡ reading.seen = reading.cut ∙ ap (λ xs. reading.seen ++ xs) none ∙ append-nil reading.seen in
    omega (arith, reading.within, reading.here_is, past, ap (long m) all, long_by-together m before (lengths_of own))

-- ---- in a leaf whose characters take one byte each

module _ (own : List ℕ) (plain : byte_len own ≡ length own) (m : Measure) (is : is_plain m ≡ true) (before : Lengths) (at : ℕ)
    (reached : long_by m before ≤ at) (past : at < long_by m (together before (lengths_of own))) where
  abbrev ahead : ℕ
  ahead = at - long_by m before

  within-own : ahead < length own
  within-own = omega (arith, past, reached, long_by-together m before (lengths_of own), plain-long own plain m is own [] (sym (append-nil own)))

  seen-length : length (take ahead own) ≡ ahead
  seen-length = length-take-le ahead own (omega (arith, within-own))

  parts : own ≡ take ahead own ++ drop ahead own
  parts = sym (take-append-drop ahead own)

  rest-length : length (drop ahead own) ≡ length own - ahead
  rest-length = omega (arith, ap length parts, length-append (take ahead own) (drop ahead own), seen-length)

  cut_by : (rest : List ℕ) → own ≡ take ahead own ++ rest → 0 < length rest → IsGapWithinIn m before own at (before.chars + ahead)
  cut_by [] cut some = absurd (omega (arith, some))
  cut_by (c ∷ rest) cut some =
      let longer : own ≡ (take ahead own ++ (c ∷ [])) ++ rest = cut ∙ sym (append_assoc (take ahead own) (c ∷ []) rest) in
      record {
        seen = take ahead own;
        next = c;
        rest = rest;
        cut = cut;
        is = omega (arith, seen-length);
        within = omega (arith, reached, seen-length, plain-long own plain m is (take ahead own) (c ∷ rest) cut);
        past =
            omega (arith, reached, seen-length, length-append (take ahead own) (c ∷ []), plain-long own plain m is (take ahead own ++ (c ∷ [])) rest longer);
      }

  pub plain-gap : IsGapWithinIn m before own at (before.chars + (at - long_by m before))
  plain-gap = cut_by (drop ahead own) parts (omega (arith, rest-length, within-own))

  pub plain-gap_fits : IsTrue (is_countable (together before (lengths_of own))) → before.chars + (at - long_by m before) < 2 ^ 64
  plain-gap_fits fit =
      omega (arith, within-own, long_by-together Chars before (lengths_of own), long_by-fits Chars (together before (lengths_of own)) fit)

-- ---- the whole text

-- a text that is no longer than the offset
pub gap-all : (m : Measure) (text : List ℕ) (at : ℕ) → long m text ≤ at → IsGapWithin m text at (long Chars text)
gap-all m text at short = record {
  front = text;
  back = [];
  cut = sym (append-nil text);
  is = refl;
  within = short;
  greatest = λ other rest cut within. omega (arith, ap length cut, length-append other rest);
}

module _ (m : Measure) (text : List ℕ) (at : ℕ) (own : List ℕ) (before : Lengths) (found : IsChunkAt m text (at + 1) own before) (gap : ℕ)
    (inner : IsGapWithinIn m before own at gap) where
  abbrev upto : List ℕ
  upto = found.front ++ inner.seen

  abbrev behind : List ℕ
  behind = inner.rest ++ found.back

  cut-all : text ≡ upto ++ inner.next ∷ behind
  cut-all = found.cut ∙ ap (λ xs. found.front ++ (xs ++ found.back)) inner.cut ∙ regrouped found.front inner.seen inner.next inner.rest found.back
    where
      regrouped : (a b : List ℕ) (c : ℕ) (d e : List ℕ) → a ++ ((b ++ c ∷ d) ++ e) ≡ (a ++ b) ++ c ∷ (d ++ e)
      regrouped a b c d e = ap (λ xs. a ++ xs) (append_assoc b (c ∷ d) e) ∙ sym (append_assoc a b (c ∷ (d ++ e)))

  cut-next : text ≡ (upto ++ inner.next ∷ []) ++ behind
  cut-next = cut-all ∙ sym (append_assoc upto (inner.next ∷ []) behind)

  before_is : (k : Measure) → long_by k before ≡ long k found.front
  before_is k = ap (long_by k) found.total

  next-long : at < long m (upto ++ inner.next ∷ [])
  next-long =
      omega (
        arith,
        inner.past,
        before_is m,
        ap (long m) (append_assoc found.front inner.seen (inner.next ∷ [])),
        long-append m found.front (inner.seen ++ inner.next ∷ []),
      )

  shorter : (other rest : List ℕ) → long m other ≤ at →
      ((more : List ℕ) × (other ≡ (upto ++ inner.next ∷ []) ++ more) × (behind ≡ more ++ rest)) ⊎ ((more : List ℕ) × (upto ++ inner.next ∷ [] ≡ other ++ more)) →
      length other ≤ length upto
  shorter other rest within (inl (more, is, after)) =
      absurd (omega (arith, within, next-long, ap (long m) is, long-append m (upto ++ inner.next ∷ []) more))
  shorter other rest within (inr ([], is)) = absurd (omega (arith, within, next-long, ap (long m) (is ∙ append-nil other)))
  shorter other rest within (inr (d ∷ more, is)) =
      omega (arith, ap length is, length-append upto (inner.next ∷ []), length-append other (d ∷ more))

  pub gap-within : IsGapWithin m text at gap
  gap-within =
      let gap_is : gap ≡ length upto = omega (arith, inner.is, before_is Chars, length-append found.front inner.seen) in
      record {
        front = upto;
        back = inner.next ∷ behind;
        cut = cut-all;
        is = gap_is;
        within = omega (arith, inner.within, before_is m, long-append m found.front inner.seen);
        greatest = λ other rest cut within.
            omega (arith, gap_is, shorter other rest within (two_cuts (upto ++ inner.next ∷ []) behind other rest (sym cut-next ∙ cut)));
      }
