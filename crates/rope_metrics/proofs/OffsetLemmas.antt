-- Offsets of a text in a measure, by its leaves and in one of them.
use Rattle.std.proofs.Common.{◌≡◌, ℕ, ◌+◌, ◌^◌, ◌<◌, ◌≤◌, ◌⊎◌, inl, inr, IsTrue, List, [], ◌∷◌, ◌++◌, length, append_assoc, refl, sym, ap, subst, ◌∙◌, arith, length-append}
use Rattle.std.specs.List.{flat_map}
use Rattle.std.specs.Prelude.{IfNone, IfSome, None, Option, Some}
use Rattle.std.proofs.lemmas.Bool.{ltb-true}
use Rattle.std.proofs.lemmas.Grind.{flat_map-append}
use Rattle.std.proofs.lemmas.List.{append-nil}
use Rattle.rope_metrics.specs.declared.measure.Measure.{Measure}
use Rattle.rope_metrics.specs.declared.measure.Measure.TheVariants.{Chars, Bytes, Utf16, Lines}
use Rattle.rope_metrics.specs.Measure.{long, long_by, HasNone, IsConverted}
use Rattle.rope_metrics.specs.Inner.{HasNoneIn, IsChunkAt, IsConvertedIn}
use Rattle.rope_node.specs.declared.lengths.Lengths.{Lengths}
use Rattle.rope_node.specs.Lengths.{is_countable, lengths_of, lengths_sum, no_lengths, together}
use Rattle.rope_node.specs.Node.{text_of}
use Rattle.shared_tree.specs.Shape.{Shape}

pub long_by-together : (m : Measure) (a b : Lengths) → long_by m (together a b) ≡ long_by m a + long_by m b
long_by-together Chars a b = refl
long_by-together Bytes a b = refl
long_by-together Utf16 a b = refl
long_by-together Lines a b = refl

pub long_by-fits : (m : Measure) (a : Lengths) → IsTrue (is_countable a) → long_by m a < 2 ^ 64
long_by-fits Chars a fit = omega (arith, ltb-true _ (2 ^ 64) fit)
long_by-fits Bytes a fit = omega (arith, ltb-true _ (2 ^ 64) fit)
long_by-fits Utf16 a fit = omega (arith, ltb-true _ (2 ^ 64) fit)
long_by-fits Lines a fit = omega (arith, ltb-true _ (2 ^ 64) fit)

-- the length of two texts side by side
pub long-append : (m : Measure) (xs ys : List ℕ) → long m (xs ++ ys) ≡ long m xs + long m ys
long-append m xs ys = ap (long_by m) (lengths_sum.joined xs ys) ∙ long_by-together m (lengths_of xs) (lengths_of ys)

-- ---- two cuts of one list

pub prefix : (front : List ℕ) (c : ℕ) (shorter longer : List ℕ) (d : ℕ) → front ++ (c ∷ []) ≡ shorter ++ d ∷ longer → (more : List ℕ) × (front ≡ shorter ++ more)
prefix [] c [] longer d same = ([], refl)
prefix [] c (x ∷ shorter) longer d same = absurd (omega (arith, ap length same, length-append shorter (d ∷ longer)))
prefix (y ∷ front) c [] longer d same = (y ∷ front, refl)
prefix (y ∷ front) c (x ∷ shorter) longer d same =
    let first : y ≡ x = cc in
    let rest : front ++ (c ∷ []) ≡ shorter ++ d ∷ longer = cc in
    let below = prefix front c shorter longer d rest in
    (below.0, rw first (ap (λ xs. x ∷ xs) below.1))

pub two_cuts : (a b f g : List ℕ) → a ++ b ≡ f ++ g → ((more : List ℕ) × (f ≡ a ++ more) × (b ≡ more ++ g)) ⊎ ((more : List ℕ) × (a ≡ f ++ more))
two_cuts [] b f g same = inl (f, refl, same)
two_cuts (x ∷ a) b [] g same = inr (x ∷ a, refl)
two_cuts (x ∷ a) b (y ∷ f) g same =
    let first : x ≡ y = cc in
    let rest : a ++ b ≡ f ++ g = cc in
    longer first (two_cuts a b f g rest)
  where
    longer : x ≡ y → ((more : List ℕ) × (f ≡ a ++ more) × (b ≡ more ++ g)) ⊎ ((more : List ℕ) × (a ≡ f ++ more)) → ((more : List ℕ) × (y ∷ f ≡ x ∷ (a ++ more)) × (b ≡ more ++ g)) ⊎ ((more : List ℕ) × (x ∷ a ≡ y ∷ (f ++ more)))
    longer first (inl (more, is, rest)) = inl (more, rw first (ap (λ xs. y ∷ xs) is), rest)
    longer first (inr (more, is)) = inr (more, rw first (ap (λ xs. y ∷ xs) is))

-- ---- the way down

-- the leaves of a node on the way, with the lengths of all before them
pub record IsOnWay (m : Measure) (leaves : List (List ℕ)) (at : ℕ) (part : List (List ℕ)) (before : Lengths) : Type 0 where
  pub front : List (List ℕ)
  pub back : List (List ℕ)
  pub cut : leaves ≡ front ++ (part ++ back)
  pub total : before ≡ lengths_of (flat_map (λ leaf. leaf) front)
  pub passed : long_by m before < at
  pub reached : at ≤ long_by m (together before (lengths_of (flat_map (λ leaf. leaf) part)))
  pub fits : IsTrue (is_countable (together before (lengths_of (flat_map (λ leaf. leaf) part))))

pub way_top : (m : Measure) (leaves : List (List ℕ)) (at : ℕ) (part front back : List (List ℕ)) (before : Lengths) → leaves ≡ front ++ (part ++ back) → before ≡ together no_lengths (lengths_of (flat_map (λ leaf. leaf) front)) → long_by m before < at → at ≤ long_by m (together before (lengths_of (flat_map (λ leaf. leaf) part))) → IsTrue (is_countable (together before (lengths_of (flat_map (λ leaf. leaf) part)))) → IsOnWay m leaves at part before
way_top m leaves at part front back before cut total passed reached fits = record {
  front = front;
  back = back;
  cut = cut;
  total = total ∙ sym (lengths_sum.joined [] (flat_map (λ leaf. leaf) front));
  passed = passed;
  reached = reached;
  fits = fits;
}

apart : (front one two three back : List (List ℕ)) → front ++ ((one ++ (two ++ three)) ++ back) ≡ (front ++ one) ++ (two ++ (three ++ back))
apart front one two three back = simp append_assoc

pub way_below : (m : Measure) (leaves : List (List ℕ)) (at : ℕ) (part inner front back : List (List ℕ)) (before next : Lengths) → IsOnWay m leaves at part before → part ≡ front ++ (inner ++ back) → next ≡ together before (lengths_of (flat_map (λ leaf. leaf) front)) → long_by m next < at → at ≤ long_by m (together next (lengths_of (flat_map (λ leaf. leaf) inner))) → IsTrue (is_countable (together next (lengths_of (flat_map (λ leaf. leaf) inner)))) → IsOnWay m leaves at inner next
way_below m leaves at part inner front back before next way cut total passed reached fits = record {
  front = way.front ++ front;
  back = back ++ way.back;
  cut = way.cut ∙ ap (λ xs. way.front ++ (xs ++ way.back)) cut ∙ apart way.front front inner back way.back;
  total =
      total ∙ ap (λ l. together l (lengths_of (flat_map (λ leaf. leaf) front))) way.total ∙ sym (lengths_sum.joined (flat_map (λ leaf. leaf) way.front) (flat_map (λ leaf. leaf) front)) ∙
      ap lengths_of (sym (flat_map-append (λ (leaf : List ℕ). leaf) way.front front));
  passed = passed;
  reached = reached;
  fits = fits;
}

-- at a leaf the way ends
pub way_end : (m : Measure) (node : Shape (List ℕ)) (at : ℕ) (part : List (List ℕ)) (own : List ℕ) (before : Lengths) → IsOnWay m node.leaves at part before → part ≡ own ∷ [] → IsChunkAt m (text_of node) at own before
way_end m node at part own before way is =
    let alone : flat_map (λ leaf. leaf) part ≡ own = ap (flat_map (λ (leaf : List ℕ). leaf)) is ∙ append-nil own in
    record {
      front = flat_map (λ leaf. leaf) way.front;
      back = flat_map (λ leaf. leaf) way.back;
      cut =
          ap (flat_map (λ (leaf : List ℕ). leaf)) (way.cut ∙ ap (λ xs. way.front ++ (xs ++ way.back)) is) ∙ flat_map-append (λ (leaf : List ℕ). leaf) way.front (own ∷ way.back);
      total = way.total;
      passed = way.passed;
      reached = subst (λ xs. at ≤ long_by m (together before (lengths_of xs))) alone way.reached;
      fits = subst (λ xs. IsTrue (is_countable (together before (lengths_of xs)))) alone way.fits;
    }

-- the leaf that has an offset has each one that it reaches, in whatever measure
pub chunk-reaches : (m n : Measure) (text : List ℕ) (at other : ℕ) (own : List ℕ) (before : Lengths) → IsChunkAt m text at own before →
    long_by n before < other → other ≤ long_by n (together before (lengths_of own)) → IsChunkAt n text other own before
chunk-reaches m n text at other own before found passed reached = record {
  front = found.front;
  back = found.back;
  cut = found.cut;
  total = found.total;
  passed = passed;
  reached = reached;
  fits = found.fits;
}

-- ---- in a leaf

-- an offset in a leaf is at most that of its end
pub converted-reaches : (from to : Measure) (before : Lengths) (own : List ℕ) (at offset : ℕ) → IsConvertedIn from to before own at offset →
    offset ≤ long_by to (together before (lengths_of own))
converted-reaches from to before own at offset is =
    omega (arith, is.is, ap (long to) is.cut, long-append to is.seen is.rest, long_by-together to before (lengths_of own))

-- the characters of a leaf that were read, and the offsets behind them
pub record IsReading (from to : Measure) (before : Lengths) (own : List ℕ) (at here there : ℕ) (rest : List ℕ) : Type 0 where
  pub seen : List ℕ
  pub cut : own ≡ seen ++ rest
  pub here_is : here ≡ long_by from before + long from seen
  pub there_is : there ≡ long_by to before + long to seen
  pub below : here < at

pub reading-start : (from to : Measure) (before : Lengths) (own : List ℕ) (at here there : ℕ) (rest : List ℕ) → own ≡ rest → here ≡ long_by from before → there ≡ long_by to before → here < at → IsReading from to before own at here there rest
reading-start from to before own at here there rest whole first second below =
    let none_from : long from [] ≡ 0 = none from in
    let none_to : long to [] ≡ 0 = none to in
    record { seen = []; cut = whole; here_is = omega arith; there_is = omega arith; below = below }
  where
    none : (m : Measure) → long m [] ≡ 0
    none Chars = refl
    none Bytes = refl
    none Utf16 = refl
    none Lines = refl

module _ (from to : Measure) (before : Lengths) (own : List ℕ) (at here there c : ℕ) (rest : List ℕ) (reading : IsReading from to before own at here there (c ∷ rest)) where
  one_more : own ≡ (reading.seen ++ (c ∷ [])) ++ rest
  one_more = reading.cut ∙ sym (append_assoc reading.seen (c ∷ []) rest)

  more_from : here + long from (c ∷ []) ≡ long_by from before + long from (reading.seen ++ (c ∷ []))
  more_from = omega (arith, reading.here_is, long-append from reading.seen (c ∷ []))

  more_to : there + long to (c ∷ []) ≡ long_by to before + long to (reading.seen ++ (c ∷ []))
  more_to = omega (arith, reading.there_is, long-append to reading.seen (c ∷ []))

  pub reading-next : here + long from (c ∷ []) < at → IsReading from to before own at (here + long from (c ∷ [])) (there + long to (c ∷ [])) rest
  reading-next below = record { seen = reading.seen ++ (c ∷ []); cut = one_more; here_is = more_from; there_is = more_to; below = below }

  pub reading-from_fits : IsTrue (is_countable (together before (lengths_of own))) → here + long from (c ∷ []) < 2 ^ 64
  reading-from_fits fit =
      omega (arith, more_from, ap (long from) one_more, long-append from (reading.seen ++ (c ∷ [])) rest, long_by-together from before (lengths_of own), long_by-fits from (together before (lengths_of own)) fit)

  pub reading-to_fits : IsTrue (is_countable (together before (lengths_of own))) → there + long to (c ∷ []) < 2 ^ 64
  reading-to_fits fit =
      omega (arith, more_to, ap (long to) one_more, long-append to (reading.seen ++ (c ∷ [])) rest, long_by-together to before (lengths_of own), long_by-fits to (together before (lengths_of own)) fit)

  -- the offset is reached behind this character
  pub reading-found : here + long from (c ∷ []) ≡ at → IsConvertedIn from to before own at (there + long to (c ∷ []))
  reading-found hit = record {
    seen = reading.seen ++ (c ∷ []);
    rest = rest;
    cut = one_more;
    ends = sym more_from ∙ hit;
    first = λ shorter longer d is.
        let below = prefix reading.seen c shorter longer d is in
        omega (arith, reading.below, reading.here_is, ap (long from) below.1, long-append from shorter below.0);
    is = more_to;
  }

  -- the offset is passed within this character
  pub reading-missed : at < here + long from (c ∷ []) → HasNoneIn from before own at
  reading-missed past front back cut hit = refused (two_cuts (reading.seen ++ (c ∷ [])) rest front back (sym one_more ∙ cut))
    where
      refused : ((more : List ℕ) × (front ≡ (reading.seen ++ (c ∷ [])) ++ more) × (rest ≡ more ++ back)) ⊎ ((more : List ℕ) × (reading.seen ++ (c ∷ []) ≡ front ++ more)) → ⊥
      refused (inl (more, is, after)) = omega (arith, hit, past, more_from, ap (long from) is, long-append from (reading.seen ++ (c ∷ [])) more)
      refused (inr ([], is)) = omega (arith, hit, past, more_from, ap (long from) (is ∙ append-nil front))
      refused (inr (d ∷ more, is)) =
          let below = prefix reading.seen c front more d is in
          omega (arith, hit, reading.below, reading.here_is, ap (long from) below.1, long-append from front below.0)

-- at the leaf's end the offset would be reached
pub reading-ended : (from to : Measure) (before : Lengths) (own : List ℕ) (at here there : ℕ) (rest : List ℕ) → IsReading from to before own at here there rest → rest ≡ [] → at ≤ long_by from (together before (lengths_of own)) → HasNoneIn from before own at
reading-ended from to before own at here there rest reading none reached =
    let all : own ≡ reading.seen = reading.cut ∙ ap (λ xs. reading.seen ++ xs) none ∙ append-nil reading.seen in
    absurd (omega (arith, reading.below, reading.here_is, ap (long from) all, long_by-together from before (lengths_of own)))

-- ---- the whole text

-- what holds anyway holds where there is no answer
pub none-anyway : {A : Type 0} (answer : Option A) (P : Type 0) → P → IfNone answer P
none-anyway None P holds = holds
none-anyway (Some found) P holds = tt

pub converted-start : (from to : Measure) (text : List ℕ) (at : ℕ) → at ≡ 0 → IsConverted from to text at 0
converted-start from to text at zero_at = record { front = []; back = text; cut = record { cut = refl; ends = none from ∙ sym zero_at; first = λ shorter longer c is. absurd (omega (arith, ap length is, length-append shorter (c ∷ longer))) }; is = sym (none to) }
  where
    none : (m : Measure) → long m [] ≡ 0
    none Chars = refl
    none Bytes = refl
    none Utf16 = refl
    none Lines = refl

pub none-past : (m : Measure) (text : List ℕ) (at : ℕ) → long m text < at → HasNone m text at
none-past m text at past front back cut hit = omega (arith, hit, past, ap (long m) cut, long-append m front back)

module _ (from : Measure) (text : List ℕ) (at : ℕ) (own : List ℕ) (before : Lengths) (found : IsChunkAt from text at own before) where
  before_from : (m : Measure) → long_by m before ≡ long m found.front
  before_from m = ap (long_by m) found.total

  pub converted-within : (to : Measure) (offset : ℕ) → IsConvertedIn from to before own at offset → IsConverted from to text at offset
  converted-within to offset inner = record {
    front = found.front ++ inner.seen;
    back = inner.rest ++ found.back;
    cut = record {
      cut = found.cut ∙ ap (λ xs. found.front ++ (xs ++ found.back)) inner.cut ∙ regrouped found.front inner.seen inner.rest found.back;
      ends = omega (arith, inner.ends, before_from from, long-append from found.front inner.seen);
      first = λ shorter longer c is. below shorter longer c (two_cuts found.front inner.seen shorter (c ∷ longer) is);
    };
    is = omega (arith, inner.is, before_from to, long-append to found.front inner.seen);
  }
    where
      regrouped : (a b c d : List ℕ) → a ++ ((b ++ c) ++ d) ≡ (a ++ b) ++ (c ++ d)
      regrouped a b c d = simp append_assoc

      below : (shorter longer : List ℕ) (c : ℕ) → ((more : List ℕ) × (shorter ≡ found.front ++ more) × (inner.seen ≡ more ++ c ∷ longer)) ⊎ ((more : List ℕ) × (found.front ≡ shorter ++ more)) → long from shorter < at
      below shorter longer c (inl (more, is, rest)) = omega (arith, inner.first more longer c rest, before_from from, ap (long from) is, long-append from found.front more)
      below shorter longer c (inr (more, is)) = omega (arith, found.passed, before_from from, ap (long from) is, long-append from shorter more)

  pub none-within : HasNoneIn from before own at → HasNone from text at
  none-within none front back cut hit = outer (two_cuts found.front (own ++ found.back) front back (sym found.cut ∙ cut))
    where
      inside : (more : List ℕ) → front ≡ found.front ++ more → ((extra : List ℕ) × (more ≡ own ++ extra) × (found.back ≡ extra ++ back)) ⊎ ((extra : List ℕ) × (own ≡ more ++ extra)) → ⊥
      inside more is (inl (extra, longer, rest)) =
          none own [] (sym (append-nil own))
          (omega (arith, hit, found.reached, long_by-together from before (lengths_of own), before_from from, ap (long from) is, long-append from found.front more, ap (long from) longer, long-append from own extra))
      inside more is (inr (extra, shorter)) = none more extra shorter (omega (arith, hit, before_from from, ap (long from) is, long-append from found.front more))

      outer : ((more : List ℕ) × (front ≡ found.front ++ more) × (own ++ found.back ≡ more ++ back)) ⊎ ((more : List ℕ) × (found.front ≡ front ++ more)) → ⊥
      outer (inl (more, is, rest)) = inside more is (two_cuts own found.back more back rest)
      outer (inr (more, is)) = omega (arith, hit, found.passed, before_from from, ap (long from) is, long-append from front more)

  pub some-answer : (to : Measure) (answer : Option ℕ) → IfSome answer (λ offset. IsConvertedIn from to before own at offset) → IfSome answer (λ offset. IsConverted from to text at offset)
  some-answer to None inner = tt
  some-answer to (Some offset) inner = converted-within to offset inner

  pub none-answer : (answer : Option ℕ) → IfNone answer (HasNoneIn from before own at) → IfNone answer (HasNone from text at)
  none-answer None none = none-within none
  none-answer (Some offset) none = tt
