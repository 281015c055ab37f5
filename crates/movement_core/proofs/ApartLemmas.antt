-- Gaps between two characters that are apart, in a text and in its parts; and the clusters on both sides of one.
use Rattle.std.proofs.Common.{◌≡◌, inr, ⊎_elim, ℕ, suc, ◌+◌, ◌-◌, ◌<◌, ◌≤◌, true, false, List, [], ◌∷◌, ◌++◌, Option, Some, None, length, take, drop, refl, sym, ap, ap₂, subst, ◌∙◌, arith, append_assoc, length-append, length-take-le}
use Rattle.std.specs.Prelude.{if◌then◌else◌, slice_range}
use Rattle.std.specs.Str.{all_scalars}
use Rattle.std.proofs.lemmas.Bool.{and_parts, cases_Bool}
use Rattle.std.proofs.lemmas.List.{drop-append-le, length-drop}
use Rattle.std.proofs.lemmas.List.Folds.{drop_split}
use Rattle.std.proofs.Math.Seq.{drop-append_seam, take-append-add, take-append_seam}
use Rattle.std.proofs.lemmas.List.{take-append-drop}
use Rattle.cluster_core.specs.Boundaries.{clusters_in}
use Rattle.cluster_core.specs.Plain.{PlainStandAlone}
use Rattle.movement_core.specs.Nearby.{EndsPast, IsApartAt, StartsBy, are_apart, first_apart}

-- ---- the first such gap

pub first_apart-here : (last : Option ℕ) (at c : ℕ) (characters all : List ℕ) → all ≡ c ∷ characters → are_apart last c ≡ true → first_apart last at all ≡ Some at
first_apart-here last at c characters all is apart =
    ap (first_apart last at) is ∙ ap (λ b. if b then Some at else first_apart (Some c) (at + 1) characters) apart

pub first_apart-past : (last : Option ℕ) (at c : ℕ) (characters all : List ℕ) → all ≡ c ∷ characters → are_apart last c ≡ false →
    first_apart last at all ≡ first_apart (Some c) (at + 1) characters
first_apart-past last at c characters all is joined =
    ap (first_apart last at) is ∙ ap (λ b. if b then Some at else first_apart (Some c) (at + 1) characters) joined

IsApartAt-pushed : (c : ℕ) (text : List ℕ) (gap next : ℕ) → IsApartAt text gap → next ≡ gap + 1 → IsApartAt (c ∷ text) next
IsApartAt-pushed c text gap next is moved = record {
  front = c ∷ is.front;
  back = is.back;
  last = is.last;
  next = is.next;
  parts = ap (λ cs. c ∷ cs) is.parts;
  long = let long = is.long in omega arith;
  plain = is.plain;
  apart = is.apart;
}

first_apart-behind : (last at found : ℕ) (characters : List ℕ) → first_apart (Some last) at characters ≡ Some found →
    (at ≤ found) × IsApartAt (last ∷ characters) (found + 1 - at)
first_apart-behind last at found [] is = absurd cc
first_apart-behind last at found (c ∷ characters) is =
    ⊎_elim
    (λ apart.
    let both = and_parts _ _ apart in
    let here : at ≡ found = some (sym (first_apart-here (Some last) at c characters (c ∷ characters) refl apart) ∙ is) in
    (omega arith, record { front = []; back = characters; last = last; next = c; parts = refl; long = omega arith; plain = both.0; apart = both.1 }))
    (λ joined.
    let rest = first_apart-behind c (at + 1) found characters (sym (first_apart-past (Some last) at c characters (c ∷ characters) refl joined) ∙ is) in
    let low = rest.0 in
    (omega arith, IsApartAt-pushed last (c ∷ characters) (found + 1 - (at + 1)) (found + 1 - at) rest.1 (omega arith)))
    (cases_Bool (are_apart (Some last) c))
  where
    some : {n m : ℕ} → Some n ≡ Some m → n ≡ m
    some same = cc

-- WHAT IS FOUND IS SUCH A GAP
pub first_apart-is : (text : List ℕ) (found : ℕ) → first_apart None 0 text ≡ Some found → IsApartAt text found
first_apart-is [] found is = absurd cc
first_apart-is (c ∷ text) found is =
    let rest = first_apart-behind c 1 found text is in
    let same : found + 1 - 1 ≡ found = omega arith in subst (IsApartAt (c ∷ text)) same rest.1

-- ---- the same gap of a part, and of a whole

pub IsApartAt-drop : (text : List ℕ) (gap at : ℕ) → IsApartAt text gap → at < gap → IsApartAt (drop at text) (gap - at)
IsApartAt-drop text gap at is less =
    let long = is.long in record {
      front = drop at is.front;
      back = is.back;
      last = is.last;
      next = is.next;
      parts = ap (drop at) is.parts ∙ drop-append-le at is.front (is.last ∷ is.next ∷ is.back) (omega arith);
      long = omega (arith, length-drop at is.front);
      plain = is.plain;
      apart = is.apart;
    }

pub IsApartAt-take : (text : List ℕ) (gap to : ℕ) → IsApartAt text gap → gap < to → IsApartAt (take to text) gap
IsApartAt-take text gap to is less =
    let long = is.long in
    let more = to - (length is.front + 2) in
    let sum : to ≡ length is.front + suc (suc more) = omega arith in record {
      front = is.front;
      back = take more is.back;
      last = is.last;
      next = is.next;
      parts = ap₂ (λ (n : ℕ) (cs : List ℕ). take n cs) sum is.parts ∙ take-append-add is.front (is.last ∷ is.next ∷ is.back) (suc (suc more));
      long = is.long;
      plain = is.plain;
      apart = is.apart;
    }

IsApartAt-append : (text after : List ℕ) (gap : ℕ) → IsApartAt text gap → IsApartAt (text ++ after) gap
IsApartAt-append text after gap is = record {
  front = is.front;
  back = is.back ++ after;
  last = is.last;
  next = is.next;
  parts = ap (λ cs. cs ++ after) is.parts ∙ append_assoc is.front (is.last ∷ is.next ∷ is.back) after;
  long = is.long;
  plain = is.plain;
  apart = is.apart;
}

IsApartAt-behind : (before text : List ℕ) (gap : ℕ) → IsApartAt text gap → IsApartAt (before ++ text) (length before + gap)
IsApartAt-behind before text gap is = record {
  front = before ++ is.front;
  back = is.back;
  last = is.last;
  next = is.next;
  parts = ap (λ cs. before ++ cs) is.parts ∙ sym (append_assoc before is.front (is.last ∷ is.next ∷ is.back));
  long = omega (arith, is.long, length-append before is.front);
  plain = is.plain;
  apart = is.apart;
}

pub IsApartAt-slice : (text : List ℕ) (low high gap : ℕ) → low ≤ high → low ≤ length text → IsApartAt (slice_range text low high) gap → IsApartAt text (low + gap)
IsApartAt-slice text low high gap ordered inside is =
    let before = take low text in
    let long : length before ≡ low = omega (arith, length-take-le low text inside) in
    let whole : before ++ (slice_range text low high ++ drop high text) ≡ text =
    ap (λ cs. before ++ cs) (sym (drop_split text low high ordered)) ∙ take-append-drop low text in
    subst (λ cs. IsApartAt cs (low + gap)) whole
    (subst (λ n. IsApartAt (before ++ (slice_range text low high ++ drop high text)) (n + gap)) long
    (IsApartAt-behind before _ gap (IsApartAt-append (slice_range text low high) (drop high text) gap is)))

-- ---- clusters on both sides

pub apart-parted : PlainStandAlone → (line : List ℕ) (gap : ℕ) → all_scalars line ≡ true → IsApartAt line gap →
    clusters_in line ≡ clusters_in (take gap line) ++ clusters_in (drop gap line)
apart-parted law line gap scalars is =
    let left = is.front ++ is.last ∷ [] in
    let right = is.next ∷ is.back in
    let whole : line ≡ left ++ right = is.parts ∙ sym (append_assoc is.front (is.last ∷ []) right) in
    let long : gap ≡ length left = omega (arith, is.long, length-append is.front (is.last ∷ [])) in
    let front : take gap line ≡ left = ap₂ (λ (n : ℕ) (cs : List ℕ). take n cs) long whole ∙ take-append_seam left right in
    let back : drop gap line ≡ right = ap₂ (λ (n : ℕ) (cs : List ℕ). drop n cs) long whole ∙ drop-append_seam left right in
    ap clusters_in is.parts ∙
    law.parted is.front is.back is.last is.next (subst (λ cs. all_scalars cs ≡ true) is.parts scalars) is.plain is.apart ∙
    sym (ap₂ (λ (xs ys : List ℕ). clusters_in xs ++ clusters_in ys) front back)

pub IsApartAt-inside : (text : List ℕ) (gap : ℕ) → IsApartAt text gap → gap < length text
IsApartAt-inside text gap is = omega (arith, is.long, ap length is.parts, length-append is.front (is.last ∷ is.next ∷ is.back))

-- ---- what is found in a part of a text

module _ (text : List ℕ) (low high found : ℕ) (part : List ℕ) (ordered : low ≤ high) (inside : high ≤ length text)
    (is : part ≡ slice_range text low high) (told : Some found ≡ first_apart None 0 part) where
  part-apart : IsApartAt (slice_range text low high) found
  part-apart = first_apart-is (slice_range text low high) found (sym (told ∙ ap (first_apart None 0) is))

  pub part-found : low + found < high
  part-found =
      let long = length-take-le (high - low) (drop low text) (omega (arith, length-drop low text)) in
      let less = IsApartAt-inside (slice_range text low high) found part-apart in omega arith

  pub found-fits : low + found ≤ length text
  found-fits = let less = part-found in omega arith

  pub StartsBy-found : (start gap : ℕ) → start ≤ low → high ≤ gap → StartsBy text start gap (low + found)
  StartsBy-found start gap from to =
      let less = part-found in record {
        low = omega arith;
        high = omega arith;
        apart = inr (omega arith, IsApartAt-slice text low high found ordered (omega arith) part-apart);
      }

  pub EndsPast-found : (gap end : ℕ) → gap ≤ low → high ≤ end → EndsPast text gap end (low + found)
  EndsPast-found gap end from to =
      let less = part-found in
      let some = part-apart.long in record {
        low = omega arith;
        high = omega arith;
        apart = inr (omega arith, IsApartAt-slice text low high found ordered (omega arith) part-apart);
      }
