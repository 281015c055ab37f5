-- What two rising lists of numbers have in common at their beginnings and at their ends.
use Rattle.std.proofs.Common.{◌≡◌, ◌≢◌, ℕ, ◌+◌, ◌<◌, Bool, true, false, cond, List, [], ◌∷◌, ◌++◌, length, reverse, refl, ap, ap₂, sym, subst, ◌∙◌, arith}
use Rattle.std.specs.Prelude.{◌==◌}
use Rattle.std.proofs.lemmas.Bool.{eqb-true, ne_eqb}
use Rattle.std.proofs.lemmas.List.{length-reverse, reverse-append, reverse-reverse}
use Rattle.plain_screen.specs.Touched.{common_len}
use Rattle.line_stays.specs.Parts.{HaveParts, RiseAbove}

-- ---- the beginning

-- two lists are none but at their beginnings the same: one is empty, or their first numbers are others
abbrev BeginApart : List ℕ → List ℕ → Type 0
BeginApart [] ys = Unit {0}
BeginApart (x ∷ xs) [] = Unit {0}
BeginApart (x ∷ xs) (y ∷ ys) = (x == y) ≡ false

record HaveFront (xs ys : List ℕ) : Type 0 where
  pub front : List ℕ
  pub one : List ℕ
  pub other : List ℕ
  pub before : xs ≡ front ++ one
  pub after : ys ≡ front ++ other
  pub long : length front ≡ common_len xs ys
  pub apart : BeginApart one other

have-front : (xs ys : List ℕ) → HaveFront xs ys
have-front [] ys = record { front = []; one = []; other = ys; before = refl; after = refl; long = refl; apart = tt }
have-front (x ∷ xs) [] = record { front = []; one = x ∷ xs; other = []; before = refl; after = refl; long = refl; apart = tt }
have-front (x ∷ xs) (y ∷ ys) = by (have-front xs ys) (x == y) refl
  where
    by : HaveFront xs ys → (b : Bool) → (x == y) ≡ b → HaveFront (x ∷ xs) (y ∷ ys)
    by rest true is = record {
      front = x ∷ rest.front;
      one = rest.one;
      other = rest.other;
      before = ap (λ zs. x ∷ zs) rest.before;
      after = ap₂ (λ z zs. z ∷ zs) (sym (eqb-true x y is)) rest.after;
      long =
          (let more : length (x ∷ rest.front) ≡ 1 + common_len xs ys = omega (arith, rest.long) in more) ∙
          sym (ap (λ b. cond b (1 + common_len xs ys) 0) is);
      apart = rest.apart;
    }
    by rest false is = record {
      front = [];
      one = x ∷ xs;
      other = y ∷ ys;
      before = refl;
      after = refl;
      long = sym (ap (λ b. cond b (1 + common_len xs ys) 0) is);
      apart = is;
    }

-- ---- numbers that are no others

-- a number is none of these
abbrev IsNone : ℕ → List ℕ → Type 0
IsNone n [] = Unit {0}
IsNone n (m ∷ ms) = ((n == m) ≡ false) × ((m == n) ≡ false) × IsNone n ms

abbrev AreNone : List ℕ → List ℕ → Type 0
AreNone [] ms = Unit {0}
AreNone (n ∷ ns) ms = IsNone n ms × AreNone ns ms

IsNone-append : (n : ℕ) (xs ys : List ℕ) → IsNone n xs → IsNone n ys → IsNone n (xs ++ ys)
IsNone-append n [] ys one other = other
IsNone-append n (x ∷ xs) ys one other = (one.0, one.1, IsNone-append n xs ys one.2 other)

IsNone-reverse : (n : ℕ) (xs : List ℕ) → IsNone n xs → IsNone n (reverse xs)
IsNone-reverse n [] none = tt
IsNone-reverse n (x ∷ xs) none =
    subst (IsNone n) (sym (reverse-append (x ∷ []) xs)) (IsNone-append n (reverse xs) (x ∷ []) (IsNone-reverse n xs none.2) (none.0, none.1, tt))

AreNone-append : (xs ys ms : List ℕ) → AreNone xs ms → AreNone ys ms → AreNone (xs ++ ys) ms
AreNone-append [] ys ms one other = other
AreNone-append (x ∷ xs) ys ms one other = (one.0, AreNone-append xs ys ms one.1 other)

AreNone-reverse : (xs ms : List ℕ) → AreNone xs ms → AreNone (reverse xs) (reverse ms)
AreNone-reverse [] ms none = tt
AreNone-reverse (x ∷ xs) ms none =
    subst (λ zs. AreNone zs (reverse ms)) (sym (reverse-append (x ∷ []) xs))
    (AreNone-append (reverse xs) (x ∷ []) (reverse ms) (AreNone-reverse xs ms none.1) (IsNone-reverse x ms none.0, tt))

IsNone-above : (n low : ℕ) (xs : List ℕ) → n < low → RiseAbove low xs → IsNone n xs
IsNone-above n low [] less rise = tt
IsNone-above n low (x ∷ xs) less rise = (
  ne_eqb n x (λ is. omega (arith, is, less, rise.0)),
  ne_eqb x n (λ is. omega (arith, is, less, rise.0)),
  IsNone-above n (x + 1) xs (omega (arith, less, rise.0)) rise.1,
)

-- where numbers rise, those at the front are none of the others
AreNone-front : (low : ℕ) (front xs : List ℕ) → RiseAbove low (front ++ xs) → AreNone front xs
AreNone-front low [] xs rise = tt
AreNone-front low (n ∷ front) xs rise = (above n (n + 1) front xs (omega arith) rise.1, AreNone-front (n + 1) front xs rise.1)
  where
    above : (n low : ℕ) (front xs : List ℕ) → n < low → RiseAbove low (front ++ xs) → IsNone n xs
    above n low [] xs less rise = IsNone-above n low xs less rise
    above n low (m ∷ front) xs less rise = above n (m + 1) front xs (omega (arith, less, rise.0)) rise.1

-- ---- the end

common-none : (n : ℕ) (xs ys : List ℕ) → IsNone n xs → common_len xs (n ∷ ys) ≡ 0
common-none n [] ys none = refl
common-none n (x ∷ xs) ys none = ap (λ b. cond b (1 + common_len xs ys) 0) none.1

none-common : (n : ℕ) (xs ys : List ℕ) → IsNone n ys → common_len (n ∷ xs) ys ≡ 0
none-common n xs [] none = refl
none-common n xs (y ∷ ys) none = ap (λ b. cond b (1 + common_len xs ys) 0) none.0

-- a number of the one list is none of those behind
abbrev NoneBehind : List ℕ → List ℕ → Type 0
NoneBehind [] rest = Unit {0}
NoneBehind (x ∷ xs) rest = IsNone x rest × NoneBehind xs rest

-- lists that are others have no more in common where the same stands behind both
common-behind : (xs ys rest : List ℕ) → NoneBehind xs rest → NoneBehind ys rest → xs ≢ ys → common_len (xs ++ rest) (ys ++ rest) ≡ common_len xs ys
common-behind [] [] rest one other differ = absurd (differ refl)
common-behind [] (y ∷ ys) rest one other differ = common-none y rest (ys ++ rest) other.0
common-behind (x ∷ xs) [] rest one other differ = none-common x (xs ++ rest) rest one.0
common-behind (x ∷ xs) (y ∷ ys) rest one other differ = by (common-behind xs ys rest one.1 other.1) (x == y) refl
  where
    by : (xs ≢ ys → common_len (xs ++ rest) (ys ++ rest) ≡ common_len xs ys) → (b : Bool) → (x == y) ≡ b →
        cond b (1 + common_len (xs ++ rest) (ys ++ rest)) 0 ≡ cond b (1 + common_len xs ys) 0
    by later true is = ap (λ n. 1 + n) (later (λ same. differ (ap₂ (λ z zs. z ∷ zs) (eqb-true x y is) same)))
    by later false is = refl

-- that numbers are none of others is so from both sides
none-back : (n : ℕ) (ms ns : List ℕ) → AreNone ms (n ∷ ns) → IsNone n ms
none-back n [] ns none = tt
none-back n (m ∷ ms) ns none = (none.0.1, none.0.0, none-back n ms ns none.1)

rest-back : (n : ℕ) (ms ns : List ℕ) → AreNone ms (n ∷ ns) → AreNone ms ns
rest-back n [] ns none = tt
rest-back n (m ∷ ms) ns none = (none.0.2, rest-back n ms ns none.1)

NoneBehind-back : (ms ns : List ℕ) → AreNone ms ns → NoneBehind ns ms
NoneBehind-back ms [] none = tt
NoneBehind-back ms (n ∷ ns) none = (none-back n ms ns none, NoneBehind-back ms ns (rest-back n ms ns none))

-- ---- both

reverse-same : (xs ys : List ℕ) → reverse xs ≡ reverse ys → xs ≡ ys
reverse-same xs ys same = sym (reverse-reverse xs) ∙ ap reverse same ∙ reverse-reverse ys

pub have-parts : (low : ℕ) (xs ys : List ℕ) → RiseAbove low xs → RiseAbove low ys → xs ≢ ys → HaveParts xs ys
have-parts low xs ys one other differ =
    let fronts = have-front xs ys in
    let ends = have-front (reverse fronts.one) (reverse fronts.other) in
    let was : fronts.one ≡ reverse ends.one ++ reverse ends.front =
    sym (reverse-reverse fronts.one) ∙ ap reverse ends.before ∙ reverse-append ends.front ends.one in
    let now : fronts.other ≡ reverse ends.other ++ reverse ends.front =
    sym (reverse-reverse fronts.other) ∙ ap reverse ends.after ∙ reverse-append ends.front ends.other in
    let apart : fronts.one ≢ fronts.other = (λ same. differ (fronts.before ∙ ap (λ zs. fronts.front ++ zs) same ∙ sym fronts.after)) in
    let none_was = AreNone-front low fronts.front fronts.one (subst (RiseAbove low) fronts.before one) in
    let none_now = AreNone-front low fronts.front fronts.other (subst (RiseAbove low) fronts.after other) in
    let common : common_len (reverse xs) (reverse ys) ≡ common_len (reverse fronts.one) (reverse fronts.other) =
    ap₂ (λ us vs. common_len (reverse us) (reverse vs)) fronts.before fronts.after ∙
    ap₂ common_len (reverse-append fronts.front fronts.one) (reverse-append fronts.front fronts.other) ∙
    common-behind (reverse fronts.one) (reverse fronts.other) (reverse fronts.front)
    (NoneBehind-back (reverse fronts.front) (reverse fronts.one) (AreNone-reverse fronts.front fronts.one none_was))
    (NoneBehind-back (reverse fronts.front) (reverse fronts.other) (AreNone-reverse fronts.front fronts.other none_now))
    (λ same. apart (reverse-same fronts.one fronts.other same)) in
    record {
      front = fronts.front;
      gone = reverse ends.one;
      come = reverse ends.other;
      back = reverse ends.front;
      before = fronts.before ∙ ap (λ zs. fronts.front ++ zs) was;
      after = fronts.after ∙ ap (λ zs. fronts.front ++ zs) now;
      left = fronts.long;
      right = length-reverse ends.front ∙ ends.long ∙ sym common;
    }
