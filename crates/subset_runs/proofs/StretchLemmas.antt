-- What the transforms give for a stretch at the front.
use Rattle.std.proofs.Common.{◌≡◌, ℕ, ◌+◌, ◌-◌, ◌<◌, ◌≤◌, Bool, true, false, not, List, [], ◌∷◌, ◌++◌, length, drop, replicate, map, refl, ap, sym, ◌∙◌, arith}
use Rattle.std.specs.Prelude.{suc, zero}
use Rattle.std.proofs.lemmas.List.{drop_at, append_assoc, replicate-append-replicate, length-append, length-replicate, map-append}
use Rattle.subset_runs.specs.declared.stretch.Stretch.{Stretch}
use Rattle.subset_runs.specs.Stretch.{IsFront}
use Rattle.subset_runs.specs.Subset.{count, at_each, complement, expand_as, items_outside, shrink}
use Rattle.subset_runs.proofs.FlagLemmas.{count-append, count-replicate_true, count-replicate_false, count_le_length}

-- the first n flags of a stretch, and the rest
pub front_part : (flags : List Bool) (s : Stretch) (n : ℕ) → IsFront flags s → n ≤ s.len → flags ≡ replicate n s.member ++ drop n flags
front_part flags s n front h =
    let rest : List Bool = replicate (s.len - n) s.member ++ drop s.len flags in
    let two : replicate s.len s.member ≡ replicate n s.member ++ replicate (s.len - n) s.member =
    ap (λ k. replicate k s.member) (omega arith) ∙ sym (replicate-append-replicate n (s.len - n) s.member) in
    let parts : flags ≡ replicate n s.member ++ rest =
    front.same ∙ (ap (λ xs. xs ++ drop s.len flags) two ∙ append_assoc (replicate n s.member) (replicate (s.len - n) s.member) (drop s.len flags)) in
    let dropped : drop n flags ≡ rest =
    ap (λ xs. drop n xs) parts ∙ drop_at (replicate n s.member) rest n (length-replicate n s.member) in
    parts ∙ ap (λ xs. replicate n s.member ++ xs) (sym dropped)

pub at_each-stretch : (f : Bool → Bool → Bool) (x y : Bool) (n : ℕ) (xs ys : List Bool) → at_each f (replicate n x ++ xs) (replicate n y ++ ys) ≡ replicate n (f x y) ++ at_each f xs ys
at_each-stretch f x y zero xs ys = refl
at_each-stretch f x y (suc n) xs ys = ap (λ rest. f x y ∷ rest) (at_each-stretch f x y n xs ys)

pub expand_as-added : (inside : Bool) (n : ℕ) (flags by : List Bool) → expand_as inside flags (replicate n true ++ by) ≡ replicate n inside ++ expand_as inside flags by
expand_as-added inside zero flags by = refl
expand_as-added inside (suc n) flags by = ap (λ rest. inside ∷ rest) (expand_as-added inside n flags by)

pub expand_as-moved : (inside x : Bool) (n : ℕ) (flags by : List Bool) → expand_as inside (replicate n x ++ flags) (replicate n false ++ by) ≡ replicate n x ++ expand_as inside flags by
expand_as-moved inside x zero flags by = refl
expand_as-moved inside x (suc n) flags by = ap (λ rest. x ∷ rest) (expand_as-moved inside x n flags by)

pub items_outside-nil : {X : Type 0} (by : List Bool) → items_outside {X = X} by [] ≡ []
items_outside-nil [] = refl
items_outside-nil (b ∷ by) = refl

pub items_outside-gone : {X : Type 0} (n : ℕ) (by : List Bool) (xs : List X) → items_outside (replicate n true ++ by) xs ≡ items_outside by (drop n xs)
items_outside-gone zero by xs = refl
items_outside-gone (suc n) by [] = sym (items_outside-nil by)
items_outside-gone (suc n) by (x ∷ xs) = items_outside-gone n by xs

pub items_outside-kept : {X : Type 0} (n : ℕ) (by : List Bool) (x : X) (xs : List X) → items_outside (replicate n false ++ by) (replicate n x ++ xs) ≡ replicate n x ++ items_outside by xs
items_outside-kept zero by x xs = refl
items_outside-kept (suc n) by x xs = ap (λ rest. x ∷ rest) (items_outside-kept n by x xs)

-- the same for the fronts of two walks

pub at_each_next : (f : Bool → Bool → Bool) (xs ys : List Bool) (s t : Stretch) (n : ℕ) → IsFront xs s → IsFront ys t → n ≤ s.len → n ≤ t.len → at_each f xs ys ≡ replicate n (f s.member t.member) ++ at_each f (drop n xs) (drop n ys)
at_each_next f xs ys s t n one other h k =
    ap (λ zs. at_each f zs ys) (front_part xs s n one h)
    ∙ (ap (λ zs. at_each f (replicate n s.member ++ drop n xs) zs) (front_part ys t n other k)
    ∙ at_each-stretch f s.member t.member n (drop n xs) (drop n ys))

pub expand_as_added_next : (inside : Bool) (flags by : List Bool) (s : Stretch) → IsFront by s → s.member ≡ true → expand_as inside flags by ≡ replicate s.len inside ++ expand_as inside flags (drop s.len by)
expand_as_added_next inside flags by s front is =
    let part : by ≡ replicate s.len true ++ drop s.len by =
    front.same ∙ ap (λ b. replicate s.len b ++ drop s.len by) is in
    ap (λ zs. expand_as inside flags zs) part ∙ expand_as-added inside s.len flags (drop s.len by)

pub expand_as_moved_next : (inside : Bool) (flags by : List Bool) (s t : Stretch) (n : ℕ) → IsFront flags s → IsFront by t → t.member ≡ false → n ≤ s.len → n ≤ t.len → expand_as inside flags by ≡ replicate n s.member ++ expand_as inside (drop n flags) (drop n by)
expand_as_moved_next inside flags by s t n one other is h k =
    let part : by ≡ replicate n false ++ drop n by =
    front_part by t n other k ∙ ap (λ b. replicate n b ++ drop n by) is in
    ap (λ zs. expand_as inside zs by) (front_part flags s n one h)
    ∙ (ap (λ zs. expand_as inside (replicate n s.member ++ drop n flags) zs) part
    ∙ expand_as-moved inside s.member n (drop n flags) (drop n by))

pub shrink_gone_next : (flags by : List Bool) (s : Stretch) → IsFront by s → s.member ≡ true → shrink flags by ≡ shrink (drop s.len flags) (drop s.len by)
shrink_gone_next flags by s front is =
    let part : by ≡ replicate s.len true ++ drop s.len by =
    front.same ∙ ap (λ b. replicate s.len b ++ drop s.len by) is in
    ap (λ zs. shrink flags zs) part ∙ items_outside-gone s.len (drop s.len by) flags

pub shrink_kept_next : (flags by : List Bool) (s t : Stretch) (n : ℕ) → IsFront flags s → IsFront by t → t.member ≡ false → n ≤ s.len → n ≤ t.len → shrink flags by ≡ replicate n s.member ++ shrink (drop n flags) (drop n by)
shrink_kept_next flags by s t n one other is h k =
    let part : by ≡ replicate n false ++ drop n by =
    front_part by t n other k ∙ ap (λ b. replicate n b ++ drop n by) is in
    ap (λ zs. shrink zs by) (front_part flags s n one h)
    ∙ (ap (λ zs. shrink (replicate n s.member ++ drop n flags) zs) part
    ∙ items_outside-kept n (drop n by) s.member (drop n flags))

-- ---- counts beside a stretch

pub count_added_next : (by : List Bool) (s : Stretch) → IsFront by s → s.member ≡ true → count by ≡ s.len + count (drop s.len by)
count_added_next by s front is =
    let part : by ≡ replicate s.len true ++ drop s.len by =
    front.same ∙ ap (λ b. replicate s.len b ++ drop s.len by) is in
    omega (arith, ap count part, count-append (replicate s.len true) (drop s.len by), count-replicate_true s.len)

pub count_moved_next : (by : List Bool) (s : Stretch) (n : ℕ) → IsFront by s → s.member ≡ false → n ≤ s.len → count by ≡ count (drop n by)
count_moved_next by s n front is h =
    let part : by ≡ replicate n false ++ drop n by =
    front_part by s n front h ∙ ap (λ b. replicate n b ++ drop n by) is in
    omega (arith, ap count part, count-append (replicate n false) (drop n by), count-replicate_false n)

-- what is ahead is at least as long as the stretch
pub front_len : (flags : List Bool) (s : Stretch) → IsFront flags s → s.len ≤ length flags
front_len flags s front =
    omega (arith, ap length front.same, length-append (replicate s.len s.member) (drop s.len flags), length-replicate s.len s.member)

map-replicate : (n : ℕ) (b : Bool) → map not (replicate n b) ≡ replicate n (not b)
map-replicate zero b = refl
map-replicate (suc n) b = ap (λ rest. not b ∷ rest) (map-replicate n b)

pub complement_next : (flags : List Bool) (s : Stretch) → IsFront flags s → complement flags ≡ replicate s.len (not s.member) ++ complement (drop s.len flags)
complement_next flags s front =
    ap complement front.same
    ∙ (map-append not (replicate s.len s.member) (drop s.len flags)
    ∙ ap (λ xs. xs ++ complement (drop s.len flags)) (map-replicate s.len s.member))
