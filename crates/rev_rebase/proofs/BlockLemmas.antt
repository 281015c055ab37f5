-- Sets of positions by blocks: at each gap of a list a block, and the items between them are no members.
use Rattle.std.proofs.Common.{◌≡◌, ℕ, suc, ◌+◌, ◌⊎◌, inl, inr, Bool, true, false, not, List, [], ◌∷◌, ◌++◌, length, map, replicate, filter, flat_map, append_assoc, append-nil, refl, ap, ap₂, sym, ◌∙◌, arith, length-append}
use Rattle.std.specs.List.{range_with_len}
use Rattle.std.proofs.lemmas.List.{length-replicate}
use Rattle.std.proofs.lemmas.Bool.{both_ways, not_from_true, not_from_false}
use Rattle.subset_runs.specs.Subset.{count, expand}
use Rattle.subset_runs.proofs.ForCallers.{count-append, count-replicate_true}
use Rattle.plain_text.specs.Woven.{woven}
use Rattle.plain_text.proofs.callers.ListLemmas.{filter-yes, filter-no}
use Rattle.delta_core.specs.Carry.{insertions_at, carried}
use Rattle.delta_core.proofs.ForCallers.{other_step, base_step, own_steps}
use Rattle.rev_rebase.specs.Until.{StartsOld, EndsOld, GoesBeside}
use Rattle.rev_rebase.specs.Rebase.{put_in}

abbrev pub falses : {X : Type 0} → List X → List Bool
falses xs = map (λ _. false) xs

pub falses-len : {X Y : Type 0} (xs : List X) (ys : List Y) → length xs ≡ length ys → falses xs ≡ falses ys
falses-len [] [] same = refl
falses-len [] (y ∷ ys) same = absurd (omega (arith, same))
falses-len (x ∷ xs) [] same = absurd (omega (arith, same))
falses-len (x ∷ xs) (y ∷ ys) same = ap (λ bs. false ∷ bs) (falses-len xs ys (omega (arith, same)))

-- blocks, and what is said of each item between them
abbrev pub weave : {X Y : Type 0} → (ℕ → List Y) → (ℕ → Y) → ℕ → List X → List Y
weave blocks item gap xs = woven blocks (λ g _. item g ∷ []) gap xs

-- the same over another list of the same length
pub weave-len : {X Z Y : Type 0} (blocks : ℕ → List Y) (item : ℕ → Y) (gap : ℕ) (xs : List X) (zs : List Z) → length xs ≡ length zs →
    weave blocks item gap xs ≡ weave blocks item gap zs
weave-len blocks item gap [] [] same = refl
weave-len blocks item gap [] (z ∷ zs) same = absurd (omega (arith, same))
weave-len blocks item gap (x ∷ xs) [] same = absurd (omega (arith, same))
weave-len blocks item gap (x ∷ xs) (z ∷ zs) same =
    ap (λ ys. blocks gap ++ item gap ∷ ys) (weave-len blocks item (gap + 1) xs zs (omega (arith, same)))

-- insertions of that many in a block: behind some items, and in front of the others
abbrev pub put_between : {X : Type 0} → ℕ → List X → List X → List Bool
put_between many left rest = falses left ++ (replicate many true ++ falses rest)

three : {X : Type 0} (xs ys zs more : List X) → (xs ++ (ys ++ zs)) ++ more ≡ xs ++ (ys ++ (zs ++ more))
three xs ys zs more = append_assoc xs (ys ++ zs) more ∙ ap (λ ws. xs ++ ws) (append_assoc ys zs more)

-- ---- carried over new items

module _ {X : Type 0} (new : X → Bool) where
  abbrev old : X → Bool
  old x = not (new x)

  abbrev here : List Bool → ℕ
  here flags = insertions_at flags 0

  here_falses : (xs : List X) (ins : List Bool) → here ins ≡ 0 → here (falses xs ++ ins) ≡ 0
  here_falses [] ins none = none
  here_falses (x ∷ xs) ins none = refl

  here_ends : (x : X) (xs : List X) (ins : List Bool) → new x ≡ true → EndsOld new (x ∷ xs) → here (falses (filter old xs) ++ ins) ≡ 0
  here_ends x [] ins is ends = absurd (both_ways (new x) ends is)
  here_ends x (y ∷ xs) ins is ends =
      elim (new y) as (λ b. new y ≡ b → here (falses (filter old (y ∷ xs)) ++ ins) ≡ 0) [
        | true ↦ λ newer. ap (λ ys. here (falses ys ++ ins)) (filter-no old y xs (not_from_true (new y) newer)) ∙ here_ends y xs ins newer ends
        | false ↦ λ older. ap (λ ys. here (falses ys ++ ins)) (filter-yes old y xs (not_from_false (new y) older))
      ] refl

  ends_rest : (x : X) (xs : List X) → EndsOld new (x ∷ xs) → EndsOld new xs
  ends_rest x [] ends = tt
  ends_rest x (y ∷ xs) ends = ends

  -- no insertion among these items
  passed : (after : Bool) (xs : List X) (ins later : List Bool) → (after ≡ true) ⊎ (EndsOld new xs ⊎ (here ins ≡ 0)) →
      carried after (falses (filter old xs) ++ ins) (map new xs ++ later) ≡ falses xs ++ carried after ins later
  passed after [] ins later ready = refl
  passed after (x ∷ xs) ins later ready =
      elim (new x) as (λ b. new x ≡ b → carried after (falses (filter old (x ∷ xs)) ++ ins) (map new (x ∷ xs) ++ later) ≡ falses (x ∷ xs) ++ carried after ins later) [
        | true ↦ λ is.
            ap₂ (λ ys b. carried after (falses ys ++ ins) (b ∷ (map new xs ++ later))) (filter-no old x xs (not_from_true (new x) is)) is ∙
            other_step after (falses (filter old xs) ++ ins) (map new xs ++ later) (none is ready) ∙
            ap (λ ys. false ∷ ys) (passed after xs ins later (rest ready))
        | false ↦ λ is.
            ap₂ (λ ys b. carried after (falses ys ++ ins) (b ∷ (map new xs ++ later))) (filter-yes old x xs (not_from_false (new x) is)) is ∙
            base_step after (falses (filter old xs) ++ ins) (map new xs ++ later) ∙
            ap (λ ys. false ∷ ys) (passed after xs ins later (rest ready))
      ] refl
    where
      none : new x ≡ true → (after ≡ true) ⊎ (EndsOld new (x ∷ xs) ⊎ (here ins ≡ 0)) → (after ≡ true) ⊎ (here (falses (filter old xs) ++ ins) ≡ 0)
      none is (inl first) = inl first
      none is (inr (inl ends)) = inr (here_ends x xs ins is ends)
      none is (inr (inr nothing)) = inr (here_falses (filter old xs) ins nothing)

      rest : (after ≡ true) ⊎ (EndsOld new (x ∷ xs) ⊎ (here ins ≡ 0)) → (after ≡ true) ⊎ (EndsOld new xs ⊎ (here ins ≡ 0))
      rest (inl first) = inl first
      rest (inr (inl ends)) = inr (inl (ends_rest x xs ends))
      rest (inr (inr nothing)) = inr (inr nothing)

  -- one block, and what stands behind it
  carried_block : (after : Bool) (many : ℕ) (left rest : List X) (ins later : List Bool) → GoesBeside new after left rest → here ins ≡ 0 → here later ≡ 0 →
      carried after (put_between many (filter old left) (filter old rest) ++ ins) ((map new left ++ map new rest) ++ later) ≡
      put_between many left rest ++ carried after ins later
  carried_block after many left rest ins later beside none none_later =
      ap₂ (carried after) (three (falses (filter old left)) (replicate many true) (falses (filter old rest)) ins) (append_assoc (map new left) (map new rest) later) ∙
      passed after left _ _ (left_ready after beside) ∙
      ap (λ ys. falses left ++ ys)
      (own_steps many after (falses (filter old rest) ++ ins) (map new rest ++ later) (own_ready after beside) ∙
      ap (λ ys. replicate many true ++ ys) (passed after rest ins later (inr (inr none)))) ∙
      sym (three (falses left) (replicate many true) (falses rest) (carried after ins later))
    where
      left_ready : (b : Bool) → GoesBeside new b left rest → (b ≡ true) ⊎ (EndsOld new left ⊎ (here (replicate many true ++ (falses (filter old rest) ++ ins)) ≡ 0))
      left_ready true starts = inl refl
      left_ready false ends = inr (inl ends)

      starts_none : (xs : List X) → StartsOld new xs → here (map new xs ++ later) ≡ 0
      starts_none [] starts = none_later
      starts_none (x ∷ xs) starts = ap (λ b. here (b ∷ (map new xs ++ later))) starts

      own_ready : (b : Bool) → GoesBeside new b left rest → (b ≡ false) ⊎ (here (map new rest ++ later) ≡ 0)
      own_ready true starts = inr (starts_none rest starts)
      own_ready false ends = inl refl

  nothing_carried : (after : Bool) → carried after [] [] ≡ []
  nothing_carried true = refl
  nothing_carried false = refl

  -- CARRIED over the new items, block by block
  module _ (after : Bool) (many : ℕ → ℕ) (left rest : ℕ → List X) (beside : (g : ℕ) → GoesBeside new after (left g) (rest g)) where
    abbrev before : ℕ → List Bool
    before g = put_between (many g) (filter old (left g)) (filter old (rest g))

    abbrev over : ℕ → List Bool
    over g = map new (left g) ++ map new (rest g)

    pub carried-blocks : {Z : Type 0} (gap : ℕ) (zs : List Z) →
        carried after (weave (λ g. put_between (many g) (filter old (left g)) (filter old (rest g))) (λ _. false) gap zs)
        (weave (λ g. map new (left g) ++ map new (rest g)) (λ _. false) gap zs) ≡
        weave (λ g. put_between (many g) (left g) (rest g)) (λ _. false) gap zs
    carried-blocks gap [] =
        ap₂ (carried after) (sym (append-nil (before gap))) (sym (append-nil (over gap))) ∙
        carried_block after (many gap) (left gap) (rest gap) [] [] (beside gap) refl refl ∙
        ap (λ ys. put_between (many gap) (left gap) (rest gap) ++ ys) (nothing_carried after) ∙ append-nil (put_between (many gap) (left gap) (rest gap))
    carried-blocks gap (z ∷ zs) =
        carried_block after (many gap) (left gap) (rest gap) (false ∷ weave before (λ _. false) (gap + 1) zs) (false ∷ weave over (λ _. false) (gap + 1) zs)
        (beside gap) refl refl ∙
        ap (λ ys. put_between (many gap) (left gap) (rest gap) ++ ys)
        (base_step after (weave before (λ _. false) (gap + 1) zs) (weave over (λ _. false) (gap + 1) zs) ∙ ap (λ ys. false ∷ ys) (carried-blocks (gap + 1) zs))

-- ---- grown by new items

expand_block : {X : Type 0} (xs : List X) (ys flags by : List Bool) → length xs ≡ length (filter not ys) →
    expand (falses xs ++ flags) (ys ++ by) ≡ falses ys ++ expand flags by
expand_block [] [] flags by same = refl
expand_block (x ∷ xs) [] flags by same = absurd (omega (arith, same))
expand_block xs (true ∷ ys) flags by same = ap (λ bs. false ∷ bs) (expand_block xs ys flags by same)
expand_block [] (false ∷ ys) flags by same = absurd (omega (arith, same))
expand_block (x ∷ xs) (false ∷ ys) flags by same = ap (λ bs. false ∷ bs) (expand_block xs ys flags by (omega (arith, same)))

-- GROWN by the members of each block
pub expand-blocks : {X Z : Type 0} (xs : ℕ → List X) (ys : ℕ → List Bool) (item : ℕ → Bool) → ((g : ℕ) → length (xs g) ≡ length (filter not (ys g))) →
    (gap : ℕ) (zs : List Z) → expand (weave (λ g. falses (xs g)) item gap zs) (weave ys (λ _. false) gap zs) ≡ weave (λ g. falses (ys g)) item gap zs
expand-blocks xs ys item same gap [] =
    ap₂ expand (sym (append-nil _)) (sym (append-nil _)) ∙ expand_block (xs gap) (ys gap) [] [] (same gap) ∙ append-nil _
expand-blocks xs ys item same gap (z ∷ zs) =
    expand_block (xs gap) (ys gap) (item gap ∷ _) (false ∷ _) (same gap) ∙
    ap (λ bs. falses (ys gap) ++ item gap ∷ bs) (expand-blocks xs ys item same (gap + 1) zs)

-- ---- a text put in

put_in-new : (text more : List ℕ) (at : List Bool) (characters : List ℕ) →
    put_in (replicate (length text) true ++ at) (text ++ more) characters ≡ text ++ put_in at more characters
put_in-new [] more at characters = refl
put_in-new (c ∷ text) more at characters = ap (λ cs. c ∷ cs) (put_in-new text more at characters)

put_in-old : {X : Type 0} (f : X → ℕ) (xs : List X) (text : List ℕ) (at : List Bool) (characters : List ℕ) →
    put_in (falses xs ++ at) text (map f xs ++ characters) ≡ map f xs ++ put_in at text characters
put_in-old f [] text at characters = refl
put_in-old f (x ∷ xs) text at characters = ap (λ cs. f x ∷ cs) (put_in-old f xs text at characters)

module _ {X : Type 0} (f : X → ℕ) (texts : ℕ → List ℕ) (left rest : ℕ → List X) where
  put_in_block : (g : ℕ) (more : List ℕ) (at : List Bool) (characters : List ℕ) →
      put_in (put_between (length (texts g)) (left g) (rest g) ++ at) (texts g ++ more) ((map f (left g) ++ map f (rest g)) ++ characters) ≡
      (map f (left g) ++ (texts g ++ map f (rest g))) ++ put_in at more characters
  put_in_block g more at characters =
      ap₂ (λ bs cs. put_in bs (texts g ++ more) cs) (three (falses (left g)) (replicate (length (texts g)) true) (falses (rest g)) at)
      (append_assoc (map f (left g)) (map f (rest g)) characters) ∙
      put_in-old f (left g) (texts g ++ more) _ _ ∙
      ap (λ cs. map f (left g) ++ cs)
      (put_in-new (texts g) more _ _ ∙ ap (λ cs. texts g ++ cs) (put_in-old f (rest g) more at characters)) ∙
      sym (three (map f (left g)) (texts g) (map f (rest g)) (put_in at more characters))

  -- PUT IN block by block
  pub put_in-blocks : (gap : ℕ) (zs : List X) →
      put_in (weave (λ g. put_between (length (texts g)) (left g) (rest g)) (λ _. false) gap zs) (flat_map texts (range_with_len gap (suc (length zs))))
      (woven (λ g. map f (left g) ++ map f (rest g)) (λ _ z. f z ∷ []) gap zs) ≡
      woven (λ g. map f (left g) ++ (texts g ++ map f (rest g))) (λ _ z. f z ∷ []) gap zs
  put_in-blocks gap [] =
      ap₂ (λ bs cs. put_in bs (texts gap ++ []) cs) (sym (append-nil _)) (sym (append-nil _)) ∙ put_in_block gap [] [] [] ∙ append-nil _
  put_in-blocks gap (z ∷ zs) =
      put_in_block gap (flat_map texts (range_with_len (gap + 1) (suc (length zs)))) (false ∷ _) (f z ∷ _) ∙
      ap (λ cs. (map f (left gap) ++ (texts gap ++ map f (rest gap))) ++ f z ∷ cs) (put_in-blocks (gap + 1) zs)

-- ---- how many members

pub count-blocks : {Y Z : Type 0} (blocks : ℕ → List Bool) (texts : ℕ → List Y) → ((g : ℕ) → count (blocks g) ≡ length (texts g)) → (gap : ℕ) (zs : List Z) →
    count (weave blocks (λ _. false) gap zs) ≡ length (flat_map texts (range_with_len gap (suc (length zs))))
count-blocks blocks texts each gap [] = omega (arith, each gap, length-append (texts gap) [])
count-blocks blocks texts each gap (z ∷ zs) =
    omega (
      arith,
      each gap,
      count-append (blocks gap) (false ∷ weave blocks (λ _. false) (gap + 1) zs),
      length-append (texts gap) (flat_map texts (range_with_len (gap + 1) (suc (length zs)))),
      count-blocks blocks texts each (gap + 1) zs,
    )

pub count-put_between : {X : Type 0} (many : ℕ) (left rest : List X) → count (put_between many left rest) ≡ many
count-put_between many left rest =
    omega (
      arith,
      count-append (falses left) (replicate many true ++ falses rest),
      count-append (replicate many true) (falses rest),
      count-replicate_true many,
      count-falses left,
      count-falses rest,
    )
  where
    count-falses : {Y : Type 0} (xs : List Y) → count (falses xs) ≡ 0
    count-falses [] = refl
    count-falses (x ∷ xs) = omega (arith, count-falses xs)

pub length-weave : {Z : Type 0} (many : ℕ → ℕ) (gap : ℕ) (zs : List Z) →
    length (weave (λ g. replicate (many g) true) (λ _. false) gap zs) ≡ length zs + count (weave (λ g. replicate (many g) true) (λ _. false) gap zs)
length-weave many gap [] = omega (arith, length-replicate (many gap) true, count-replicate_true (many gap))
length-weave many gap (z ∷ zs) =
    let rest : List Bool = weave (λ g. replicate (many g) true) (λ _. false) (gap + 1) zs in
    omega (
      arith,
      length-append (replicate (many gap) true) (false ∷ rest),
      count-append (replicate (many gap) true) (false ∷ rest),
      length-replicate (many gap) true,
      count-replicate_true (many gap),
      length-weave many (gap + 1) zs,
    )
