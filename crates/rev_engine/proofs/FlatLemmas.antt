-- A text or a rope beside flags of its positions, stretch by stretch.
use Rattle.std.proofs.Common.{◌≡◌, ℕ, zero, suc, ◌+◌, ◌-◌, ◌≤◌, Bool, true, false, not, List, [], ◌∷◌, ◌++◌, length, take, drop, replicate, append-nil, append_assoc, length-append, length-take-le, take-append-drop, refl, ap, ap₂, sym, ◌∙◌, arith}
use Rattle.std.proofs.lemmas.List.{drop-drop, length-drop, nil_from_length}
use Rattle.std.proofs.Math.Seq.{take-append_seam, drop-append-add}
use Rattle.plain_text.specs.Text.{byte_len}
use Rattle.rope_node.specs.Lengths.{byte_len-append}
use Rattle.shared_tree.specs.Replaced.{replaced}
use Rattle.subset_runs.specs.declared.stretch.Stretch.{Stretch}
use Rattle.subset_runs.specs.Stretch.{IsFront}
use Rattle.subset_runs.specs.Subset.{complement, count, items_outside}
use Rattle.subset_runs.proofs.ForCallers.{count_le_length}
use Rattle.subset_runs.proofs.ForCallers.{front_len, items_outside-gone, count_added_next, count_moved_next}
use Rattle.rev_rebase.specs.Rebase.{put_in}

part : (by : List Bool) (s : Stretch) (member : Bool) → IsFront by s → s.member ≡ member → by ≡ replicate s.len member ++ drop s.len by
part by s member front is = front.same ∙ ap (λ b. replicate s.len b ++ drop s.len by) is

is_none : (b : Bool) → not b ≡ true → b ≡ false
is_none true is = absurd cc
is_none false is = refl

is_member : (b : Bool) → not b ≡ false → b ≡ true
is_member true is = refl
is_member false is = absurd cc

-- ---- the characters outside

items_outside-front : {X : Type 0} (n : ℕ) (by : List Bool) (xs : List X) → n ≤ length xs →
    items_outside (replicate n false ++ by) xs ≡ take n xs ++ items_outside by (drop n xs)
items_outside-front zero by xs le = refl
items_outside-front (suc n) by [] le = absurd (omega arith)
items_outside-front (suc n) by (x ∷ xs) le = ap (λ rest. x ∷ rest) (items_outside-front n by xs (omega arith))

-- the characters so far, and those that are left beside their flags, come to `all`
pub record IsPicking (made rest : List ℕ) (walk : List Bool) (all : List ℕ) : Type 0 where
  pub so_far : made ++ items_outside walk rest ≡ all
  pub lengths : length rest ≡ length walk

pub IsPicking-len : (made rest all : List ℕ) (walk : List Bool) (s : Stretch) → IsPicking made rest walk all → IsFront walk s → s.len ≤ length rest
IsPicking-len made rest all walk s is front = omega (arith, is.lengths, front_len walk s front)

shorter : {X Y : Type 0} (n : ℕ) (xs : List X) (ys : List Y) → length xs ≡ length ys → length (drop n xs) ≡ length (drop n ys)
shorter n xs ys same = length-drop n xs ∙ (ap (λ k. k - n) same ∙ sym (length-drop n ys))

pub IsPicking-kept : (made rest all : List ℕ) (walk : List Bool) (s : Stretch) → IsPicking made rest walk all → IsFront walk s → not s.member ≡ true →
    IsPicking (made ++ take s.len rest) (drop s.len rest) (drop s.len walk) all
IsPicking-kept made rest all walk s is front none = record {
  so_far =
      append_assoc made (take s.len rest) (items_outside (drop s.len walk) (drop s.len rest)) ∙
      (ap (λ xs. made ++ xs) (sym (items_outside-front s.len (drop s.len walk) rest (IsPicking-len made rest all walk s is front))) ∙
      (ap (λ by. made ++ items_outside by rest) (sym (part walk s false front (is_none s.member none))) ∙ is.so_far));
  lengths = shorter s.len rest walk is.lengths;
}

pub IsPicking-gone : (made rest all : List ℕ) (walk : List Bool) (s : Stretch) → IsPicking made rest walk all → IsFront walk s → not s.member ≡ false →
    IsPicking made (drop s.len rest) (drop s.len walk) all
IsPicking-gone made rest all walk s is front member = record {
  so_far =
      ap (λ xs. made ++ xs) (sym (items_outside-gone s.len (drop s.len walk) rest)) ∙
      (ap (λ by. made ++ items_outside by rest) (sym (part walk s true front (is_member s.member member))) ∙ is.so_far);
  lengths = shorter s.len rest walk is.lengths;
}

pub IsPicking-end : (made rest all : List ℕ) (walk : List Bool) → IsPicking made rest walk all → walk ≡ [] → made ≡ all
IsPicking-end made rest all walk is none = sym (append-nil made) ∙ (ap (λ by. made ++ items_outside by rest) (sym none) ∙ is.so_far)

-- where the characters that are left are those of a list right of a gap
pub IsPicking-taken : (made part all xs : List ℕ) (gap : ℕ) (walk : List Bool) (s : Stretch) → IsPicking made (drop gap xs) walk all → IsFront walk s →
    s.member ≡ false → part ≡ take (gap + s.len - gap) (drop gap xs) → IsPicking (made ++ part) (drop (gap + s.len) xs) (drop s.len walk) all
IsPicking-taken made part all xs gap walk s is front none part_is =
    let width : gap + s.len - gap ≡ s.len = omega arith in
    rw (part_is, width, ← drop-drop s.len gap xs) (IsPicking-kept made (drop gap xs) all walk s is front (ap not none))

pub IsPicking-passed : (made all xs : List ℕ) (gap : ℕ) (walk : List Bool) (s : Stretch) → IsPicking made (drop gap xs) walk all → IsFront walk s →
    s.member ≡ true → IsPicking made (drop (gap + s.len) xs) (drop s.len walk) all
IsPicking-passed made all xs gap walk s is front member =
    rw (← drop-drop s.len gap xs) (IsPicking-gone made (drop gap xs) all walk s is front (ap not member))

-- as many as the members
pub length-members : (flags : List Bool) (xs : List ℕ) → length xs ≡ length flags → count flags ≡ length (items_outside (complement flags) xs)
length-members [] xs same = refl
length-members (flag ∷ flags) [] same = absurd (omega (arith, same))
length-members (true ∷ flags) (x ∷ xs) same = omega (arith, length-members flags xs (omega (arith, same)))
length-members (false ∷ flags) (x ∷ xs) same = omega (arith, length-members flags xs (omega (arith, same)))

-- ---- the characters put in

put_in-new : (n : ℕ) (by : List Bool) (text xs : List ℕ) → n ≤ length text →
    put_in (replicate n true ++ by) text xs ≡ take n text ++ put_in by (drop n text) xs
put_in-new zero by text xs le = refl
put_in-new (suc n) by [] xs le = absurd (omega arith)
put_in-new (suc n) by (c ∷ text) xs le = ap (λ rest. c ∷ rest) (put_in-new n by text xs (omega arith))

put_in-old : (n : ℕ) (by : List Bool) (text xs : List ℕ) → n ≤ length xs →
    put_in (replicate n false ++ by) text xs ≡ take n xs ++ put_in by text (drop n xs)
put_in-old zero by text xs le = refl
put_in-old (suc n) by text [] le = absurd (omega arith)
put_in-old (suc n) by text (c ∷ xs) le = ap (λ rest. c ∷ rest) (put_in-old n by text xs (omega arith))

pub record IsPutting (made new old : List ℕ) (walk : List Bool) (all : List ℕ) : Type 0 where
  pub so_far : made ++ put_in walk new old ≡ all
  pub longer : length walk ≡ length old + count walk
  pub members : count walk ≡ length new

pub IsPutting-new_len : (made new old all : List ℕ) (walk : List Bool) (s : Stretch) → IsPutting made new old walk all → IsFront walk s → s.member ≡ true →
    s.len ≤ length new
IsPutting-new_len made new old all walk s is front member = omega (arith, is.members, count_added_next walk s front member)

pub IsPutting-old_len : (made new old all : List ℕ) (walk : List Bool) (s : Stretch) → IsPutting made new old walk all → IsFront walk s → s.member ≡ false →
    s.len ≤ length old
IsPutting-old_len made new old all walk s is front none =
    omega (arith, is.longer, front_len walk s front, count_moved_next walk s s.len front none (omega arith), count_le_length (drop s.len walk), length-drop s.len walk)

pub IsPutting-new : (made new old all : List ℕ) (walk : List Bool) (s : Stretch) → IsPutting made new old walk all → IsFront walk s → s.member ≡ true →
    IsPutting (made ++ take s.len new) (drop s.len new) old (drop s.len walk) all
IsPutting-new made new old all walk s is front member =
    let le = IsPutting-new_len made new old all walk s is front member in
    let counted = count_added_next walk s front member in
    record {
      so_far =
          append_assoc made (take s.len new) (put_in (drop s.len walk) (drop s.len new) old) ∙
          (ap (λ xs. made ++ xs) (sym (put_in-new s.len (drop s.len walk) new old le)) ∙
          (ap (λ by. made ++ put_in by new old) (sym (part walk s true front member)) ∙ is.so_far));
      longer = omega (arith, is.longer, counted, length-drop s.len walk);
      members = omega (arith, is.members, counted, length-drop s.len new);
    }

pub IsPutting-old : (made new old all : List ℕ) (walk : List Bool) (s : Stretch) → IsPutting made new old walk all → IsFront walk s → s.member ≡ false →
    IsPutting (made ++ take s.len old) new (drop s.len old) (drop s.len walk) all
IsPutting-old made new old all walk s is front none =
    let le = IsPutting-old_len made new old all walk s is front none in
    let counted = count_moved_next walk s s.len front none (omega arith) in
    record {
      so_far =
          append_assoc made (take s.len old) (put_in (drop s.len walk) new (drop s.len old)) ∙
          (ap (λ xs. made ++ xs) (sym (put_in-old s.len (drop s.len walk) new old le)) ∙
          (ap (λ by. made ++ put_in by new old) (sym (part walk s false front none)) ∙ is.so_far));
      longer = omega (arith, is.longer, counted, length-drop s.len walk, length-drop s.len old, front_len walk s front);
      members = sym counted ∙ is.members;
    }

pub IsPutting-end : (made new old all : List ℕ) (walk : List Bool) → IsPutting made new old walk all → walk ≡ [] → made ≡ all
IsPutting-end made new old all walk is none = sym (append-nil made) ∙ (ap (λ by. made ++ put_in by new old) (sym none) ∙ is.so_far)

-- ---- the same in place: what is made stands left of the gap, and the old characters right of it

pub record IsPuttingAt (made : List ℕ) (gap : ℕ) (new : List ℕ) (walk : List Bool) (all : List ℕ) (bytes : ℕ) : Type 0 where
  pub front : List ℕ
  pub old : List ℕ
  pub cut : made ≡ front ++ old
  pub reached : gap ≡ length front
  pub putting : IsPutting front new old walk all
  pub counted : byte_len made + byte_len new ≡ bytes

pub IsPuttingAt-start : (union text : List ℕ) (at : List Bool) → length at ≡ length union + count at → count at ≡ length text →
    IsPuttingAt union 0 text at (put_in at text union) (byte_len union + byte_len text)
IsPuttingAt-start union text at longer members = record {
  front = [];
  old = union;
  cut = refl;
  reached = refl;
  putting = record { so_far = refl; longer = longer; members = members };
  counted = refl;
}

module _ (made : List ℕ) (gap : ℕ) (new : List ℕ) (walk : List Bool) (all : List ℕ) (bytes : ℕ) (s : Stretch)
    (at : IsPuttingAt made gap new walk all bytes) (front : IsFront walk s) where
  pub gap-inside : gap ≤ length made
  gap-inside = omega (arith, at.reached, ap length at.cut, length-append at.front at.old)

  abbrev piece : List ℕ
  piece = take s.len new

  left_is : take gap made ≡ at.front
  left_is = ap (take gap) at.cut ∙ ap (λ n. take n (at.front ++ at.old)) at.reached ∙ take-append_seam at.front at.old

  right_is : drop gap made ≡ at.old
  right_is =
      let reached : gap ≡ length at.front + 0 = omega (arith, at.reached) in
      ap (drop gap) at.cut ∙ ap (λ n. drop n (at.front ++ at.old)) reached ∙ drop-append-add at.front at.old 0

  replaced_is : replaced made gap gap piece ≡ (at.front ++ piece) ++ at.old
  replaced_is = ap₂ (λ xs ys. xs ++ (piece ++ ys)) left_is right_is ∙ sym (append_assoc at.front piece at.old)

  counted_new : byte_len (replaced made gap gap piece) + byte_len (drop s.len new) ≡ bytes
  counted_new =
      omega (
        arith,
        ap byte_len replaced_is,
        ap byte_len at.cut,
        byte_len-append (at.front ++ piece) at.old,
        byte_len-append at.front piece,
        byte_len-append at.front at.old,
        byte_len-append piece (drop s.len new),
        ap byte_len (take-append-drop s.len new),
        at.counted,
      )

  pub piece-fits : byte_len (replaced made gap gap piece) ≤ bytes
  piece-fits = omega (arith, counted_new)

  pub IsPuttingAt-new : s.member ≡ true → IsPuttingAt (replaced made gap gap piece) (gap + s.len) (drop s.len new) (drop s.len walk) all bytes
  IsPuttingAt-new member =
      let le = IsPutting-new_len at.front new at.old all walk s at.putting front member in
      record {
        front = at.front ++ piece;
        old = at.old;
        cut = replaced_is;
        reached = omega (arith, at.reached, length-append at.front piece, length-take-le s.len new le);
        putting = IsPutting-new at.front new at.old all walk s at.putting front member;
        counted = counted_new;
      }

  pub IsPuttingAt-old : s.member ≡ false → IsPuttingAt made (gap + s.len) new (drop s.len walk) all bytes
  IsPuttingAt-old none =
      let le = IsPutting-old_len at.front new at.old all walk s at.putting front none in
      record {
        front = at.front ++ take s.len at.old;
        old = drop s.len at.old;
        cut = at.cut ∙ (ap (λ xs. at.front ++ xs) (sym (take-append-drop s.len at.old)) ∙ sym (append_assoc at.front (take s.len at.old) (drop s.len at.old)));
        reached = omega (arith, at.reached, length-append at.front (take s.len at.old), length-take-le s.len at.old le);
        putting = IsPutting-old at.front new at.old all walk s at.putting front none;
        counted = at.counted;
      }

pub IsPuttingAt-end : (made : List ℕ) (gap : ℕ) (new : List ℕ) (walk : List Bool) (all : List ℕ) (bytes : ℕ) →
    IsPuttingAt made gap new walk all bytes → walk ≡ [] → made ≡ all
IsPuttingAt-end made gap new walk all bytes at none =
    let over : length at.old ≡ 0 = omega (arith, at.putting.longer, ap length none) in
    at.cut ∙ (ap (λ xs. at.front ++ xs) (nil_from_length at.old over) ∙ append-nil at.front) ∙ IsPutting-end at.front new at.old all walk at.putting none

-- ---- the characters outside of no flag

pub length-none : (n : ℕ) → length (replicate n false) ≡ n
length-none zero = refl
length-none (suc n) = ap suc (length-none n)

pub outside-none : (xs : List ℕ) → items_outside (replicate (length xs) false) xs ≡ xs
outside-none [] = refl
outside-none (x ∷ xs) = ap (λ ys. x ∷ ys) (outside-none xs)

-- the same of flags without a member
pub outside-uncounted : (flags : List Bool) (xs : List ℕ) → length xs ≡ length flags → count flags ≡ 0 → items_outside flags xs ≡ xs
outside-uncounted [] [] same no_member = refl
outside-uncounted [] (x ∷ xs) same no_member = absurd (omega (arith, same))
outside-uncounted (true ∷ flags) xs same no_member = absurd (omega (arith, no_member))
outside-uncounted (false ∷ flags) [] same no_member = absurd (omega (arith, same))
outside-uncounted (false ∷ flags) (x ∷ xs) same no_member =
    ap (λ ys. x ∷ ys) (outside-uncounted flags xs (omega (arith, same)) (omega (arith, no_member)))
