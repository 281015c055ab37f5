-- What the groups up to the floor say of the history there.
use Rattle.std.proofs.Common.{◌≡◌, ℕ, zero, suc, ◌+◌, ◌<◌, ◌≤◌, Bool, true, false, ◌&&◌, ◌||◌, if◌then◌else◌, ◌==◌, nat_le, nat_lt, List, [], ◌∷◌, length, map, take, drop, Option, Some, None, refl, ap, ap₂, sym, ◌∙◌, subst, arith}
use Rattle.std.specs.Prelude.{slice_get}
use Rattle.std.specs.List.{list_all, list_any, range_with_len, AllByRecursion}
use Rattle.std.proofs.lemmas.Bool.{and_parts, eq-eqb, eqb-true, le-leb, leb-true, ne_eqb}
use Rattle.std.proofs.lemmas.Bool.Decides.{nat_tests}
use Rattle.std.proofs.lemmas.List.FromFn.{length-map-range_with_len, get_or-map-range_with_len}
use Rattle.std.proofs.lemmas.Option.{slice_get-get_or}
use Rattle.plain_text.specs.Numbers.{has, with_number, IsRising}
use Rattle.plain_text.proofs.callers.ListLemmas.{AllByRecursion-map, AllByRecursion-weaker}
use Rattle.plain_text.proofs.callers.NumberLemmas.{has-with_number, IsRising-with}
use Rattle.plain_edits.specs.History.{Tagged, Revision, undo, revision_at, group_of, IsTaggedBy}
use Rattle.plain_edits.specs.Edits.{is_edit_of}
use Rattle.plain_edits.specs.Collection.{is_based_from, is_clean}
use Rattle.plain_edits.specs.HistorySteps.{is_edit, HasRisingSet, IsByEdits}
use Rattle.rev_list.specs.declared.settled.SettledGroup.{SettledGroup}
use Rattle.rev_list.specs.Groups.{IsFirstEdit, rev_of, first_with}
use Rattle.rev_list.specs.Kept.{IsOpen}
use Rattle.rev_list.specs.Settled.{Settled, AreInsertedApart, AreSettled, HasLengths, IsEnd, IsFirstApart, first_flag, first_inserted, first_deleted, without_first, settled_characters, settled_history, settled_said, ending_at}
use Rattle.rev_list.proofs.SettledLemmas.{all-with_number, all_of, all_rest, first_rest, rest_lengths}

-- ---- the revisions up to the floor

slice_get-range : {X : Type 0} (f : ℕ → X) (from n k : ℕ) → k < n → slice_get (map f (range_with_len from n)) k ≡ Some (f (from + k))
slice_get-range f from n k within =
    slice_get-get_or (map f (range_with_len from n)) k (f 0) (omega (arith, within, length-map-range_with_len f from n)) ∙
    ap Some (get_or-map-range_with_len f from n k (from + k) (f 0) within refl)

abbrev said : Settled → ℕ → Revision
said s rev = settled_said s.undone (ending_at s.groups rev)

pub revision_at-settled : (s : Settled) (rev : ℕ) → 0 < rev → rev ≤ s.floor →
    revision_at (settled_history s).revisions rev ≡ Some (settled_said s.undone (ending_at s.groups rev))
revision_at-settled s zero counts within = absurd (omega (arith, counts))
revision_at-settled s (suc n) counts within =
    slice_get-range (said s) 1 s.floor n (omega (arith, within)) ∙ (let same : 1 + n ≡ suc n = omega arith in ap (λ k. Some (said s k)) same)

-- an edit is the last one of a group
is_edit-said : (undone : List ℕ) (groups : List SettledGroup) (rev : ℕ) → is_edit (Some (settled_said undone (ending_at groups rev))) ≡ list_any (λ g. g.last == rev) groups
is_edit-said undone [] rev = refl
is_edit-said undone (g ∷ groups) rev = by (g.last == rev) (is_edit-said undone groups rev)
  where
    by : (own : Bool) → is_edit (Some (settled_said undone (ending_at groups rev))) ≡ list_any (λ g. g.last == rev) groups →
        is_edit (Some (settled_said undone (if own then Some g.group else ending_at groups rev))) ≡ (own || list_any (λ g. g.last == rev) groups)
    by true rest = refl
    by false rest = rest

or_more : (a b : Bool) → b ≡ true → (a || b) ≡ true
or_more true b is = refl
or_more false b is = is

-- each group's last edit is that of a group
own_last : (groups some : List SettledGroup) → ((rev : ℕ) → list_any (λ o. o.last == rev) some ≡ true → list_any (λ o. o.last == rev) groups ≡ true) →
    AllByRecursion (λ g. list_any (λ o. o.last == g.last) groups ≡ true) some
own_last groups [] among = tt
own_last groups (g ∷ some) among = (
  among g.last (ap (λ b. b || list_any (λ o. o.last == g.last) some) (eq-eqb g.last g.last refl)),
  own_last groups some (λ rev there. among rev (or_more (g.last == rev) (list_any (λ o. o.last == rev) some) there)),
)

all_both : (P Q : SettledGroup → Type 0) (groups : List SettledGroup) → AllByRecursion P groups → AllByRecursion Q groups → AllByRecursion (λ g. P g × Q g) groups
all_both P Q [] ps qs = tt
all_both P Q (g ∷ groups) ps qs = ((ps.0, qs.0), all_both P Q groups ps.1 qs.1)

abbrev pub IsLastEdit : Settled → SettledGroup → Type 0
IsLastEdit s g = (is_edit (revision_at (settled_history s).revisions g.last) ≡ true) × (g.last ≤ s.floor)

pub last_edits : (s : Settled) → AreSettled s → AllByRecursion (IsLastEdit s) s.groups
last_edits s are =
    all_of (λ g. IsEnd (settled_history s).revisions s.floor g × (list_any (λ o. o.last == g.last) s.groups ≡ true)) (IsLastEdit s)
    (λ g is. (
      ap is_edit (revision_at-settled s g.last is.0.counts is.0.within) ∙ is_edit-said s.undone s.groups g.last ∙ is.1,
      is.0.within,
    ))
    s.groups
    (all_both (IsEnd (settled_history s).revisions s.floor) (λ g. list_any (λ o. o.last == g.last) s.groups ≡ true) s.groups are.ends (own_last s.groups s.groups (λ rev there. there)))

-- and each edit is there
pub edits_listed : (s : Settled) (rev : ℕ) → rev ≤ s.floor → is_edit (revision_at (settled_history s).revisions rev) ≡ true → list_any (λ g. g.last == rev) s.groups ≡ true
edits_listed s zero within edits = absurd cc
edits_listed s (suc n) within edits =
    sym (ap is_edit (revision_at-settled s (suc n) (omega arith) within) ∙ is_edit-said s.undone s.groups (suc n)) ∙ edits

-- ---- two groups have two last edits

abbrev LastsDiffer : List SettledGroup → Type 0
LastsDiffer [] = Unit {0}
LastsDiffer (g ∷ groups) = AllByRecursion (λ o. (o.last == g.last) ≡ false) groups × LastsDiffer groups

lasts_differ : (revisions : List Revision) (floor : ℕ) (groups : List SettledGroup) → AllByRecursion (IsEnd revisions floor) groups → IsRising (map (λ g. g.group) groups) →
    LastsDiffer groups
lasts_differ revisions floor [] ends up = tt
lasts_differ revisions floor (g ∷ groups) ends up = (above groups ends.1 up.0, lasts_differ revisions floor groups ends.1 up.1)
  where
    above : (others : List SettledGroup) → AllByRecursion (IsEnd revisions floor) others → AllByRecursion (λ m. g.group < m) (map (λ o. o.group) others) →
        AllByRecursion (λ o. (o.last == g.last) ≡ false) others
    above [] ends over = tt
    above (o ∷ others) more over = (
      ne_eqb o.last g.last (λ same.
          let one : o.group ≡ g.group = sym more.0.said ∙ ap (group_of revisions) same ∙ ends.0.said in
          omega (arith, one, over.0)),
      above others more.1 over.1,
    )

differ_rest : (groups : List SettledGroup) → LastsDiffer groups → LastsDiffer (map without_first groups)
differ_rest [] differ = tt
differ_rest (g ∷ groups) differ = (
  all_rest (λ o. (o.last == g.last) ≡ false) (λ o. (o.last == g.last) ≡ false) (λ o is. is) groups differ.0,
  differ_rest groups differ.1,
)

-- ---- the first position

or_false : (a b : Bool) → (a || b) ≡ false → (a ≡ false) × (b ≡ false)
or_false true b none = absurd cc
or_false false b none = (refl, none)

eqb-sym : (a b : ℕ) → (a == b) ≡ (b == a)
eqb-sym a b = grind (arith, nat_tests)

not_first : (n : ℕ) (groups : List SettledGroup) → 0 < n → AllByRecursion (λ o. (o.last == n) ≡ false) groups → (first_inserted groups == n) ≡ false
not_first n [] counts differ = ne_eqb 0 n (λ is. omega (arith, is, counts))
not_first n (g ∷ groups) counts differ = by (first_flag g.inserted) (not_first n groups counts differ.1)
  where
    by : (new : Bool) → (first_inserted groups == n) ≡ false → ((if new then g.last else first_inserted groups) == n) ≡ false
    by true rest = differ.0
    by false rest = rest

first_inserted_is : (groups : List SettledGroup) → AllByRecursion (λ g. 0 < g.last) groups → LastsDiffer groups → IsFirstApart groups →
    AllByRecursion (λ g. first_flag g.inserted ≡ (first_inserted groups == g.last)) groups
first_inserted_is [] counts differ apart = tt
first_inserted_is (g ∷ groups) counts differ apart = by (first_flag g.inserted) refl (first_inserted_is groups counts.1 differ.1 apart.1)
  where
    others : (some : List SettledGroup) → AllByRecursion (λ o. (o.last == g.last) ≡ false) some → list_any (λ o. first_flag o.inserted) some ≡ false →
        AllByRecursion (λ o. first_flag o.inserted ≡ (g.last == o.last)) some
    others [] all none = tt
    others (o ∷ some) all none =
        let parts = or_false (first_flag o.inserted) (list_any (λ o. first_flag o.inserted) some) none in
        (parts.0 ∙ sym (eqb-sym g.last o.last ∙ all.0), others some all.1 parts.1)

    by : (new : Bool) → first_flag g.inserted ≡ new → AllByRecursion (λ o. first_flag o.inserted ≡ (first_inserted groups == o.last)) groups →
        AllByRecursion (λ o. first_flag o.inserted ≡ ((if new then g.last else first_inserted groups) == o.last)) (g ∷ groups)
    by true is rest = (is ∙ sym (eq-eqb g.last g.last refl), others groups differ.0 (apart.0 is))
    by false is rest = (is ∙ sym (not_first g.last groups counts.0 differ.0), rest)

not_deleted : (n : ℕ) (groups : List SettledGroup) → AllByRecursion (λ o. (o.last == n) ≡ false) groups → has (first_deleted groups) n ≡ false
not_deleted n [] differ = refl
not_deleted n (g ∷ groups) differ = by (first_flag g.deleted) (not_deleted n groups differ.1)
  where
    by : (gone : Bool) → has (first_deleted groups) n ≡ false → has (if gone then with_number (first_deleted groups) g.last else first_deleted groups) n ≡ false
    by true rest = has-with_number (first_deleted groups) g.last n ∙ ap₂ (λ a b. a || b) differ.0 rest
    by false rest = rest

first_deleted_is : (groups : List SettledGroup) → LastsDiffer groups → AllByRecursion (λ g. first_flag g.deleted ≡ has (first_deleted groups) g.last) groups
first_deleted_is [] differ = tt
first_deleted_is (g ∷ groups) differ = by (first_flag g.deleted) refl (first_deleted_is groups differ.1)
  where
    others : (some : List SettledGroup) → AllByRecursion (λ o. (o.last == g.last) ≡ false) some → AllByRecursion (λ o. first_flag o.deleted ≡ has (first_deleted groups) o.last) some →
        AllByRecursion (λ o. first_flag o.deleted ≡ has (with_number (first_deleted groups) g.last) o.last) some
    others [] all rest = tt
    others (o ∷ some) all rest = (
      rest.0 ∙ sym (has-with_number (first_deleted groups) g.last o.last ∙ ap (λ b. b || has (first_deleted groups) o.last) (eqb-sym g.last o.last ∙ all.0)),
      others some all.1 rest.1,
    )

    by : (gone : Bool) → first_flag g.deleted ≡ gone → AllByRecursion (λ o. first_flag o.deleted ≡ has (first_deleted groups) o.last) groups →
        AllByRecursion (λ o. first_flag o.deleted ≡ has (if gone then with_number (first_deleted groups) g.last else first_deleted groups) o.last) (g ∷ groups)
    by true is rest = (
      is ∙ sym (has-with_number (first_deleted groups) g.last g.last ∙ ap (λ b. b || has (first_deleted groups) g.last) (eq-eqb g.last g.last refl)),
      others groups differ.0 rest,
    )
    by false is rest = (is ∙ sym (not_deleted g.last groups differ.0), rest)

-- ---- all positions

-- the group is said by its last edit in these characters
pub record IsSaidIn (characters : List Tagged) (g : SettledGroup) : Type 0 where
  pub inserted : g.inserted ≡ map (λ tagged. tagged.inserted == g.last) characters
  pub deleted : g.deleted ≡ map (λ tagged. has tagged.deleted g.last) characters

no_flags : (flags : List Bool) → length flags ≡ 0 → flags ≡ []
no_flags [] none = refl
no_flags (flag ∷ flags) none = absurd (omega (arith, none))

next_said : (len : ℕ) (t : Tagged) (characters : List Tagged) (some : List SettledGroup) → AllByRecursion (HasLengths (suc len)) some →
    AllByRecursion (λ g. first_flag g.inserted ≡ (t.inserted == g.last)) some → AllByRecursion (λ g. first_flag g.deleted ≡ has t.deleted g.last) some →
    AllByRecursion (IsSaidIn characters) (map without_first some) → AllByRecursion (IsSaidIn (t ∷ characters)) some
next_said len t characters [] lengths news gones rest = tt
next_said len t characters (g ∷ some) lengths news gones rest = (
  record {
    inserted = first_rest g.inserted len lengths.0.inserted ∙ ap₂ (λ b flags. b ∷ flags) news.0 rest.0.inserted;
    deleted = first_rest g.deleted len lengths.0.deleted ∙ ap₂ (λ b flags. b ∷ flags) gones.0 rest.0.deleted;
  },
  next_said len t characters some lengths.1 news.1 gones.1 rest.1,
)

all_said : (len : ℕ) (groups : List SettledGroup) → AllByRecursion (HasLengths len) groups → AllByRecursion (λ g. 0 < g.last) groups → LastsDiffer groups →
    AreInsertedApart len groups → AllByRecursion (IsSaidIn (settled_characters len groups)) groups
all_said zero groups lengths counts differ apart =
    all_of (HasLengths 0) (IsSaidIn []) (λ g long. record { inserted = no_flags g.inserted long.inserted; deleted = no_flags g.deleted long.deleted }) groups lengths
all_said (suc len) groups lengths counts differ apart =
    next_said len (record { character = 0; inserted = first_inserted groups; deleted = first_deleted groups }) (settled_characters len (map without_first groups)) groups lengths
    (first_inserted_is groups counts differ apart.0) (first_deleted_is groups differ)
    (all_said len (map without_first groups) (all_rest (HasLengths (suc len)) (HasLengths len) (rest_lengths len) groups lengths)
    (all_rest (λ g. 0 < g.last) (λ g. 0 < g.last) (λ g is. is) groups counts) (differ_rest groups differ) apart.1)

pub groups_said : (s : Settled) → AreSettled s → AllByRecursion (IsSaidIn (settled_history s).characters) s.groups
groups_said s are =
    all_said s.len s.groups are.lengths (all_of (IsEnd (settled_history s).revisions s.floor) (λ g. 0 < g.last) (λ g is. is.counts) s.groups are.ends)
    (lasts_differ (settled_history s).revisions s.floor s.groups are.ends are.rising) are.apart

-- ---- what is true of each character

each_settled : (P : SettledGroup → Type 0) (Q : Tagged → Type 0) → ((g : SettledGroup) → P g → P (without_first g)) →
    ((groups : List SettledGroup) → AllByRecursion P groups → Q (record { character = 0; inserted = first_inserted groups; deleted = first_deleted groups })) →
    (len : ℕ) (groups : List SettledGroup) → AllByRecursion P groups → AllByRecursion Q (settled_characters len groups)
each_settled P Q rest first zero groups all = tt
each_settled P Q rest first (suc len) groups all = (first groups all, each_settled P Q rest first len (map without_first groups) (all_rest P P rest groups all))

all_true : (p : ℕ → Bool) (xs : List ℕ) → list_all p xs ≡ true → AllByRecursion (λ x. p x ≡ true) xs
all_true p [] all = tt
all_true p (x ∷ xs) all = (let parts = and_parts (p x) (list_all p xs) all in (parts.0, all_true p xs parts.1))

deleted_true : (p : ℕ → Bool) (groups : List SettledGroup) → AllByRecursion (λ g. p g.last ≡ true) groups → list_all p (first_deleted groups) ≡ true
deleted_true p [] all = refl
deleted_true p (g ∷ groups) all = by (first_flag g.deleted) (deleted_true p groups all.1)
  where
    by : (gone : Bool) → list_all p (first_deleted groups) ≡ true → list_all p (if gone then with_number (first_deleted groups) g.last else first_deleted groups) ≡ true
    by true rest = all-with_number p (first_deleted groups) g.last ∙ ap₂ (λ a b. a && b) all.0 rest
    by false rest = rest

deleted_rise : (groups : List SettledGroup) → IsRising (first_deleted groups)
deleted_rise [] = tt
deleted_rise (g ∷ groups) = by (first_flag g.deleted) (deleted_rise groups)
  where
    by : (gone : Bool) → IsRising (first_deleted groups) → IsRising (if gone then with_number (first_deleted groups) g.last else first_deleted groups)
    by true rest = IsRising-with (first_deleted groups) g.last rest
    by false rest = rest

inserted_true : (p : ℕ → Bool) (groups : List SettledGroup) → p 0 ≡ true → AllByRecursion (λ g. p g.last ≡ true) groups → p (first_inserted groups) ≡ true
inserted_true p [] start all = start
inserted_true p (g ∷ groups) start all = by (first_flag g.inserted) (inserted_true p groups start all.1)
  where
    by : (new : Bool) → p (first_inserted groups) ≡ true → p (if new then g.last else first_inserted groups) ≡ true
    by true rest = all.0
    by false rest = rest

pub settled_by_edits : (s : Settled) → AreSettled s → AllByRecursion (IsByEdits (settled_history s).revisions) (settled_history s).characters
settled_by_edits s are =
    each_settled (IsLastEdit s) (IsByEdits (settled_history s).revisions) (λ g is. is)
    (λ groups all. record {
      inserted =
          inserted_true (λ rev. rev == 0 || is_edit (revision_at (settled_history s).revisions rev)) groups refl
          (all_of (IsLastEdit s) (λ g. (g.last == 0 || is_edit (revision_at (settled_history s).revisions g.last)) ≡ true)
          (λ g is. or_more (g.last == 0) (is_edit (revision_at (settled_history s).revisions g.last)) is.0) groups all);
      deleted =
          all_true (λ rev. is_edit (revision_at (settled_history s).revisions rev)) (first_deleted groups)
          (deleted_true (λ rev. is_edit (revision_at (settled_history s).revisions rev)) groups
          (all_of (IsLastEdit s) (λ g. is_edit (revision_at (settled_history s).revisions g.last) ≡ true) (λ g is. is.0) groups all));
      rising = deleted_rise groups;
    })
    s.len s.groups (last_edits s are)

pub settled_sound : (s : Settled) → AreSettled s → AllByRecursion (IsTaggedBy s.floor) (settled_history s).characters
settled_sound s are =
    each_settled (IsLastEdit s) (IsTaggedBy s.floor) (λ g is. is)
    (λ groups all.
    let within : AllByRecursion (λ g. nat_le g.last s.floor ≡ true) groups =
    all_of (IsLastEdit s) (λ g. nat_le g.last s.floor ≡ true) (λ g is. le-leb g.last s.floor is.1) groups all in
    record {
      inserted = leb-true (first_inserted groups) s.floor (inserted_true (λ rev. nat_le rev s.floor) groups (le-leb 0 s.floor (omega arith)) within);
      deleted =
          AllByRecursion-weaker (λ rev. nat_le rev s.floor ≡ true) (λ rev. rev ≤ s.floor) (λ rev is. leb-true rev s.floor is) (first_deleted groups)
          (all_true (λ rev. nat_le rev s.floor) (first_deleted groups) (deleted_true (λ rev. nat_le rev s.floor) groups within));
    })
    s.len s.groups (last_edits s are)

pub settled_no_text : (s : Settled) → AllByRecursion (λ tagged. tagged.character ≡ 0) (settled_history s).characters
settled_no_text s = none s.len s.groups
  where
    none : (len : ℕ) (groups : List SettledGroup) → AllByRecursion (λ tagged. tagged.character ≡ 0) (settled_characters len groups)
    none zero groups = tt
    none (suc len) groups = (refl, none len (map without_first groups))

-- ---- what is true of each revision

pub settled_sets : (s : Settled) → HasRisingSet (undo s.undone) → AllByRecursion HasRisingSet (settled_history s).revisions
settled_sets s up = AllByRecursion-map HasRisingSet (said s) (λ rev. by (ending_at s.groups rev)) (range_with_len 1 s.floor)
  where
    by : (found : Option ℕ) → HasRisingSet (settled_said s.undone found)
    by (Some group) = tt
    by None = up

pub settled_open : (s : Settled) → AreSettled s → AllByRecursion (IsOpen s.collected) (settled_history s).revisions
settled_open s are = AllByRecursion-map (IsOpen s.collected) (said s) (λ rev. by rev s.groups are.uncollected) (range_with_len 1 s.floor)
  where
    by : (rev : ℕ) (groups : List SettledGroup) → AllByRecursion (λ g. has s.collected g.group ≡ false) groups → IsOpen s.collected (settled_said s.undone (ending_at groups rev))
    by rev [] free = tt
    by rev (g ∷ groups) free = own (g.last == rev) (by rev groups free.1)
      where
        own : (is : Bool) → IsOpen s.collected (settled_said s.undone (ending_at groups rev)) →
            IsOpen s.collected (settled_said s.undone (if is then Some g.group else ending_at groups rev))
        own true rest = free.0
        own false rest = rest

drop_range : (f : ℕ → Revision) (from n : ℕ) → drop n (map f (range_with_len from n)) ≡ []
drop_range f from zero = refl
drop_range f from (suc n) = drop_range f (from + 1) n

pub settled_clean : (s : Settled) → is_clean (settled_history s).revisions s.floor ≡ true
settled_clean s = ap (list_all (is_based_from s.floor)) (drop_range (said s) 1 s.floor)

-- ---- the first edits

with_some : (rev : ℕ) (groups : List SettledGroup) (group : ℕ) → first_with (Some rev) groups group ≡ Some rev
with_some rev [] group = refl
with_some rev (g ∷ groups) group = with_some rev groups group

-- after a group of a number, or of another one
with_next : (g : SettledGroup) (groups : List SettledGroup) (group : ℕ) (own : Bool) → (g.group == group) ≡ own →
    first_with None (g ∷ groups) group ≡ (if own then Some g.last else first_with None groups group)
with_next g groups group true own =
    ap (λ b. first_with (if b then Some g.last else None) groups group) own ∙ with_some g.last groups group
with_next g groups group false own = ap (λ b. first_with (if b then Some g.last else None) groups group) own

none_said : (undone : List ℕ) (groups : List SettledGroup) (group rev : ℕ) → AllByRecursion (λ g. (g.group == group) ≡ false) groups →
    is_edit_of group (settled_said undone (ending_at groups rev)) ≡ false
none_said undone [] group rev none = refl
none_said undone (g ∷ groups) group rev none = by (g.last == rev) (none_said undone groups group rev none.1)
  where
    by : (own : Bool) → is_edit_of group (settled_said undone (ending_at groups rev)) ≡ false →
        is_edit_of group (settled_said undone (if own then Some g.group else ending_at groups rev)) ≡ false
    by true rest = none.0
    by false rest = rest

-- a group that is not found
not_found : (groups : List SettledGroup) (group : ℕ) → first_with None groups group ≡ None → AllByRecursion (λ g. (g.group == group) ≡ false) groups
not_found [] group none = tt
not_found (g ∷ groups) group none = by (g.group == group) refl (not_found groups group)
  where
    by : (own : Bool) → (g.group == group) ≡ own → (first_with None groups group ≡ None → AllByRecursion (λ o. (o.group == group) ≡ false) groups) →
        AllByRecursion (λ o. (o.group == group) ≡ false) (g ∷ groups)
    by true own rest = absurd (let is = sym (with_next g groups group true own) ∙ none in cc)
    by false own rest = (own, rest (sym (with_next g groups group false own) ∙ none))

-- what is true of each last edit is true of the one that is found
found_holds : (P : ℕ → Type 0) (groups : List SettledGroup) (group first : ℕ) → AllByRecursion (λ g. P g.last) groups → first_with None groups group ≡ Some first → P first
found_holds P [] group first all found = absurd cc
found_holds P (g ∷ groups) group first all found = by (g.group == group) refl (found_holds P groups group first all.1)
  where
    by : (own : Bool) → (g.group == group) ≡ own → (first_with None groups group ≡ Some first → P first) → P first
    by true own rest = (let same : g.last ≡ first = (let is = sym (with_next g groups group true own) ∙ found in cc) in subst P same all.0)
    by false own rest = rest (sym (with_next g groups group false own) ∙ found)

-- and that is the only edit of the group
found_said : (undone : List ℕ) (groups : List SettledGroup) (group first rev : ℕ) → IsRising (map (λ g. g.group) groups) → LastsDiffer groups →
    first_with None groups group ≡ Some first → is_edit_of group (settled_said undone (ending_at groups rev)) ≡ (rev == first)
found_said undone [] group first rev up differ found = absurd cc
found_said undone (g ∷ groups) group first rev up differ found = by (g.group == group) refl (found_said undone groups group first rev up.1 differ.1)
  where
    later : (others : List SettledGroup) → g.group ≡ group → AllByRecursion (λ m. g.group < m) (map (λ o. o.group) others) → AllByRecursion (λ o. (o.group == group) ≡ false) others
    later [] same over = tt
    later (o ∷ others) same over = (ne_eqb o.group group (λ is. omega (arith, is, same, over.0)), later others same over.1)

    by : (own : Bool) → (g.group == group) ≡ own → (first_with None groups group ≡ Some first → is_edit_of group (settled_said undone (ending_at groups rev)) ≡ (rev == first)) →
        is_edit_of group (settled_said undone (ending_at (g ∷ groups) rev)) ≡ (rev == first)
    by true own before = at (g.last == rev) refl
      where
        same : g.last ≡ first
        same = (let is = sym (with_next g groups group true own) ∙ found in cc)

        at : (here : Bool) → (g.last == rev) ≡ here → is_edit_of group (settled_said undone (if here then Some g.group else ending_at groups rev)) ≡ (rev == first)
        at true here = own ∙ sym (eq-eqb rev first (sym (eqb-true g.last rev here) ∙ same))
        at false here =
            none_said undone groups group rev (later groups (eqb-true g.group group own) up.0) ∙ sym (ap (λ n. rev == n) (sym same) ∙ eqb-sym rev g.last ∙ here)
    by false own before = at (g.last == rev) refl
      where
        rest : first_with None groups group ≡ Some first
        rest = sym (with_next g groups group false own) ∙ found

        at : (here : Bool) → (g.last == rev) ≡ here → is_edit_of group (settled_said undone (if here then Some g.group else ending_at groups rev)) ≡ (rev == first)
        at true here =
            own ∙ sym (ap (λ n. n == first) (sym (eqb-true g.last rev here)) ∙ eqb-sym g.last first ∙
            found_holds (λ n. (n == g.last) ≡ false) groups group first differ.0 rest)
        at false here = before rest

any_one : (q : Revision → Bool) (f : ℕ → Revision) (first from n rev : ℕ) → ((k : ℕ) → q (f k) ≡ (k == first)) → from ≤ first → first < from + n →
    list_any q (take rev (map f (range_with_len from n))) ≡ nat_lt first (from + rev)
any_one q f first from zero rev is low high = absurd (omega (arith, low, high))
any_one q f first from (suc n) zero is low high = below first (from + 0) (omega (arith, low))
  where
    below : (a b : ℕ) → b ≤ a → false ≡ nat_lt a b
    below a b le = grind (arith, nat_tests)
any_one q f first from (suc n) (suc rev) is low high = ap (λ b. b || list_any q (take rev (map f (range_with_len (from + 1) n)))) (is from) ∙
    by (from == first) refl (any_one q f first (from + 1) n rev is)
  where
    below : (a b : ℕ) → a < b → nat_lt a b ≡ true
    below a b lt = grind (arith, nat_tests)

    apart : (a b : ℕ) → (a == b) ≡ false → a ≤ b → a + 1 ≤ b
    apart a b is le = grind (arith, nat_tests)

    by : (here : Bool) → (from == first) ≡ here →
        (from + 1 ≤ first → first < from + 1 + n → list_any q (take rev (map f (range_with_len (from + 1) n))) ≡ nat_lt first (from + 1 + rev)) →
        (here || list_any q (take rev (map f (range_with_len (from + 1) n)))) ≡ nat_lt first (from + suc rev)
    by true here rest = (let same : from ≡ first = eqb-true from first here in sym (below first (from + suc rev) (omega (arith, same))))
    by false here rest =
        rest (apart from first here low) (omega (arith, high)) ∙
        (let same : from + 1 + rev ≡ from + suc rev = omega arith in ap (nat_lt first) same)

none_any : (q : Revision → Bool) (f : ℕ → Revision) (from n rev : ℕ) → ((k : ℕ) → q (f k) ≡ false) → list_any q (take rev (map f (range_with_len from n))) ≡ false
none_any q f from zero zero is = refl
none_any q f from zero (suc rev) is = refl
none_any q f from (suc n) zero is = refl
none_any q f from (suc n) (suc rev) is = ap₂ (λ a b. a || b) (is from) (none_any q f (from + 1) n rev is)

pub IsFirstEdit-settled : (s : Settled) (group : ℕ) → AreSettled s → IsFirstEdit (settled_history s).revisions group (first_with (rev_of (0 ∷ []) (0 ∷ []) group) s.groups group)
IsFirstEdit-settled s group are = by (0 == group) refl
  where
    differ : LastsDiffer s.groups
    differ = lasts_differ (settled_history s).revisions s.floor s.groups are.ends are.rising

    lt_le : (a b : ℕ) → nat_lt a (1 + b) ≡ nat_le a b
    lt_le a b = grind (arith, nat_tests)

    edited : (found : Option ℕ) → (group == 0) ≡ false → first_with None s.groups group ≡ found → IsFirstEdit (settled_history s).revisions group found
    edited (Some first) other found = λ rev.
        ap (λ b. b || list_any (is_edit_of group) (take rev (settled_history s).revisions)) other ∙
        any_one (is_edit_of group) (said s) first 1 s.floor rev (λ k. found_said s.undone s.groups group first k are.rising differ found) (bounds found).0 (bounds found).1 ∙ lt_le first rev
      where
        bounds : first_with None s.groups group ≡ Some first → (1 ≤ first) × (first < 1 + s.floor)
        bounds found =
            found_holds (λ n. (1 ≤ n) × (n < 1 + s.floor)) s.groups group first
            (all_of (IsEnd (settled_history s).revisions s.floor) (λ g. (1 ≤ g.last) × (g.last < 1 + s.floor)) (λ g is. (omega (arith, is.counts), omega (arith, is.within))) s.groups are.ends) found
    edited None other found = λ rev.
        ap (λ b. b || list_any (is_edit_of group) (take rev (settled_history s).revisions)) other ∙
        none_any (is_edit_of group) (said s) 1 s.floor rev (λ k. none_said s.undone s.groups group k (not_found s.groups group found))

    by : (loaded : Bool) → (0 == group) ≡ loaded → IsFirstEdit (settled_history s).revisions group (first_with (if loaded then Some 0 else None) s.groups group)
    by true is =
        subst (IsFirstEdit (settled_history s).revisions group) (sym (with_some 0 s.groups group))
        (λ rev. ap (λ b. b || list_any (is_edit_of group) (take rev (settled_history s).revisions)) (eq-eqb group 0 (sym (eqb-true 0 group is))) ∙ sym (le-leb 0 rev (omega arith)))
    by false is = edited (first_with None s.groups group) (eqb-sym group 0 ∙ is) refl
