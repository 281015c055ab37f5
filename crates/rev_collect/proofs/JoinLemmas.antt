-- All edits, joined by their groups, are the groups of the history.
use Rattle.std.proofs.Common.{◌≡◌, ℕ, zero, suc, ◌<◌, ◌≤◌, Bool, true, false, ◌&&◌, ◌||◌, if◌then◌else◌, ◌==◌, nat_lt, inl, inr, List, [], ◌∷◌, ◌++◌, length, map, refl, ap, ap₂, sym, ◌∙◌, subst, arith}
use Rattle.std.specs.Prelude.{replicate}
use Rattle.std.specs.List.{fold, list_any, AllByRecursion}
use Rattle.std.proofs.lemmas.Bool.{and_from, and_parts, both_ways, cases_eq, eq-eqb, eqb-true, ltb-false, ltb-true, or_left, or_right}
use Rattle.std.proofs.lemmas.Bool.Decides.{nat_tests}
use Rattle.std.proofs.lemmas.List.{append-nil}
use Rattle.std.proofs.lemmas.List.Folds.{list_any-append}
use Rattle.subset_runs.specs.Subset.{union}
use Rattle.plain_text.specs.Numbers.{has, with_number, IsRising}
use Rattle.plain_text.proofs.callers.ListLemmas.{AllByRecursion-append, AllByRecursion-weaker}
use Rattle.plain_text.proofs.callers.NumberLemmas.{has-with_number, IsRising-with}
use Rattle.plain_edits.specs.History.{Tagged, Revision, edit, undo, History, head, revision_at, group_of}
use Rattle.plain_edits.specs.HistorySteps.{is_edit}
use Rattle.collection_laws.specs.Left.{edits_group, last_edit}
use Rattle.collection_laws.proofs.ForCallers.{edits-last_edit, le-last_edit}
use Rattle.rev_list.specs.declared.settled.SettledGroup.{SettledGroup}
use Rattle.rev_list.specs.Kept.{IsOpen}
use Rattle.rev_list.specs.Settled.{HasLengths}
use Rattle.rev_collect.specs.Groups.{IsGroup, AreGroups}
use Rattle.rev_collect.specs.Joined.{numbers_of, blank, later_of, joined, joined_own, with_edit, all_joined}
use Rattle.rev_collect.specs.Present.{IsPresent, AreAllEdits}
use Rattle.rev_collect.proofs.DroppedLemmas.{map_same, none-map, union-map}
use Rattle.rev_collect.proofs.LeftLemmas.{any_gives, any_where, both_true}

pub eqb-sym : (a b : ℕ) → (a == b) ≡ (b == a)
eqb-sym a b = grind (arith, nat_tests)

or_or : (a b c : Bool) → ((a || b) || c) ≡ (a || (b || c))
or_or true b c = refl
or_or false b c = refl

or_none : (a : Bool) → (a || false) ≡ a
or_none true = refl
or_none false = refl

-- ---- the numbers of the groups

has-numbers : (numbers : List ℕ) (edits : List SettledGroup) (n : ℕ) →
    has (fold (λ numbers e. with_number numbers e.group) numbers edits) n ≡ (has numbers n || list_any (λ e. e.group == n) edits)
has-numbers numbers [] n = sym (or_none (has numbers n))
has-numbers numbers (e ∷ edits) n =
    has-numbers (with_number numbers e.group) edits n ∙ ap (λ b. b || list_any (λ e. e.group == n) edits) (has-with_number numbers e.group n) ∙
    moved (e.group == n) (has numbers n) (list_any (λ e. e.group == n) edits)
  where
    moved : (a b c : Bool) → ((a || b) || c) ≡ (b || (a || c))
    moved true true c = refl
    moved true false c = refl
    moved false b c = refl

rising-numbers : (numbers : List ℕ) (edits : List SettledGroup) → IsRising numbers → IsRising (fold (λ numbers e. with_number numbers e.group) numbers edits)
rising-numbers numbers [] up = up
rising-numbers numbers (e ∷ edits) up = rising-numbers (with_number numbers e.group) edits (IsRising-with numbers e.group up)

-- an edit more says a group under its number
pub groups-with_edit : (groups : List SettledGroup) (e : SettledGroup) → map (λ g. g.group) (with_edit groups e) ≡ map (λ g. g.group) groups
groups-with_edit [] e = refl
groups-with_edit (g ∷ groups) e = ap₂ (λ n rest. n ∷ rest) (by (g.group == e.group)) (groups-with_edit groups e)
  where
    by : (own : Bool) → (if own then joined g e else g).group ≡ g.group
    by true = refl
    by false = refl

pub groups-joined : (groups edits : List SettledGroup) → map (λ g. g.group) (fold with_edit groups edits) ≡ map (λ g. g.group) groups
groups-joined groups [] = refl
groups-joined groups (e ∷ edits) = groups-joined (with_edit groups e) edits ∙ groups-with_edit groups e

pub groups-blank : (len : ℕ) (numbers : List ℕ) → map (λ g. g.group) (map (blank len) numbers) ≡ numbers
groups-blank len [] = refl
groups-blank len (n ∷ numbers) = ap (λ rest. n ∷ rest) (groups-blank len numbers)

pub groups-all_joined : (len : ℕ) (edits : List SettledGroup) → map (λ g. g.group) (all_joined len edits) ≡ numbers_of edits
groups-all_joined len edits = groups-joined (map (blank len) (numbers_of edits)) edits ∙ groups-blank len (numbers_of edits)

-- ---- lengths

pub lengths-with_edit : (len : ℕ) (groups : List SettledGroup) (e : SettledGroup) → ((a b : List Bool) → length a ≡ length b → length (union a b) ≡ length a) →
    AllByRecursion (HasLengths len) groups → HasLengths len e → AllByRecursion (HasLengths len) (with_edit groups e)
lengths-with_edit len [] e same lengths own = tt
lengths-with_edit len (g ∷ groups) e same lengths own = (by (g.group == e.group), lengths-with_edit len groups e same lengths.1 own)
  where
    by : (here : Bool) → HasLengths len (if here then joined g e else g)
    by true = record {
      inserted = same g.inserted e.inserted (lengths.0.inserted ∙ sym own.inserted) ∙ lengths.0.inserted;
      deleted = same g.deleted e.deleted (lengths.0.deleted ∙ sym own.deleted) ∙ lengths.0.deleted;
    }
    by false = lengths.0

length-none : (len : ℕ) → length (replicate len false) ≡ len
length-none zero = refl
length-none (suc len) = ap suc (length-none len)

pub blank_lengths : (len : ℕ) (numbers : List ℕ) → AllByRecursion (HasLengths len) (map (blank len) numbers)
blank_lengths len [] = tt
blank_lengths len (n ∷ numbers) = (record { inserted = length-none len; deleted = length-none len }, blank_lengths len numbers)

-- ---- what the edits of a group say together

-- the edit says these characters
record IsIn (characters : List Tagged) (e : SettledGroup) : Type 0 where
  inserted : e.inserted ≡ map (λ t. t.inserted == e.last) characters
  deleted : e.deleted ≡ map (λ t. has t.deleted e.last) characters

-- the group says what some edits of it say together
record IsJoined (characters : List Tagged) (edits : List SettledGroup) (g : SettledGroup) : Type 0 where
  most : AllByRecursion (λ e. (e.group == g.group) ≡ true → e.last ≤ g.last) edits
  own : (g.last == 0 || list_any (λ e. e.group == g.group && e.last == g.last) edits) ≡ true
  inserted : g.inserted ≡ map (λ t. list_any (λ e. e.group == g.group && t.inserted == e.last) edits) characters
  deleted : g.deleted ≡ map (λ t. list_any (λ e. e.group == g.group && has t.deleted e.last) edits) characters

module _ (characters : List Tagged) where
  IsJoined-blank : (n : ℕ) → IsJoined characters [] (blank (length characters) n)
  IsJoined-blank n = record { most = tt; own = refl; inserted = none-map characters; deleted = none-map characters }

  -- one more
  any_more : (p : SettledGroup → Bool) (edits : List SettledGroup) (e : SettledGroup) (b : Bool) → p e ≡ b → list_any p (edits ++ e ∷ []) ≡ (list_any p edits || b)
  any_more p edits e b is = list_any-append p edits (e ∷ []) ∙ ap (λ c. list_any p edits || c) (or_none (p e) ∙ is)

  module _ (edits : List SettledGroup) (e g : SettledGroup) (said : IsIn characters e) (was : IsJoined characters edits g) where
    own_more : (e.group == g.group) ≡ true → IsJoined characters (edits ++ e ∷ []) (joined g e)
    own_more here = record {
      most =
          AllByRecursion-append (λ o. (o.group == g.group) ≡ true → o.last ≤ later_of g.last e.last) edits (e ∷ [])
          (AllByRecursion-weaker (λ o. (o.group == g.group) ≡ true → o.last ≤ g.last) (λ o. (o.group == g.group) ≡ true → o.last ≤ later_of g.last e.last)
          (λ o below is. omega (arith, below is, (at_most (nat_lt g.last e.last) refl).0)) edits was.most)
          (λ is. (at_most (nat_lt g.last e.last) refl).1, tt);
      own = own_now (nat_lt g.last e.last);
      inserted =
          ap₂ union was.inserted said.inserted ∙
          union-map (λ t. list_any (λ o. o.group == g.group && t.inserted == o.last) edits) (λ t. t.inserted == e.last) characters ∙
          map_same (λ t. list_any (λ o. o.group == g.group && t.inserted == o.last) edits || t.inserted == e.last)
          (λ t. list_any (λ o. o.group == g.group && t.inserted == o.last) (edits ++ e ∷ [])) characters
          (λ t. sym (any_more (λ o. o.group == g.group && t.inserted == o.last) edits e (t.inserted == e.last) (ap (λ b. b && t.inserted == e.last) here)));
      deleted =
          ap₂ union was.deleted said.deleted ∙
          union-map (λ t. list_any (λ o. o.group == g.group && has t.deleted o.last) edits) (λ t. has t.deleted e.last) characters ∙
          map_same (λ t. list_any (λ o. o.group == g.group && has t.deleted o.last) edits || has t.deleted e.last)
          (λ t. list_any (λ o. o.group == g.group && has t.deleted o.last) (edits ++ e ∷ [])) characters
          (λ t. sym (any_more (λ o. o.group == g.group && has t.deleted o.last) edits e (has t.deleted e.last) (ap (λ b. b && has t.deleted e.last) here)));
    }
      where
        at_most : (b : Bool) → nat_lt g.last e.last ≡ b → (g.last ≤ (if b then e.last else g.last)) × (e.last ≤ (if b then e.last else g.last))
        at_most true is = (omega (arith, ltb-true g.last e.last is), omega arith)
        at_most false is = (omega arith, omega (arith, ltb-false g.last e.last is))

        or_or_right : (a b c : Bool) → c ≡ true → (a || (b || c)) ≡ true
        or_or_right true b c is = refl
        or_or_right false true c is = refl
        or_or_right false false c is = is

        or_or_left : (a b c : Bool) → (a || b) ≡ true → (a || (b || c)) ≡ true
        or_or_left true b c is = refl
        or_or_left false true c is = refl
        or_or_left false false c is = absurd cc

        own_now : (b : Bool) → ((if b then e.last else g.last) == 0 ||
            list_any (λ o. o.group == g.group && o.last == (if b then e.last else g.last)) (edits ++ e ∷ [])) ≡ true
        own_now true =
            ap (λ b. e.last == 0 || b) (any_more (λ o. o.group == g.group && o.last == e.last) edits e true (and_from (e.group == g.group) (e.last == e.last) here (eq-eqb e.last e.last refl))) ∙
            or_or_right (e.last == 0) (list_any (λ o. o.group == g.group && o.last == e.last) edits) true refl
        own_now false =
            ap (λ b. g.last == 0 || b) (any_more (λ o. o.group == g.group && o.last == g.last) edits e (e.group == g.group && e.last == g.last) refl) ∙
            or_or_left (g.last == 0) (list_any (λ o. o.group == g.group && o.last == g.last) edits) (e.group == g.group && e.last == g.last) was.own

    other_more : (e.group == g.group) ≡ false → IsJoined characters (edits ++ e ∷ []) g
    other_more away = record {
      most =
          AllByRecursion-append (λ o. (o.group == g.group) ≡ true → o.last ≤ g.last) edits (e ∷ []) was.most
          (λ is. absurd (both_ways (e.group == g.group) away is), tt);
      own =
          ap (λ b. g.last == 0 || b) (any_more (λ o. o.group == g.group && o.last == g.last) edits e false (ap (λ b. b && e.last == g.last) away) ∙ or_none _) ∙ was.own;
      inserted =
          was.inserted ∙
          map_same (λ t. list_any (λ o. o.group == g.group && t.inserted == o.last) edits)
          (λ t. list_any (λ o. o.group == g.group && t.inserted == o.last) (edits ++ e ∷ [])) characters
          (λ t. sym (any_more (λ o. o.group == g.group && t.inserted == o.last) edits e false (ap (λ b. b && t.inserted == e.last) away) ∙ or_none _));
      deleted =
          was.deleted ∙
          map_same (λ t. list_any (λ o. o.group == g.group && has t.deleted o.last) edits)
          (λ t. list_any (λ o. o.group == g.group && has t.deleted o.last) (edits ++ e ∷ [])) characters
          (λ t. sym (any_more (λ o. o.group == g.group && has t.deleted o.last) edits e false (ap (λ b. b && has t.deleted e.last) away) ∙ or_none _));
    }

    IsJoined-more : IsJoined characters (edits ++ e ∷ []) (joined_own e g)
    IsJoined-more = by (g.group == e.group) refl
      where
        by : (own : Bool) → (g.group == e.group) ≡ own → IsJoined characters (edits ++ e ∷ []) (if own then joined g e else g)
        by true is = own_more (eqb-sym e.group g.group ∙ is)
        by false is = other_more (eqb-sym e.group g.group ∙ is)

  all_more : (edits : List SettledGroup) (e : SettledGroup) → IsIn characters e → (groups : List SettledGroup) → AllByRecursion (IsJoined characters edits) groups →
      AllByRecursion (IsJoined characters (edits ++ e ∷ [])) (with_edit groups e)
  all_more edits e said [] all = tt
  all_more edits e said (g ∷ groups) all = (IsJoined-more edits e g said all.0, all_more edits e said groups all.1)

  append-one : (edits rest : List SettledGroup) (e : SettledGroup) → (edits ++ e ∷ []) ++ rest ≡ edits ++ e ∷ rest
  append-one [] rest e = refl
  append-one (o ∷ edits) rest e = ap (λ more. o ∷ more) (append-one edits rest e)

  joined_from : (edits rest groups : List SettledGroup) → AllByRecursion (IsIn characters) rest → AllByRecursion (IsJoined characters edits) groups →
      AllByRecursion (IsJoined characters (edits ++ rest)) (fold with_edit groups rest)
  joined_from edits [] groups said all = subst (λ es. AllByRecursion (IsJoined characters es) groups) (sym (append-nil edits)) all
  joined_from edits (e ∷ rest) groups said all =
      subst (λ es. AllByRecursion (IsJoined characters es) (fold with_edit (with_edit groups e) rest)) (append-one edits rest e)
      (joined_from (edits ++ e ∷ []) rest (with_edit groups e) said.1 (all_more edits e said.0 groups all))

  all_blank : (numbers : List ℕ) → AllByRecursion (IsJoined characters []) (map (blank (length characters)) numbers)
  all_blank [] = tt
  all_blank (n ∷ numbers) = (IsJoined-blank n, all_blank numbers)

  all_joined_are : (edits : List SettledGroup) → AllByRecursion (IsIn characters) edits → AllByRecursion (IsJoined characters edits) (all_joined (length characters) edits)
  all_joined_are edits said = joined_from [] edits (map (blank (length characters)) (numbers_of edits)) said (all_blank (numbers_of edits))

-- ---- of all edits of a history

pub any_number : (n : ℕ) (groups : List SettledGroup) → has (map (λ g. g.group) groups) n ≡ list_any (λ g. g.group == n) groups
any_number n [] = refl
any_number n (g ∷ groups) = ap (λ b. g.group == n || b) (any_number n groups)

-- an edit is of no collected group
pub open_at : (collected : List ℕ) (revisions : List Revision) (rev : ℕ) → AllByRecursion (IsOpen collected) revisions → is_edit (revision_at revisions rev) ≡ true →
    has collected (group_of revisions rev) ≡ false
open_at collected revisions zero all edits = absurd cc
open_at collected [] (suc n) all edits = absurd cc
open_at collected (edit base group priority author ∷ revisions) (suc zero) all edits = all.0
open_at collected (undo groups ∷ revisions) (suc zero) all edits = absurd cc
open_at collected (r ∷ revisions) (suc (suc n)) all edits = open_at collected revisions (suc n) all.1 edits

module _ (h : History) (edits : List SettledGroup) (are : AreAllEdits h edits) (free : AllByRecursion (IsOpen h.collected) h.revisions) where
  -- whether the revision is an edit of the group
  abbrev edited : ℕ → ℕ → Bool
  edited group rev = edits_group h.revisions group rev

  edit_said : (e : SettledGroup) (group : ℕ) → IsPresent h e → (e.group == group) ≡ true → edited group e.last ≡ true
  edit_said e group is own =
      and_from (is_edit (revision_at h.revisions e.last)) (group_of h.revisions e.last == group) is.edits
      (ap (λ n. n == group) is.group ∙ own)

  -- the edits of a group that say a revision
  any_is_edit : (group rev : ℕ) → list_any (λ e. e.group == group && rev == e.last) edits ≡ edited group rev
  any_is_edit group rev =
      both_true (list_any (λ e. e.group == group && rev == e.last) edits) (edited group rev)
      (λ some. any_gives (IsPresent h) (edited group rev ≡ true) (λ e. e.group == group && rev == e.last) edits are.each
      (λ e is both.
      let parts = and_parts (e.group == group) (rev == e.last) both in
      ap (edited group) (eqb-true rev e.last parts.1) ∙ edit_said e group is parts.0) some)
      (λ is.
      let parts = and_parts (is_edit (revision_at h.revisions rev)) (group_of h.revisions rev == group) is in
      any_where (IsPresent h) (λ e. e.last == rev) (λ e. e.group == group && rev == e.last) edits are.each
      (λ e one here.
      let same : e.last ≡ rev = eqb-true e.last rev here in
      and_from (e.group == group) (rev == e.last) (ap (λ n. n == group) (sym one.group ∙ ap (group_of h.revisions) same) ∙ parts.1) (eq-eqb rev e.last (sym same)))
      (are.all rev parts.0))

  -- and those that say one of some revisions
  any_are_edits : (group : ℕ) (revs : List ℕ) → list_any (λ e. e.group == group && has revs e.last) edits ≡ list_any (edited group) revs
  any_are_edits group [] = nothing edits
    where
      and_false : (a : Bool) → (a && false) ≡ false
      and_false true = refl
      and_false false = refl

      nothing : (es : List SettledGroup) → list_any (λ e. e.group == group && has [] e.last) es ≡ false
      nothing [] = refl
      nothing (e ∷ es) = ap₂ (λ a b. a || b) (and_false (e.group == group)) (nothing es)
  any_are_edits group (rev ∷ revs) = apart edits ∙ ap₂ (λ a b. a || b) (any_is_edit group rev) (any_are_edits group revs)
    where
      spread : (a b c x y : Bool) → ((a && (b || c)) || (x || y)) ≡ (((a && b) || x) || ((a && c) || y))
      spread true true c x y = refl
      spread true false true true y = refl
      spread true false true false y = refl
      spread true false false x y = or_or false x y
      spread false b c x y = refl

      apart : (es : List SettledGroup) → list_any (λ e. e.group == group && has (rev ∷ revs) e.last) es ≡
          (list_any (λ e. e.group == group && rev == e.last) es || list_any (λ e. e.group == group && has revs e.last) es)
      apart [] = refl
      apart (e ∷ es) =
          ap (λ b. (e.group == group && (rev == e.last || has revs e.last)) || b) (apart es) ∙
          spread (e.group == group) (rev == e.last) (has revs e.last) (list_any (λ e. e.group == group && rev == e.last) es)
          (list_any (λ e. e.group == group && has revs e.last) es)

  -- the last edit of the group
  low : (g : SettledGroup) → (g.last == 0 || list_any (λ e. e.group == g.group && e.last == g.last) edits) ≡ true → g.last ≤ last_edit h.revisions g.group (head h)
  low g own = by (g.last == 0) refl own
    where
      by : (none : Bool) → (g.last == 0) ≡ none → (none || list_any (λ e. e.group == g.group && e.last == g.last) edits) ≡ true → g.last ≤ last_edit h.revisions g.group (head h)
      by true none some = omega (arith, eqb-true g.last 0 none)
      by false none some =
          any_gives (IsPresent h) (g.last ≤ last_edit h.revisions g.group (head h)) (λ e. e.group == g.group && e.last == g.last) edits are.each
          (λ e is both.
          let parts = and_parts (e.group == g.group) (e.last == g.last) both in
          let same : e.last ≡ g.last = eqb-true e.last g.last parts.1 in
          omega (arith, same, le-last_edit h.revisions g.group e.last (head h) (edit_said e g.group is parts.0) is.known)) some

  most_of : (group n : ℕ) (es : List SettledGroup) → AllByRecursion (λ e. (e.group == group) ≡ true → e.last ≤ n) es → (rev : ℕ) →
      list_any (λ e. e.group == group && rev == e.last) es ≡ true → rev ≤ n
  most_of group n es most rev some =
      any_gives (λ e. (e.group == group) ≡ true → e.last ≤ n) (rev ≤ n) (λ e. e.group == group && rev == e.last) es most
      (λ e below both.
      let parts = and_parts (e.group == group) (rev == e.last) both in
      omega (arith, eqb-true rev e.last parts.1, below parts.0)) some

  high : (g : SettledGroup) → AllByRecursion (λ e. (e.group == g.group) ≡ true → e.last ≤ g.last) edits → last_edit h.revisions g.group (head h) ≤ g.last
  high g most =
      let last = last_edit h.revisions g.group (head h) in
      elim (cases_eq last 0) [
        | inl none ↦ omega (arith, none)
        | inr some ↦
            most_of g.group g.last edits most last
            (any_is_edit g.group last ∙ edits-last_edit h.revisions g.group (head h) (omega (arith, some)))
      ]

  -- an edit of the group of which the group is
  record IsOwn (g : SettledGroup) : Type 0 where
    kept : has h.collected g.group ≡ false
    counts : 0 < g.last

  own_is : (g : SettledGroup) → AllByRecursion (λ e. (e.group == g.group) ≡ true → e.last ≤ g.last) edits → list_any (λ e. e.group == g.group) edits ≡ true → IsOwn g
  own_is g most some =
      any_gives (λ e. IsPresent h e × ((e.group == g.group) ≡ true → e.last ≤ g.last)) (IsOwn g) (λ e. e.group == g.group) edits (both edits are.each most)
      (λ e is own.
      let same : group_of h.revisions e.last ≡ g.group = is.0.group ∙ eqb-true e.group g.group own in
      record {
        kept = ap (has h.collected) (sym same) ∙ open_at h.collected h.revisions e.last free is.0.edits;
        counts = omega (arith, is.1 own, some_rev e.last is.0.edits);
      }) some
    where
      both : (es : List SettledGroup) → AllByRecursion (IsPresent h) es → AllByRecursion (λ e. (e.group == g.group) ≡ true → e.last ≤ g.last) es →
          AllByRecursion (λ e. IsPresent h e × ((e.group == g.group) ≡ true → e.last ≤ g.last)) es
      both [] each most = tt
      both (e ∷ es) each most = ((each.0, most.0), both es each.1 most.1)

      some_rev : (rev : ℕ) → is_edit (revision_at h.revisions rev) ≡ true → 0 < rev
      some_rev zero edits = absurd cc
      some_rev (suc n) edits = omega arith

  group_is : (g : SettledGroup) → IsJoined h.characters edits g → list_any (λ e. e.group == g.group) edits ≡ true → IsGroup h h.characters g
  group_is g is some =
      let own = own_is g is.most some in
      record {
        kept = own.kept;
        counts = own.counts;
        last = omega (arith, low g is.own, high g is.most);
        inserted =
            is.inserted ∙
            map_same (λ t. list_any (λ e. e.group == g.group && t.inserted == e.last) edits) (λ t. edited g.group t.inserted) h.characters
            (λ t. any_is_edit g.group t.inserted);
        deleted =
            is.deleted ∙
            map_same (λ t. list_any (λ e. e.group == g.group && has t.deleted e.last) edits) (λ t. list_any (edited g.group) t.deleted) h.characters
            (λ t. any_are_edits g.group t.deleted);
      }

  all_groups : (groups : List SettledGroup) → AllByRecursion (IsJoined h.characters edits) groups →
      ((n : ℕ) → has (map (λ g. g.group) groups) n ≡ true → list_any (λ e. e.group == n) edits ≡ true) → AllByRecursion (IsGroup h h.characters) groups
  all_groups [] all there = tt
  all_groups (g ∷ groups) all there = (
    group_is g all.0 (there g.group (or_left (g.group == g.group) (has (map (λ g. g.group) groups) g.group) (eq-eqb g.group g.group refl))),
    all_groups groups all.1 (λ n is. there n (or_right (g.group == n) (has (map (λ g. g.group) groups) n) is)),
  )

  all_said : (es : List SettledGroup) → AllByRecursion (IsPresent h) es → AllByRecursion (IsIn h.characters) es
  all_said [] each = tt
  all_said (e ∷ es) each = (record { inserted = each.0.inserted; deleted = each.0.deleted }, all_said es each.1)

  pub groups_are : AreGroups h h.characters (all_joined (length h.characters) edits)
  groups_are =
      let groups = all_joined (length h.characters) edits in
      let numbers : map (λ g. g.group) groups ≡ numbers_of edits = groups-all_joined (length h.characters) edits in
      record {
        each =
            all_groups groups (all_joined_are h.characters edits (all_said edits are.each))
            (λ n is. sym (has-numbers [] edits n) ∙ ap (λ xs. has xs n) (sym numbers) ∙ is);
        all = λ rev edit kept.
            sym (any_number (group_of h.revisions rev) groups) ∙ ap (λ xs. has xs (group_of h.revisions rev)) numbers ∙
            has-numbers [] edits (group_of h.revisions rev) ∙
            any_where (IsPresent h) (λ e. e.last == rev) (λ e. e.group == group_of h.revisions rev) edits are.each
            (λ e is here.
            eq-eqb e.group (group_of h.revisions rev) (sym is.group ∙ ap (group_of h.revisions) (eqb-true e.last rev here)))
            (are.all rev edit);
      }

  pub groups_rise : IsRising (map (λ g. g.group) (all_joined (length h.characters) edits))
  groups_rise = rw (groups-all_joined (length h.characters) edits) (rising-numbers [] edits tt)
