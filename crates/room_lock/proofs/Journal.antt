-- What the views say of the journal, after each step of a seat.
use Rattle.std.proofs.Common.{◌≡◌, ◌≢◌, ℕ, Bool, true, false, true≢false, List, [], ◌∷◌, ◌++◌, set, refl, sym, ap, ◌∙◌, subst, ⊎_elim, arith, length-set, append_assoc, append-nil, cond, eqb, ne_eqb, eq-eqb}
use Rattle.std.specs.List.{AllByRecursion}
use Rattle.std.proofs.lemmas.List.Elements.{filter-append}
use mathlib.Core.Option.{some, some-injective}
use lib.ListN.{get_elem?}
use Rattle.atomic_table.proofs.Lists.{at_set, set_else}
use Rattle.xi_plain.specs.declared.entry.Entry.{Entry}
use Rattle.xi_plain.specs.Journal.{entries_of}
use Rattle.xi_plain.specs.Room.{Begins}
use Rattle.room_lock.specs.declared.view.Parted.{Parted}
use Rattle.room_lock.specs.declared.view.View.{View}
use Rattle.room_lock.specs.Inner.{has_turn, is_spent, IsSpentAt, Agrees, IsParted, IsTrue, IsJournal}
use Rattle.room_lock.proofs.Queue.{at_short}

pub entries_of-append : (caller : ℕ) (xs ys : List Entry) → entries_of caller (xs ++ ys) ≡ entries_of caller xs ++ entries_of caller ys
entries_of-append caller xs ys = filter-append (λ (e : Entry). eqb e.caller caller) xs ys

-- the entry of a caller is of it alone
pub entries_of-mine : (caller : ℕ) (e : Entry) → e.caller ≡ caller → entries_of caller (e ∷ []) ≡ e ∷ []
entries_of-mine caller e is = ap (λ b. cond b (e ∷ []) []) (eq-eqb e.caller caller is)

pub entries_of-other : (caller : ℕ) (e : Entry) → e.caller ≢ caller → entries_of caller (e ∷ []) ≡ []
entries_of-other caller e other = ap (λ b. cond b (e ∷ []) []) (ne_eqb e.caller caller other)

pub begins_same : (xs : List Entry) → Begins xs xs
begins_same xs = ([], sym (append-nil xs))

pub begins_on : (xs ys zs : List Entry) → Begins xs ys → Begins ys zs → Begins xs zs
begins_on xs ys zs a b = (a.0 ++ b.0, b.1 ∙ (ap (λ l. l ++ b.0) a.1 ∙ append_assoc xs a.0 b.0))

-- the beginning of a list with no entry of the caller has none
pub begins_none : (caller : ℕ) (xs ys : List Entry) → Begins xs ys → entries_of caller ys ≡ [] → entries_of caller xs ≡ []
begins_none caller xs ys b none = first_nil (entries_of caller xs) (entries_of caller b.0) (sym (entries_of-append caller xs b.0) ∙ (ap (entries_of caller) (sym b.1) ∙ none))
  where
    first_nil : (us ws : List Entry) → us ++ ws ≡ [] → us ≡ []
    first_nil [] ws e = refl
    first_nil (u ∷ us) ws e = absurd (cc)

pub agrees_same : (caller : ℕ) (journal : List Entry) → Agrees journal caller journal
agrees_same caller journal = (begins_same journal, refl)

agrees_on : (old new : List Entry) (caller : ℕ) (seen : List Entry) → Begins old new → entries_of caller new ≡ entries_of caller old → Agrees old caller seen → Agrees new caller seen
agrees_on old new caller seen longer same a = (begins_on seen old new a.0 longer, same ∙ a.1)

pub no_both : (b : Bool) → b ≡ true → b ≡ false → ⊥
no_both b t f = true≢false (sym t ∙ f)

-- a spent seat is another than one that lives
other_than : (views : List View) (id : ℕ) (v : View) → get_elem? views id ≡ some v → is_spent v.stage ≡ false → (k : ℕ) → IsSpentAt views k → k ≢ id
other_than views id v at live k s same =
    no_both (is_spent v.stage)
    (subst (λ (u : View). is_spent u.stage ≡ true) (some-injective s.0 v (sym s.1 ∙ (ap (λ (n : ℕ). get_elem? views n) same ∙ at))) s.2)
    live

pub spent_set : (views : List View) (id : ℕ) (v w : View) → get_elem? views id ≡ some v → is_spent v.stage ≡ false → (k : ℕ) → IsSpentAt views k → IsSpentAt (set views id w) k
spent_set views id v w at live k s = (s.0, set_else views id k w (other_than views id v at live k s) ∙ s.1, s.2)

pub all_on : {A : Type 0} (P Q : A → Type 0) (xs : List A) → ((x : A) → P x → Q x) → AllByRecursion P xs → AllByRecursion Q xs
all_on P Q [] f a = tt
all_on P Q (x ∷ xs) f a = (f x a.0, all_on P Q xs f a.1)

pub all_append : {A : Type 0} (P : A → Type 0) (xs : List A) (x : A) → AllByRecursion P xs → P x → AllByRecursion P (xs ++ x ∷ [])
all_append P [] x a p = (p, tt)
all_append P (y ∷ ys) x a p = (a.0, all_append P ys x a.1 p)

-- what is known of those who were joined away stays so, while a seat that lives steps
pub joined_on : (old new : List Entry) (views : List View) (id : ℕ) (v w : View) → get_elem? views id ≡ some v → is_spent v.stage ≡ false → Begins old new
    → ((k : ℕ) → k ≢ id → entries_of k new ≡ entries_of k old) → (ps : List Parted) → AllByRecursion (IsParted old views) ps
    → AllByRecursion (IsParted new (set views id w)) ps
joined_on old new views id v w at live longer same ps =
    all_on (IsParted old views) (IsParted new (set views id w)) ps
    (λ p a. (agrees_on old new p.caller p.seen longer (same p.caller (other_than views id v at live p.caller a.1)) a.0, spent_set views id v w at live p.caller a.1))

-- a seat that lives stepped
pub journal_set : (old new : List Entry) (views : List View) (id : ℕ) (v w : View) → IsJournal old views → get_elem? views id ≡ some v → is_spent v.stage ≡ false
    → Begins old new → ((k : ℕ) → k ≢ id → entries_of k new ≡ entries_of k old)
    → ((seat : ℕ) (u : View) → seat ≢ id → get_elem? views seat ≡ some u → has_turn u.stage ≡ true → old ≡ new)
    → (is_spent w.stage ≡ false → IsTrue new (set views id w) id w) → IsJournal new (set views id w)
journal_set old new views id v w j at live longer same turns mine = record {
  each = λ seat u e alive.
      ⊎_elim
      (λ (x : (seat ≡ id) × (w ≡ u)). subst (λ (y : ℕ × View). is_spent y.1.stage ≡ false → IsTrue new (set views id w) y.0 y.1) (λ i. (sym x.0 i, x.1 i)) mine alive)
      (λ (x : (seat ≢ id) × (get_elem? views seat ≡ some u)). let t = j.each seat u x.1 alive in record {
        caller = t.caller;
        seen = agrees_on old new seat u.seen longer (same seat x.0) t.seen;
        whole = λ turn. t.whole turn ∙ turns seat u x.0 x.1 turn;
        made = λ zero_seat. t.made zero_seat ∙ sym (length-set views id w);
        joined = joined_on old new views id v w at live longer same u.joined t.joined;
      })
      (at_set views id seat w u e);
  unborn = λ k above.
      let here = at_short views id v at in
      let len = length-set views id w in
      let apart : k ≢ id = (λ e. omega arith) in
      same k apart ∙ j.unborn k (omega arith);
}

-- and the journal is the same
pub journal_same : (journal : List Entry) (views : List View) (id : ℕ) (v w : View) → IsJournal journal views → get_elem? views id ≡ some v → is_spent v.stage ≡ false
    → (is_spent w.stage ≡ false → IsTrue journal (set views id w) id w) → IsJournal journal (set views id w)
journal_same journal views id v w j at live mine =
    journal_set journal journal views id v w j at live (begins_same journal) (λ k other. refl) (λ seat u other e turn. refl) mine

pub joined_same : (journal : List Entry) (views : List View) (id : ℕ) (v w : View) → get_elem? views id ≡ some v → is_spent v.stage ≡ false → (ps : List Parted)
    → AllByRecursion (IsParted journal views) ps → AllByRecursion (IsParted journal (set views id w)) ps
joined_same journal views id v w at live = joined_on journal journal views id v w at live (begins_same journal) (λ k other. refl)

-- what a view says is so of another that says as much
pub true_same : (journal : List Entry) (views : List View) (id : ℕ) (v w : View) → get_elem? views id ≡ some v → is_spent v.stage ≡ false → IsTrue journal views id v
    → w.caller ≡ v.caller → Agrees journal id w.seen → (has_turn w.stage ≡ true → w.seen ≡ journal) → w.made ≡ v.made → w.joined ≡ v.joined
    → IsTrue journal (set views id w) id w
true_same journal views id v w at live t caller seen whole made joined = record {
  caller = caller ∙ t.caller;
  seen = seen;
  whole = whole;
  made = λ zero_seat. made ∙ (t.made zero_seat ∙ sym (length-set views id w));
  joined = subst (AllByRecursion (IsParted journal (set views id w))) (sym joined) (joined_same journal views id v w at live v.joined t.joined);
}
