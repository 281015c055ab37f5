-- Where the object is, after each step of a seat.
use Rattle.std.proofs.Common.{◌≡◌, ◌≢◌, ◌⊎◌, ℕ, true, false, List, set, Option, sym, ap, ◌∙◌, subst, ⊎_elim, inl, inr}
use mathlib.Core.Option.{some, some-injective}
use lib.ListN.{get_elem?}
use Rattle.atomic_table.specs.Table.{State}
use Rattle.atomic_table.proofs.Lists.{at_set, set_else}
use Rattle.xi_plain.specs.declared.entry.Entry.{Entry}
use Rattle.room_lock.specs.declared.view.View.{View}
use Rattle.room_lock.specs.Inner.{has_turn, AtHome, IsOut}
use Rattle.room_lock.proofs.Journal.{no_both}

abbrev pub with_view : {O : Type 0} → State (Option O) View → List ℕ → ℕ → View → State (Option O) View
with_view s words id w = record { words = words; homes = s.homes; views = set s.views id w }

-- no view has the turn, after one that does not was set
pub none_set : (views : List View) (id : ℕ) (w : View) → has_turn w.stage ≡ false
    → ((seat : ℕ) (u : View) → seat ≢ id → get_elem? views seat ≡ some u → has_turn u.stage ≡ false)
    → (seat : ℕ) (u : View) → get_elem? (set views id w) seat ≡ some u → has_turn u.stage ≡ false
none_set views id w mine others seat u e =
    ⊎_elim
    (λ (x : (seat ≡ id) × (w ≡ u)). subst (λ (y : View). has_turn y.stage ≡ false) x.1 mine)
    (λ (x : (seat ≢ id) × (get_elem? views seat ≡ some u)). others seat u x.0 x.1)
    (at_set views id seat w u e)

module _ {O : Type 0} (journal_of : O → List Entry) (grown : O → O → Type 0) (first : O) (journal : List Entry) where
  -- a seat stepped that has the turn neither before nor after
  pub shelf_set : (s : State (Option O) View) (words : List ℕ) (id : ℕ) (v w : View) → get_elem? s.views id ≡ some v → has_turn v.stage ≡ false → has_turn w.stage ≡ false
      → AtHome journal_of grown first journal s ⊎ IsOut s
      → AtHome journal_of grown first journal (with_view s words id w) ⊎ IsOut (with_view s words id w)
  shelf_set s words id v w at none_before still shelf =
      ⊎_elim
      (λ (h : AtHome journal_of grown first journal s). inl (record { object = h.object; home = h.home; keeps = h.keeps; grows = h.grows; none_has = none_set s.views id w still (λ seat u other e. h.none_has seat u e) }))
      (λ (o : IsOut s). inr (record { home = o.home; seat = o.seat; view = o.view; there = set_else s.views id o.seat w (apart o) ∙ o.there; turn = o.turn }))
      shelf
    where
      apart : (o : IsOut s) → o.seat ≢ id
      apart o same = no_both (has_turn v.stage) (subst (λ (u : View). has_turn u.stage ≡ true) (some-injective o.view v (sym o.there ∙ (ap (λ (n : ℕ). get_elem? s.views n) same ∙ at))) o.turn) none_before
