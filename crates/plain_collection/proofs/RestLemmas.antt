-- Whether a group is settled, one revision after the other.
use Rattle.std.proofs.Common.{◌≡◌, ℕ, suc, ◌+◌, ◌-◌, ◌<◌, ◌≤◌, ◌↔◌, Bool, true, false, ◌&&◌, refl, ap, sym, ◌∙◌, inl, inr, arith}
use Rattle.std.proofs.lemmas.Bool.{cases_eq}
use Rattle.std.specs.Prelude.{IsTrue}
use Rattle.std.specs.List.{list_all, range_with_len}
use Rattle.plain_text.specs.Numbers.{has}
use Rattle.plain_edits.specs.History.{History, head, undone}
use Rattle.plain_edits.specs.Collection.{agrees, is_at_rest, IsAtRest}
use Rattle.plain_edits.proofs.callers.CollectionLemmas.{is_at_rest_iff}
use Rattle.plain_collection.specs.Inner.{is_as_at_head, settled_from}

agrees-itself : (truth : Bool) → agrees truth truth ≡ true
agrees-itself true = refl
agrees-itself false = refl

-- at a revision before the head it is so there, and from the next one on
pub settled_split : (history : History) (group rev : ℕ) → rev < head history →
    settled_from history group rev ≡ (is_as_at_head history group rev && settled_from history group (rev + 1))
settled_split history group rev below =
    let more : head history + 1 - rev ≡ suc (head history - rev) = omega (arith, below) in
    let rest : head history - rev ≡ head history + 1 - (rev + 1) = omega (arith, below) in
    ap (λ n. list_all (is_as_at_head history group) (range_with_len rev n)) more ∙
    ap (λ n. is_as_at_head history group rev && list_all (is_as_at_head history group) (range_with_len (rev + 1) n)) rest

-- at the head and above it is so
pub settled_end : (history : History) (group rev : ℕ) → head history ≤ rev → settled_from history group rev ≡ true
settled_end history group rev above =
    elim (cases_eq rev (head history)) [
      | inl here ↦
          (let one : head history + 1 - rev ≡ 1 = omega (arith, here) in
          ap (λ n. list_all (is_as_at_head history group) (range_with_len rev n)) one ∙
          ap (λ at. is_as_at_head history group at && true) here ∙
          ap (λ truth. truth && true) (agrees-itself (has (undone history.revisions (head history)) group)))
      | inr other ↦
          (let differs : rev ≡ head history → ⊥ = other in
          let none : head history + 1 - rev ≡ 0 = omega (arith, above) in
          ap (λ n. list_all (is_as_at_head history group) (range_with_len rev n)) none)
    ]

-- so from the next revision on, where it is so at this one
pub settled_next : (history : History) (group rev : ℕ) → rev < head history → is_as_at_head history group rev ≡ true →
    settled_from history group (rev + 1) ≡ settled_from history group rev
settled_next history group rev below is =
    sym (settled_split history group rev below ∙ ap (λ truth. truth && settled_from history group (rev + 1)) is)

-- and not from a revision on at which it is not so
pub settled_not : (history : History) (group rev : ℕ) → rev < head history → is_as_at_head history group rev ≡ false →
    settled_from history group rev ≡ false
settled_not history group rev below is =
    settled_split history group rev below ∙ ap (λ truth. truth && settled_from history group (rev + 1)) is

-- what the test says
pub tested : (history : History) (floor group : ℕ) (result : Bool) → result ≡ is_at_rest history floor group →
    IsTrue result ↔ IsAtRest history floor group
tested history floor group result is =
    let iff = is_at_rest_iff history floor group in
    (λ yes. iff.0 (sym is ∙ yes), λ rest. is ∙ iff.1 rest)
