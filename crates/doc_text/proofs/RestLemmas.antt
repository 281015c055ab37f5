-- At the head: it is clean, and each group is at rest there.
use Rattle.std.proofs.Common.{◌≡◌, ℕ, ◌≤◌, true, List, length, ap, arith}
use Rattle.std.specs.List.{list_all, list_any}
use Rattle.std.proofs.Math.Seq.{drop-length}
use Rattle.plain_text.specs.Numbers.{has}
use Rattle.plain_edits.specs.Collection.{clean_floor, is_at_rest, is_based_from, is_clean}
use Rattle.plain_edits.specs.Edits.{is_edit_of}
use Rattle.plain_edits.specs.History.{History, Revision, head, undone}
use Rattle.plain_edits.proofs.callers.CollectionLemmas.{greatest_clean_floor, is_at_rest_iff}

pub clean-head : (revisions : List Revision) → clean_floor revisions (length revisions) ≡ length revisions
clean-head revisions =
    let n = length revisions in
    let is = greatest_clean_floor revisions n in
    let clean : is_clean revisions n ≡ true = ap (list_all (is_based_from n)) (drop-length revisions) in
    let low : n ≤ clean_floor revisions n = is.greatest n (omega arith) clean in
    let high : clean_floor revisions n ≤ n = is.is_within in
    omega (arith, low, high)

pub rests-head : (h : History) (group : ℕ) → is_at_rest h (head h) group ≡ true
rests-head h group =
    (is_at_rest_iff h (head h) group).1 (record {
      is_over = ap (list_any (is_edit_of group)) (drop-length h.revisions);
      is_settled = λ rev low high.
          let here : rev ≡ head h = omega (arith, low, high) in
          ap (λ at. has (undone h.revisions at) group) here;
    })
