-- Laws for the layers above: journals.
use Rattle.std.proofs.Common.{◌≡◌, ℕ, Bool, true, false, List, [], ◌∷◌, ◌++◌, refl, ap, ◌∙◌, arith}
use Rattle.std.proofs.lemmas.Bool.Decides.{nat_tests}
use Rattle.std.specs.Prelude.{◌==◌, ◌&&◌, nat_le, if◌then◌else◌}
use Rattle.xi_plain.specs.declared.entry.Entry.{Entry}
use Rattle.xi_plain.specs.Journal.{may_follow, front_entries, IsOrdered}

first_of : (a b : Bool) → a && b ≡ true → a ≡ true
first_of true b is = refl
first_of false b is = absurd cc

second_of : (a b : Bool) → a && b ≡ true → b ≡ true
second_of true b is = is
second_of false b is = absurd cc

at_most_none : (n : ℕ) → nat_le n 0 ≡ true → (n == 0) ≡ true
at_most_none n is = grind (arith, nat_tests, is)

-- where there are no plugins, all entries are the front end's
pub front_entries-alone : (entries rest : List Entry) → IsOrdered 0 (entries ++ rest) → front_entries entries ≡ entries
front_entries-alone [] rest ordered = refl
front_entries-alone (entry ∷ entries) rest ordered =
    let front : (entry.caller == 0) ≡ true = at_most_none entry.caller (first_of (nat_le entry.caller 0) _ ordered) in
    let later = second_of (may_follow entry (entries ++ rest)) _ (second_of (nat_le entry.caller 0) _ ordered) in
    ap (λ is. if is then entry ∷ front_entries entries else front_entries entries) front ∙
    ap (λ tail. entry ∷ tail) (front_entries-alone entries rest later)
