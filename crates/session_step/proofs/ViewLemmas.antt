-- Lemmas on the views that are open: which one an id finds, and that no two have one id.
use Rattle.std.proofs.Common.{◌≡◌, ℕ, ◌+◌, ◌-◌, ◌<◌, ◌≤◌, arith, Bool, true, false, List, [], ◌∷◌, ◌++◌, Some, not, refl, sym, ◌∙◌, subst}
use Rattle.std.specs.Prelude.{if◌then◌else◌, ◌^◌, ⊤}
use Rattle.std.specs.List.{AllByRecursion}
use Rattle.std.specs.Str.{bytes_eq, encode_utf8_all}
use Rattle.std.proofs.lemmas.Slice.Eq.{bytes_eq-Decides}
use Rattle.std.proofs.lemmas.Str.{encodes-IsAscii}
use Rattle.doc_session.specs.Step.{EventStep}
use Rattle.entry_lines.specs.ViewId.{view_id_of}
use Rattle.entry_lines.proofs.ForCallers.{view_ids_differ}
use Rattle.session_step.specs.Views.{IsNotGiven, HasApart}
use Rattle.session_step.specs.Session.{OpenView, view_of, stepped, without}

-- ids that are the same
pub same_id : (id : List ℕ) → bytes_eq id id ≡ true
same_id id = (bytes_eq-Decides id id).1 refl

pub id_is : (xs ys : List ℕ) → bytes_eq xs ys ≡ true → xs ≡ ys
id_is xs ys same = (bytes_eq-Decides xs ys).0 same

-- whether two ids are the same, either way round
swapped : (b c : Bool) (xs ys : List ℕ) → bytes_eq xs ys ≡ b → bytes_eq ys xs ≡ c → b ≡ c
swapped true c xs ys one other = sym (sym other ∙ (bytes_eq-Decides ys xs).1 (sym ((bytes_eq-Decides xs ys).0 one)))
swapped false false xs ys one other = refl
swapped false true xs ys one other = sym one ∙ (bytes_eq-Decides xs ys).1 (sym ((bytes_eq-Decides ys xs).0 other))

pub other_way : (xs ys : List ℕ) → bytes_eq xs ys ≡ bytes_eq ys xs
other_way xs ys = swapped (bytes_eq xs ys) (bytes_eq ys xs) xs ys refl refl

-- ids that differ
not_same : (b : Bool) → (b ≡ true → ⊥) → b ≡ false
not_same true never = absurd (never refl)
not_same false never = refl

both_ways : (b : Bool) → b ≡ true → b ≡ false → ⊥
both_ways true is other = cc
both_ways false is other = cc

-- ---- which view an id finds

-- a view that is found has the id
pub view_of-found : (views : List OpenView) (id : List ℕ) (own : OpenView) → view_of views id ≡ Some own → bytes_eq id own.id ≡ true
view_of-found [] id own found = absurd cc
view_of-found (view ∷ views) id own found = by (bytes_eq id view.id) refl found (λ there. view_of-found views id own there)
  where
    by : (here : Bool) → bytes_eq id view.id ≡ here → (if here then Some view else view_of views id) ≡ Some own →
        (view_of views id ≡ Some own → bytes_eq id own.id ≡ true) → bytes_eq id own.id ≡ true
    by true is there later =
        let At : OpenView → Type 0 = λ v. bytes_eq id v.id ≡ true in
        let same : view ≡ own = cc in
        subst At same is
    by false is there later = later there

-- it is the only one of these that has it
unfoldable pub OnlyOwn : List ℕ → OpenView → List OpenView → Type 0
OnlyOwn id own views = AllByRecursion (λ (view : OpenView). bytes_eq id view.id ≡ true → own ≡ view) views

-- none of these has the id
unfoldable pub AreOthers : List ℕ → List OpenView → Type 0
AreOthers id views = AllByRecursion (λ (view : OpenView). bytes_eq id view.id ≡ false) views

only_others : (id : List ℕ) (own : OpenView) (views : List OpenView) → AreOthers id views → OnlyOwn id own views
unfolding OnlyOwn AreOthers
only_others id own [] others = tt
only_others id own (view ∷ views) others = (λ is. absurd (both_ways (bytes_eq id view.id) is others.0), only_others id own views others.1)

pub only_own : (id : List ℕ) (own : OpenView) (views : List OpenView) → HasApart views → view_of views id ≡ Some own → OnlyOwn id own views
unfolding OnlyOwn AreOthers
only_own id own [] apart found = tt
only_own id own (view ∷ views) apart found = by (bytes_eq id view.id) refl found (λ there. only_own id own views apart.2 there)
  where
    by : (here : Bool) → bytes_eq id view.id ≡ here → (if here then Some view else view_of views id) ≡ Some own →
        (view_of views id ≡ Some own → OnlyOwn id own views) → OnlyOwn id own (view ∷ views)
    by true is there later =
        let same : own ≡ view = sym cc in
        let At : List ℕ → Type 0 = λ xs. AreOthers xs views in
        (λ _. same, only_others id own views (subst At (sym (id_is id view.id is)) apart.1))
    by false is there later = (λ other. absurd (both_ways (bytes_eq id view.id) other is), later there)

-- ---- ids are those of rising numbers

-- a view has the id of this number, which is above the one and not above the other
pub record HasNumber (low high n : ℕ) (view : OpenView) : Type 0 where
  pub above : low < n
  pub within : n ≤ high
  pub id : view.id ≡ view_id_of n

unfoldable pub AreNumbered : ℕ → ℕ → List OpenView → Type 0
AreNumbered low high [] = ⊤
AreNumbered low high (view ∷ views) = (n : ℕ) × HasNumber low high n view × AreNumbered n high views

pub numbered_none : (low high : ℕ) → AreNumbered low high []
unfolding AreNumbered
numbered_none low high = tt

numbered_low : (less low high : ℕ) (views : List OpenView) → less ≤ low → AreNumbered low high views → AreNumbered less high views
unfolding AreNumbered
numbered_low less low high [] below are = tt
numbered_low less low high (view ∷ views) below are =
    (are.0, record { above = omega (arith, are.1.above); within = are.1.within; id = are.1.id }, are.2)

pub numbered_high : (low high more : ℕ) (views : List OpenView) → high ≤ more → AreNumbered low high views → AreNumbered low more views
unfolding AreNumbered
numbered_high low high more [] below are = tt
numbered_high low high more (view ∷ views) below are = (
  are.0,
  record { above = are.1.above; within = omega (arith, are.1.within); id = are.1.id },
  numbered_high are.0 high more views below are.2,
)

pub numbered_push : (low high : ℕ) (views : List OpenView) (next : OpenView) → low ≤ high → next.id ≡ view_id_of (high + 1) →
    AreNumbered low high views → AreNumbered low (high + 1) (views ++ next ∷ [])
unfolding AreNumbered
numbered_push low high [] next below is are = (high + 1, record { above = omega arith; within = omega arith; id = is }, tt)
numbered_push low high (view ∷ views) next below is are = (
  are.0,
  record { above = are.1.above; within = omega (arith, are.1.within); id = are.1.id },
  numbered_push are.0 high views next are.1.within is are.2,
)

pub numbered_without : (id : List ℕ) (low high : ℕ) (views : List OpenView) → AreNumbered low high views → AreNumbered low high (without id views)
unfolding AreNumbered
numbered_without id low high [] are = tt
numbered_without id low high (view ∷ views) are =
    by (bytes_eq id view.id) (λ n. λ rest. numbered_without id n high views rest)
  where
    by : (here : Bool) → ((n : ℕ) → AreNumbered n high views → AreNumbered n high (without id views)) →
        AreNumbered low high (if not here then view ∷ without id views else without id views)
    by true rest = rest low (numbered_low low are.0 high views (omega (arith, are.1.above)) are.2)
    by false rest = (are.0, record { above = are.1.above; within = are.1.within; id = are.1.id }, rest are.0 are.2)

pub numbered_stepped : (steps : OpenView → EventStep) (low high : ℕ) (views : List OpenView) → AreNumbered low high views →
    AreNumbered low high (stepped steps views)
unfolding AreNumbered
numbered_stepped steps low high [] are = tt
numbered_stepped steps low high (view ∷ views) are = (
  are.0,
  record { above = are.1.above; within = are.1.within; id = are.1.id },
  numbered_stepped steps are.0 high views are.2,
)

-- two numbers have two ids
pub ids_differ : (m n : ℕ) → m < n → n < 2 ^ 64 → bytes_eq (view_id_of m) (view_id_of n) ≡ false
ids_differ m n below small =
    not_same (bytes_eq (view_id_of m) (view_id_of n))
    (λ same. omega (arith, view_ids_differ.apart m n (omega arith) small (id_is (view_id_of m) (view_id_of n) same)))

later_differ : (m low high : ℕ) (views : List OpenView) → m ≤ low → high < 2 ^ 64 → AreNumbered low high views → AreOthers (view_id_of m) views
unfolding AreNumbered AreOthers
later_differ m low high [] below small are = tt
later_differ m low high (view ∷ views) below small are =
    let At : List ℕ → Type 0 = λ id. bytes_eq (view_id_of m) id ≡ false in (
      subst At (sym are.1.id) (ids_differ m are.0 (omega (arith, are.1.above)) (omega (arith, are.1.within))),
      later_differ m are.0 high views (omega (arith, are.1.above)) small are.2,
    )

-- so they tell the views apart
pub apart-numbered : (low high : ℕ) (views : List OpenView) → high < 2 ^ 64 → AreNumbered low high views → HasApart views
unfolding AreNumbered AreOthers
apart-numbered low high [] small are = tt
apart-numbered low high (view ∷ views) small are =
    let n = are.0 in
    let At : List ℕ → Type 0 = λ id. (encode_utf8_all id ≡ id) × AreOthers id views in
    let own : At (view_id_of n) = (
      encodes-IsAscii (view_id_of n) (view_ids_differ.ascii n (omega (arith, are.1.within))),
      later_differ n n high views (omega arith) small are.2,
    ) in
    let here = subst At (sym are.1.id) own in
    (here.0, here.1, apart-numbered n high views small are.2)

-- an id that was not given is none of them
pub not_given-others : (id : List ℕ) (low high : ℕ) (views : List OpenView) → IsNotGiven high id → AreNumbered low high views →
    AllByRecursion (λ (view : OpenView). bytes_eq view.id id ≡ false) views
unfolding AreNumbered
not_given-others id low high [] free are = tt
not_given-others id low high (view ∷ views) free are =
    let n = are.0 in
    let At : List ℕ → Type 0 = λ own. bytes_eq own id ≡ false in
    let Number : ℕ → Type 0 = λ k. bytes_eq (view_id_of k) id ≡ false in
    let before : n - 1 + 1 ≡ n = omega (arith, are.1.above) in (
      subst At (sym are.1.id) (subst Number before (free (n - 1) (omega (arith, are.1.above, are.1.within)))),
      not_given-others id n high views free are.2,
    )

-- the next one was not given
pub next_not_given : (opened : ℕ) → opened + 1 < 2 ^ 64 → IsNotGiven opened (view_id_of (opened + 1))
next_not_given opened small n below = ids_differ (n + 1) (opened + 1) (omega arith) small

pub not_given-before : (opened more : ℕ) (id : List ℕ) → opened ≤ more → IsNotGiven more id → IsNotGiven opened id
not_given-before opened more id below free n less = free n (omega arith)
