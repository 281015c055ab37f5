-- The pages at the place of the first that is meant.
use Rattle.std.proofs.Common.{◌≡◌, ⊎_elim, ℕ, suc, ◌+◌, ◌<◌, ◌≤◌, Bool, true, false, cond, List, [], ◌∷◌, ◌++◌, length, get_or, Ok, Err, Some, None, refl, ap, sym, ◌∙◌, arith}
use Rattle.std.specs.Prelude.{Result, option_map, OnOk, IfErr, not, slice_set, if◌then◌else◌}
use Rattle.std.specs.List.{position_or_len, remove, find, slice_get}
use Rattle.std.proofs.lemmas.Bool.{cases_Bool}
use Rattle.std.proofs.lemmas.List.Folds.{find_at}
use Rattle.std.proofs.lemmas.Option.{slice_get-get_or, slice_get_past}
use Rattle.xi_plain.specs.declared.command.Id.{Id}
use Rattle.plugin_side.specs.declared.heard.Answered.{Answered}
use Rattle.plugin_mirror.specs.declared.fault.BookFault.{BookFault}
use Rattle.plugin_mirror.specs.declared.fault.BookFault.TheVariants.{Unread, Unknown}
use Rattle.plugin_mirror.specs.declared.leaf.Leaf.{Leaf}
use Rattle.plugin_mirror.specs.Leaf.{then_if_ok, opened, with_answer, is_of, is_asked}
use Rattle.plugin_mirror.specs.Book.{at_leaf, with_opened, without, is_to_nobody, after_answer, page_of}

-- the place, where the first page is meant, and where it is not
place_here : (meant : Leaf → Bool) (leaf : Leaf) (leaves : List Leaf) → meant leaf ≡ true → position_or_len meant (leaf ∷ leaves) ≡ 0
place_here meant leaf leaves here = ap (λ (b : Bool). cond (not b) (1 + position_or_len meant leaves) 0) here

place_there : (meant : Leaf → Bool) (leaf : Leaf) (leaves : List Leaf) → meant leaf ≡ false → position_or_len meant (leaf ∷ leaves) ≡ suc (position_or_len meant leaves)
place_there meant leaf leaves other =
    let next : 1 + position_or_len meant leaves ≡ suc (position_or_len meant leaves) = omega arith in
    ap (λ (b : Bool). cond (not b) (1 + position_or_len meant leaves) 0) other ∙ next

-- ---- a step

two_steps : (leaf : Leaf) (made : Result Leaf BookFault) (set : Leaf → List Leaf) →
    then_if_ok (then_if_ok made (λ new. Ok (set new))) (λ news. Ok (leaf ∷ news)) ≡ then_if_ok made (λ new. Ok (leaf ∷ set new))
two_steps leaf (Ok new) set = refl
two_steps leaf (Err fault) set = refl

-- what comes of a step at a place
abbrev stepped : (Leaf → Result Leaf BookFault) → List Leaf → ℕ → Leaf → Result (List Leaf) BookFault
stepped step leaves place d = then_if_ok (step (get_or leaves place d)) (λ new. Ok (slice_set leaves place new))

pub at_leaf-place : (meant : Leaf → Bool) (none : BookFault) (step : Leaf → Result Leaf BookFault) (leaves : List Leaf) (place : ℕ) (d : Leaf) →
    place ≡ position_or_len meant leaves → place < length leaves →
    at_leaf meant none step leaves ≡ then_if_ok (step (get_or leaves place d)) (λ new. Ok (slice_set leaves place new))
at_leaf-place meant none step [] place d is inside = absurd (omega (arith, inside))
at_leaf-place meant none step (leaf ∷ leaves) place d is inside =
    let Here : Result (List Leaf) BookFault = then_if_ok (step leaf) (λ n. Ok (n ∷ leaves)) in
    let There : Result (List Leaf) BookFault = then_if_ok (at_leaf meant none step leaves) (λ news. Ok (leaf ∷ news)) in
    ⊎_elim
    (λ (here : meant leaf ≡ true).
    ap (λ (b : Bool). if b then Here else There) here ∙ ap (λ i. stepped step (leaf ∷ leaves) i d) (sym (is ∙ place_here meant leaf leaves here)))
    (λ (other : meant leaf ≡ false).
    let at = position_or_len meant leaves in
    let same : place ≡ suc at = is ∙ place_there meant leaf leaves other in
    let later = at_leaf-place meant none step leaves at d refl (omega (arith, inside, same)) in
    ap (λ (b : Bool). if b then Here else There) other ∙ ap (λ made. then_if_ok made (λ news. Ok (leaf ∷ news))) later ∙
    two_steps leaf (step (get_or leaves at d)) (slice_set leaves at) ∙ ap (λ i. stepped step (leaf ∷ leaves) i d) (sym same))
    (cases_Bool (meant leaf))

pub at_leaf-none : (meant : Leaf → Bool) (none : BookFault) (step : Leaf → Result Leaf BookFault) (leaves : List Leaf) (place : ℕ) →
    place ≡ position_or_len meant leaves → length leaves ≤ place → at_leaf meant none step leaves ≡ Err none
at_leaf-none meant none step [] place is past = refl
at_leaf-none meant none step (leaf ∷ leaves) place is past =
    let Here : Result (List Leaf) BookFault = then_if_ok (step leaf) (λ n. Ok (n ∷ leaves)) in
    let There : Result (List Leaf) BookFault = then_if_ok (at_leaf meant none step leaves) (λ news. Ok (leaf ∷ news)) in
    ⊎_elim
    (λ (here : meant leaf ≡ true). absurd (omega (arith, past, is ∙ place_here meant leaf leaves here)))
    (λ (other : meant leaf ≡ false).
    let at = position_or_len meant leaves in
    let later = at_leaf-none meant none step leaves at refl (omega (arith, past, is ∙ place_there meant leaf leaves other)) in
    ap (λ (b : Bool). if b then Here else There) other ∙ ap (λ made. then_if_ok made (λ news. Ok (leaf ∷ news))) later)
    (cases_Bool (meant leaf))

-- ---- an opening

pub with_opened-place : (view : List ℕ) (len : ℕ) (leaves : List Leaf) (place : ℕ) → place ≡ position_or_len (is_of view) leaves → place < length leaves →
    with_opened view len leaves ≡ slice_set leaves place (opened view len)
with_opened-place view len [] place is inside = absurd (omega (arith, inside))
with_opened-place view len (leaf ∷ leaves) place is inside =
    let Here : List Leaf = opened view len ∷ leaves in
    let There : List Leaf = leaf ∷ with_opened view len leaves in
    ⊎_elim
    (λ (here : is_of view leaf ≡ true).
    ap (λ (b : Bool). if b then Here else There) here ∙
    ap (λ i. slice_set (leaf ∷ leaves) i (opened view len)) (sym (is ∙ place_here (is_of view) leaf leaves here)))
    (λ (other : is_of view leaf ≡ false).
    let at = position_or_len (is_of view) leaves in
    let same : place ≡ suc at = is ∙ place_there (is_of view) leaf leaves other in
    let later = with_opened-place view len leaves at refl (omega (arith, inside, same)) in
    ap (λ (b : Bool). if b then Here else There) other ∙ ap (λ news. leaf ∷ news) later ∙
    ap (λ i. slice_set (leaf ∷ leaves) i (opened view len)) (sym same))
    (cases_Bool (is_of view leaf))

pub with_opened-none : (view : List ℕ) (len : ℕ) (leaves : List Leaf) (place : ℕ) → place ≡ position_or_len (is_of view) leaves → length leaves ≤ place →
    with_opened view len leaves ≡ leaves ++ opened view len ∷ []
with_opened-none view len [] place is past = refl
with_opened-none view len (leaf ∷ leaves) place is past =
    let Here : List Leaf = opened view len ∷ leaves in
    let There : List Leaf = leaf ∷ with_opened view len leaves in
    ⊎_elim
    (λ (here : is_of view leaf ≡ true). absurd (omega (arith, past, is ∙ place_here (is_of view) leaf leaves here)))
    (λ (other : is_of view leaf ≡ false).
    let at = position_or_len (is_of view) leaves in
    let later = with_opened-none view len leaves at refl (omega (arith, past, is ∙ place_there (is_of view) leaf leaves other)) in
    ap (λ (b : Bool). if b then Here else There) other ∙ ap (λ news. leaf ∷ news) later)
    (cases_Bool (is_of view leaf))

-- ---- a closing

pub without-place : (view : List ℕ) (leaves : List Leaf) (place : ℕ) → place ≡ position_or_len (is_of view) leaves → place < length leaves →
    without view leaves ≡ Ok (remove leaves place)
without-place view [] place is inside = absurd (omega (arith, inside))
without-place view (leaf ∷ leaves) place is inside =
    let Here : Result (List Leaf) BookFault = Ok leaves in
    let There : Result (List Leaf) BookFault = then_if_ok (without view leaves) (λ rest. Ok (leaf ∷ rest)) in
    ⊎_elim
    (λ (here : is_of view leaf ≡ true).
    ap (λ (b : Bool). if b then Here else There) here ∙ ap (λ i. Ok (remove (leaf ∷ leaves) i)) (sym (is ∙ place_here (is_of view) leaf leaves here)))
    (λ (other : is_of view leaf ≡ false).
    let at = position_or_len (is_of view) leaves in
    let same : place ≡ suc at = is ∙ place_there (is_of view) leaf leaves other in
    let later = without-place view leaves at refl (omega (arith, inside, same)) in
    ap (λ (b : Bool). if b then Here else There) other ∙ ap (λ made. then_if_ok made (λ rest. Ok (leaf ∷ rest))) later ∙
    ap (λ i. Ok (remove (leaf ∷ leaves) i)) (sym same))
    (cases_Bool (is_of view leaf))

pub without-none : (view : List ℕ) (leaves : List Leaf) (place : ℕ) → place ≡ position_or_len (is_of view) leaves → length leaves ≤ place →
    without view leaves ≡ Err (Unknown view)
without-none view [] place is past = refl
without-none view (leaf ∷ leaves) place is past =
    let Here : Result (List Leaf) BookFault = Ok leaves in
    let There : Result (List Leaf) BookFault = then_if_ok (without view leaves) (λ rest. Ok (leaf ∷ rest)) in
    ⊎_elim
    (λ (here : is_of view leaf ≡ true). absurd (omega (arith, past, is ∙ place_here (is_of view) leaf leaves here)))
    (λ (other : is_of view leaf ≡ false).
    let at = position_or_len (is_of view) leaves in
    let later = without-none view leaves at refl (omega (arith, past, is ∙ place_there (is_of view) leaf leaves other)) in
    ap (λ (b : Bool). if b then Here else There) other ∙ ap (λ made. then_if_ok made (λ rest. Ok (leaf ∷ rest))) later)
    (cases_Bool (is_of view leaf))

-- ---- what bodies give

pub on_ok : {A E : Type 0} {P Q : Type 0} (r : Result A E) → (P → Q) → OnOk r P → OnOk r Q
on_ok (Ok x) f p = f p
on_ok (Err e) f p = p

pub if_err : {A E : Type 0} {P Q : E → Type 0} (r : Result A E) → ((e : E) → P e → Q e) → IfErr r P → IfErr r Q
if_err (Ok x) f p = p
if_err (Err e) f p = f e p

-- the step of the page at the place was taken, or gave a fault
pub step_taken : (meant : Leaf → Bool) (none : BookFault) (step : Leaf → Result Leaf BookFault) (leaves : List Leaf) (place : ℕ) (leaf new : Leaf) →
    place ≡ position_or_len meant leaves → place < length leaves → leaf ≡ get_or leaves place leaf → step leaf ≡ Ok new →
    at_leaf meant none step leaves ≡ Ok (slice_set leaves place new)
step_taken meant none step leaves place leaf new is inside here taken =
    let Then : Result Leaf BookFault → Result (List Leaf) BookFault = λ made. then_if_ok made (λ n. Ok (slice_set leaves place n)) in
    at_leaf-place meant none step leaves place leaf is inside ∙ ap (λ l. Then (step l)) (sym here) ∙ ap Then taken

pub step_fault : (meant : Leaf → Bool) (none : BookFault) (step : Leaf → Result Leaf BookFault) (leaves : List Leaf) (place : ℕ) (leaf : Leaf) (fault : BookFault) →
    place ≡ position_or_len meant leaves → place < length leaves → leaf ≡ get_or leaves place leaf → step leaf ≡ Err fault →
    at_leaf meant none step leaves ≡ Err fault
step_fault meant none step leaves place leaf fault is inside here given =
    let Then : Result Leaf BookFault → Result (List Leaf) BookFault = λ made. then_if_ok made (λ n. Ok (slice_set leaves place n)) in
    at_leaf-place meant none step leaves place leaf is inside ∙ ap (λ l. Then (step l)) (sym here) ∙ ap Then given

-- an answer that names somebody
pub after_answer-asked : (id : Id) (answer : Answered) (leaves : List Leaf) → is_to_nobody id answer ≡ false →
    after_answer id answer leaves ≡ at_leaf (is_asked id) Unread (with_answer answer) leaves
after_answer-asked id answer leaves some =
    let Kept : Result (List Leaf) BookFault = Ok leaves in
    let Now : Result (List Leaf) BookFault = at_leaf (is_asked id) Unread (with_answer answer) leaves in
    ap (λ (b : Bool). if b then Kept else Now) some

-- ---- the page of a view

pub page_of-place : (view : List ℕ) (leaves : List Leaf) (place : ℕ) (leaf : Leaf) → place ≡ position_or_len (is_of view) leaves → place < length leaves →
    leaf ≡ get_or leaves place leaf → Some leaf.page ≡ page_of view leaves
page_of-place view leaves place leaf is inside here =
    let found : find (is_of view) leaves ≡ Some (get_or leaves place leaf) =
    find_at (is_of view) leaves ∙ ap (slice_get leaves) (sym is) ∙ slice_get-get_or leaves place leaf inside in
    sym (ap (option_map (λ (l : Leaf). l.page)) found ∙ ap (λ (l : Leaf). Some l.page) (sym here))

pub page_of-none : (view : List ℕ) (leaves : List Leaf) (place : ℕ) → place ≡ position_or_len (is_of view) leaves → length leaves ≤ place →
    None ≡ page_of view leaves
page_of-none view leaves place is past =
    let found : find (is_of view) leaves ≡ None = find_at (is_of view) leaves ∙ ap (slice_get leaves) (sym is) ∙ slice_get_past leaves place past in
    sym (ap (option_map (λ (l : Leaf). l.page)) found)
