-- The edit step of a history of characters, in positions.
use Rattle.std.proofs.Common.{◌≡◌, ℕ, ◌+◌, Bool, true, false, List, [], ◌∷◌, ◌++◌, length, map, refl, ap, sym, ◌∙◌, arith, length-append}
use Rattle.std.specs.Prelude.{replicate, ◌==◌, if◌then◌else◌}
use Rattle.std.specs.List.{flat_map, range_with_len}
use Rattle.std.proofs.lemmas.List.{map-append, length-map, replicate-append-replicate}
use Rattle.subset_runs.specs.Subset.{count}
use Rattle.subset_runs.proofs.ForCallers.{count-append}
use Rattle.plain_text.specs.Woven.{woven}
use Rattle.plain_edits.specs.History.{Tagged, History, head}
use Rattle.plain_edits.specs.Place.{insertion_place}
use Rattle.plain_edits.specs.Edits.{PlainEdit, gap_count, inserted_at, is_deleted_by, with_deletion, edited, insertion_rank}
use Rattle.rev_list.specs.Edit.{new_by, with_new, with_deleted, after_edit}
use Rattle.rev_list.specs.Hidden.{is_hidden, hidden_at}
use Rattle.rev_list.specs.WithoutText.{without_character, without_text, insertion_flags, deletion_flags, in_positions}

-- all are characters that the revision inserts
pub record AreNew (rev : ℕ) (xs : List Tagged) : Type 0 where
  pub same : map without_character xs ≡ replicate (length xs) (new_by rev)

AreNew-nil : (rev : ℕ) → AreNew rev []
AreNew-nil rev = record { same = refl }

AreNew-append : (rev : ℕ) (xs ys : List Tagged) → AreNew rev xs → AreNew rev ys → AreNew rev (xs ++ ys)
AreNew-append rev xs ys one two = record {
  same =
      map-append without_character xs ys
      ∙ (ap (λ zs. zs ++ map without_character ys) one.same
      ∙ (ap (λ zs. replicate (length xs) (new_by rev) ++ zs) two.same
      ∙ (replicate-append-replicate (length xs) (length ys) (new_by rev)
      ∙ ap (λ n. replicate n (new_by rev)) (sym (length-append xs ys)))));
}

AreNew-text : (rev : ℕ) (text : List ℕ) → AreNew rev (map (λ c. record { character = c; inserted = rev; deleted = [] }) text)
AreNew-text rev [] = AreNew-nil rev
AreNew-text rev (c ∷ text) = record { same = ap (λ rest. new_by rev ∷ rest) (AreNew-text rev text).same }

AreNew-if : (rev : ℕ) (b : Bool) (xs : List Tagged) → AreNew rev xs → AreNew rev (if b then xs else [])
AreNew-if rev true xs are = are
AreNew-if rev false xs are = AreNew-nil rev

AreNew-flat_map : (rev : ℕ) (f : ℕ → List Tagged) → ((gap : ℕ) → AreNew rev (f gap)) → (gaps : List ℕ) → AreNew rev (flat_map f gaps)
AreNew-flat_map rev f each [] = AreNew-nil rev
AreNew-flat_map rev f each (gap ∷ gaps) = AreNew-append rev (f gap) (flat_map f gaps) (each gap) (AreNew-flat_map rev f each gaps)

AreNew-inserted_at : (h : History) (e : PlainEdit) (index : ℕ) → AreNew (head h + 1) (inserted_at h e index)
AreNew-inserted_at h e index =
    AreNew-flat_map (head h + 1) _ (λ gap. AreNew-if (head h + 1) (insertion_place h e.base (insertion_rank e) gap == index) _ (AreNew-text (head h + 1) (e.added gap))) (range_with_len 0 (gap_count h e.base))

-- ---- new characters at the front

with_new-front : (new : Tagged) (ys : List Tagged) (xs : List Tagged) (more : List Bool) → with_new new ys (map (λ _. true) xs ++ more) ≡ replicate (length xs) new ++ with_new new ys more
with_new-front new ys [] more = refl
with_new-front new ys (x ∷ xs) more = ap (λ rest. new ∷ rest) (with_new-front new ys xs more)

with_deleted-front : (rev : ℕ) (new : Tagged) (ys : List Tagged) (xs : List Tagged) (more : List Bool) → with_deleted rev (replicate (length xs) new ++ ys) (map (λ _. false) xs ++ more) ≡ replicate (length xs) new ++ with_deleted rev ys more
with_deleted-front rev new ys [] more = refl
with_deleted-front rev new ys (x ∷ xs) more = ap (λ rest. new ∷ rest) (with_deleted-front rev new ys xs more)

front : (rev : ℕ) (ys xs : List Tagged) (ins del : List Bool) → with_deleted rev (with_new (new_by rev) ys (map (λ _. true) xs ++ ins)) (map (λ _. false) xs ++ del) ≡ replicate (length xs) (new_by rev) ++ with_deleted rev (with_new (new_by rev) ys ins) del
front rev ys xs ins del =
    ap (λ zs. with_deleted rev zs (map (λ _. false) xs ++ del)) (with_new-front (new_by rev) ys xs ins)
    ∙ with_deleted-front rev (new_by rev) (with_new (new_by rev) ys ins) xs del

front_alone : (rev : ℕ) (xs : List Tagged) → with_deleted rev (with_new (new_by rev) [] (map (λ _. true) xs)) (map (λ _. false) xs) ≡ replicate (length xs) (new_by rev)
front_alone rev [] = refl
front_alone rev (x ∷ xs) = ap (λ rest. new_by rev ∷ rest) (front_alone rev xs)

one_tag : (rev : ℕ) (b : Bool) (t : Tagged) → (if b then with_deletion rev (without_character t) else without_character t) ≡ without_character (if b then with_deletion rev t else t)
one_tag rev true t = refl
one_tag rev false t = refl

-- ---- the whole list

characters_step : (rev : ℕ) (between : ℕ → List Tagged) (drops : ℕ → Tagged → Bool) → ((index : ℕ) → AreNew rev (between index)) → (index : ℕ) (xs : List Tagged) → with_deleted rev (with_new (new_by rev) (map without_character xs) (woven (λ i. map (λ _. true) (between i)) (λ _ _. false ∷ []) index xs)) (woven (λ i. map (λ _. false) (between i)) (λ i t. drops i t ∷ []) index xs) ≡ map without_character (woven between (λ i t. (if drops i t then with_deletion rev t else t) ∷ []) index xs)
characters_step rev between drops new index [] = front_alone rev (between index) ∙ sym (new index).same
characters_step rev between drops new index (x ∷ xs) =
    let ins : List Bool = woven (λ i. map (λ _. true) (between i)) (λ _ _. false ∷ []) (index + 1) xs in
    let del : List Bool = woven (λ i. map (λ _. false) (between i)) (λ i t. drops i t ∷ []) (index + 1) xs in
    let tag : Tagged = if drops index x then with_deletion rev x else x in
    let all : List Tagged = woven between (λ i t. (if drops i t then with_deletion rev t else t) ∷ []) (index + 1) xs in
    let rest : with_deleted rev (with_new (new_by rev) (map without_character xs) ins) del ≡ map without_character all =
    characters_step rev between drops new (index + 1) xs in
    let first = one_tag rev (drops index x) x in
    let inner : with_deleted rev (with_new (new_by rev) (map without_character (x ∷ xs)) (false ∷ ins)) (drops index x ∷ del) ≡ map without_character (tag ∷ all) = cc in
    front rev (map without_character (x ∷ xs)) (between index) (false ∷ ins) (drops index x ∷ del)
    ∙ (ap (λ zs. zs ++ with_deleted rev (with_new (new_by rev) (map without_character (x ∷ xs)) (false ∷ ins)) (drops index x ∷ del)) (sym (new index).same)
    ∙ (ap (λ zs. map without_character (between index) ++ zs) inner
    ∙ sym (map-append without_character (between index) (tag ∷ all))))

pub step_without_text : (h : History) (e : PlainEdit) → after_edit (without_text h) (in_positions h e) ≡ without_text (edited h e)
step_without_text h e =
    ap (λ (xs : List Tagged). record (without_text (edited h e)) { characters = xs }) (characters_step (head h + 1) (inserted_at h e) (is_deleted_by h e) (AreNew-inserted_at h e) 0 h.characters)

-- ---- lengths

count-trues : {X : Type 0} (xs : List X) → count (map (λ _. true) xs) ≡ length xs
count-trues [] = refl
count-trues (x ∷ xs) = omega (arith, count-trues xs)

grown_woven : (between : ℕ → List Tagged) (index : ℕ) (xs : List Tagged) → length (woven (λ i. map (λ _. true) (between i)) (λ _ _. false ∷ []) index xs) ≡ length xs + count (woven (λ i. map (λ _. true) (between i)) (λ _ _. false ∷ []) index xs)
grown_woven between index [] = omega (arith, count-trues (between index), length-map (between index) (λ _. true))
grown_woven between index (x ∷ xs) =
    let rest : List Bool = woven (λ i. map (λ _. true) (between i)) (λ _ _. false ∷ []) (index + 1) xs in
    omega (arith, grown_woven between (index + 1) xs, count-append (map (λ _. true) (between index)) (false ∷ rest), length-append (map (λ _. true) (between index)) (false ∷ rest), count-trues (between index), length-map (between index) (λ _. true))

pub grown_flags : (h : History) (e : PlainEdit) → length (insertion_flags h e) ≡ length h.characters + count (insertion_flags h e)
grown_flags h e = grown_woven (inserted_at h e) 0 h.characters

same_woven : (between : ℕ → List Tagged) (drops : ℕ → Tagged → Bool) (index : ℕ) (xs : List Tagged) → length (woven (λ i. map (λ _. false) (between i)) (λ i t. drops i t ∷ []) index xs) ≡ length (woven (λ i. map (λ _. true) (between i)) (λ _ _. false ∷ []) index xs)
same_woven between drops index [] = length-map (between index) (λ _. false) ∙ sym (length-map (between index) (λ _. true))
same_woven between drops index (x ∷ xs) =
    let ins : List Bool = woven (λ i. map (λ _. true) (between i)) (λ _ _. false ∷ []) (index + 1) xs in
    let del : List Bool = woven (λ i. map (λ _. false) (between i)) (λ i t. drops i t ∷ []) (index + 1) xs in
    omega (arith, same_woven between drops (index + 1) xs, length-append (map (λ _. true) (between index)) (false ∷ ins), length-append (map (λ _. false) (between index)) (drops index x ∷ del), length-map (between index) (λ _. true), length-map (between index) (λ _. false))

pub same_flags : (h : History) (e : PlainEdit) → length (deletion_flags h e) ≡ length (insertion_flags h e)
same_flags h e = same_woven (inserted_at h e) (is_deleted_by h e) 0 h.characters

-- ---- what is hidden

hidden_each : (h : History) (rev : ℕ) (xs : List Tagged) → map (is_hidden (without_text h) rev) (map without_character xs) ≡ map (is_hidden h rev) xs
hidden_each h rev [] = refl
hidden_each h rev (x ∷ xs) = ap (λ rest. is_hidden h rev x ∷ rest) (hidden_each h rev xs)

pub hidden_without_text : (h : History) (rev : ℕ) → hidden_at (without_text h) rev ≡ hidden_at h rev
hidden_without_text h rev = hidden_each h rev h.characters
