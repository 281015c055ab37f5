-- The text of an edit, put in at its places.
use Rattle.std.proofs.Common.{◌≡◌, ℕ, suc, ◌+◌, Bool, true, false, if◌then◌else◌, List, [], ◌∷◌, ◌++◌, length, map, flat_map, add-one, refl, ap, ap₂, sym, ◌∙◌, take-append-drop}
use Rattle.std.specs.List.{range_with_len}
use Rattle.std.proofs.lemmas.List.{map-append}
use Rattle.plain_text.specs.Woven.{woven}
use Rattle.plain_edits.specs.History.{Tagged, inserted_by, History, head, is_visible, visible_at}
use Rattle.plain_edits.specs.Edits.{PlainEdit, inserted_at, is_deleted_by, with_deletion, edited, insertion_rank}
use Rattle.plain_edits.specs.Blocks.{block_at, left_in_block}
use Rattle.plain_text.proofs.callers.ListLemmas.{at-woven}
use Rattle.plain_edits.proofs.callers.HistoryLemmas.{becomes}
use Rattle.plain_edits.proofs.callers.BlockLemmas.{image-by_blocks, map-by_blocks}
use Rattle.rev_list.specs.WithoutText.{insertion_flags}
use Rattle.rev_rebase.specs.Rebase.{text_of_edit, characters_of, put_in}
use Rattle.rev_rebase.proofs.BlockLemmas.{put_in-blocks}
use Rattle.rev_rebase.proofs.FlagLemmas.{left_part, right_part, insertion_flags-blocks}

pub edited-put_in : (h : History) (e : PlainEdit) →
    characters_of (edited h e) ≡ put_in (insertion_flags h e) (text_of_edit h e) (characters_of h)
edited-put_in h e =
    at-woven (map character) (map-append character) (inserted_at h e) (becomes h e) 0 h.characters ∙
    ap (λ (at : ℕ → Tagged → List ℕ). woven (λ i. map character (inserted_at h e i)) at 0 h.characters)
    (λ i index tagged. ap (λ c. c ∷ []) (same (is_deleted_by h e index tagged) tagged) i) ∙
    image-by_blocks h e character character character ∙
    ap₂ (λ (blocks : ℕ → List ℕ) (at : ℕ → Tagged → List ℕ). woven blocks at 0 (visible_at h e.base))
    (λ i g. ap (λ cs. map character (left g) ++ (cs ++ map character (right g))) (alone (e.added g)) i)
    (λ i g tagged. ap (λ c. c ∷ []) (either (e.kept g) tagged.character) i) ∙
    sym (ap (λ n. put_in (insertion_flags h e) (flat_map e.added (range_with_len 0 n)) (characters_of h)) (add-one (length (visible_at h e.base))) ∙
    ap₂ (λ flags characters. put_in flags (flat_map e.added (range_with_len 0 (suc (length (visible_at h e.base))))) characters) (insertion_flags-blocks h e)
    (sym (map-by_blocks (is_visible h.revisions e.base) character h.characters) ∙
    ap (λ (blocks : ℕ → List ℕ). woven blocks (λ _ tagged. character tagged ∷ []) 0 (visible_at h e.base)) (λ i g. parts g i)) ∙
    put_in-blocks character e.added left right 0 (visible_at h e.base))
  where
    character : Tagged → ℕ
    character tagged = tagged.character

    left : ℕ → List Tagged
    left g = left_part h.revisions e.base (insertion_rank e) (block_at h e.base g)

    right : ℕ → List Tagged
    right g = right_part h.revisions e.base (insertion_rank e) (block_at h e.base g)

    same : (b : Bool) (tagged : Tagged) → (if b then with_deletion (head h + 1) tagged else tagged).character ≡ (if b then character tagged else character tagged)
    same true tagged = refl
    same false tagged = refl

    either : (b : Bool) (c : ℕ) → (if b then c else c) ≡ c
    either true c = refl
    either false c = refl

    alone : (text : List ℕ) → map character (map (inserted_by (head h + 1)) text) ≡ text
    alone [] = refl
    alone (c ∷ text) = ap (λ cs. c ∷ cs) (alone text)

    parts : (g : ℕ) → map character (block_at h e.base g) ≡ map character (left g) ++ map character (right g)
    parts g =
        ap (map character) (sym (take-append-drop (left_in_block h.revisions e.base (insertion_rank e) (block_at h e.base g)) (block_at h e.base g))) ∙
        map-append character (left g) (right g)
