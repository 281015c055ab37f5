-- Edits of one text commute.
use Rattle.std.proofs.Common.{◌≡◌, ◌≢◌, ℕ, ◌+◌, ◌-◌, ◌^◌, ◌≤◌, false, List, [], ◌∷◌, ◌++◌, length, map, IsPermutation, refl, ap, sym, subst, ◌∙◌, arith, append-nil}
use Rattle.std.specs.List.{AllByRecursion, sum_by, list_any}
use Rattle.std.proofs.lemmas.List.Sums.{sum_by-cons}
use Rattle.std.proofs.lemmas.List.Sorted.{IsPermutation-refl, IsPermutation-trans, IsPermutation-middle, IsPermutation-map, length_permutation, sum_by-IsPermutation}
use Rattle.plain_text.specs.Numbers.{has}
use Rattle.plain_text.specs.Woven.{woven}
use Rattle.plain_edits.specs.Delta.{keeps, adds, misfit_of}
use Rattle.plain_edits.specs.History.{Tagged, History, head, undone, visible_at, text_at, inserted_count, IsSound}
use Rattle.plain_edits.specs.Edits.{PlainEdit, edited, is_edit_of, insertion_rank}
use Rattle.plain_edits.specs.Delta.{inserted_len}
use Rattle.plain_edits.proofs.callers.HistoryLemmas.{IsSound-edited, text_at-edited}
use Rattle.rev_engine.specs.Given.{AskedEdit, asked_rank, meant, after, after_all, IsTaken, AreTaken}
use Rattle.rev_engine.specs.Asked.{IsGiven}
use Rattle.rev_engine.specs.Commute.{DifferInRank, IsForHead, AreForHead, AreOpen, ShowsMerged, EditsCommute}
use Rattle.plain_edits.specs.Blocks.{block_at}
use Rattle.plain_edits.proofs.callers.BlockLemmas.{at-by_blocks}
use Rattle.plain_edits.proofs.callers.RunLemmas.{AllByRecursion-parts, AllByRecursion-to_map}
use Rattle.rev_engine.proofs.MergeLemmas.{head-edited, Done, seen_in, IsMerging, text_at-merging}
use Rattle.rev_engine.proofs.StepLemmas.{dones_after, at_after, IsMerging-edited}
use Rattle.rev_engine.proofs.OrderLemmas.{AllByRecursion-permutation, Differ, Differ-permutation, merged-permutation}
use Rattle.rev_engine.proofs.SpentLemmas.{inserted_count-plain}
use Rattle.rev_engine.proofs.AskedLemmas.{IsOfEngine-given, has-no_edit}
use Rattle.rev_engine.proofs.StandLemmas.{refusal-none}

-- ---- which histories take edits

-- each character is of revisions that are there, the head is not collected, and a group with no edit yet is not undone
pub record TakesEdits (history : History) : Type 0 where
  pub sound : IsSound history
  pub floor : history.floor ≤ head history
  pub live : (group : ℕ) → list_any (is_edit_of group) history.revisions ≡ false → has (undone history.revisions (head history)) group ≡ false

pub TakesEdits-given : (limit : ℕ) (history : History) → IsGiven limit history → TakesEdits history
TakesEdits-given limit history given =
    let is = IsOfEngine-given limit history given in
    record {
      sound = is.forgets.formed.sound;
      floor = is.forgets.formed.floor;
      live = λ group none. has-no_edit history group (undone history.revisions (head history)) is.undone_known none;
    }

-- ---- one edit in its turn

-- the text of the first head stands, and there is room for the edits to come
record IsReady (limit : ℕ) (first last : History) (edits : List AskedEdit) : Type 0 where
  sound : IsSound last
  floor : last.floor ≡ first.floor
  collected : last.collected ≡ first.collected
  later : head first ≤ head last
  text : text_at last (head first) ≡ text_at first (head first)
  room : inserted_count last + sum_by (λ asked. inserted_len asked.delta.els) edits ≤ limit
  numbers : head last + length edits ≤ 2 ^ 63 - 1

module _ (limit : ℕ) (first last : History) (asked : AskedEdit) (edits : List AskedEdit) (takes : TakesEdits first) (is : IsForHead first asked)
    (ready : IsReady limit first last (asked ∷ edits)) where
  room_here : inserted_count last + inserted_len asked.delta.els + sum_by (λ other. inserted_len other.delta.els) edits ≤ limit
  room_here = omega (arith, ready.room, sum_by-cons (λ (other : AskedEdit). inserted_len other.delta.els) asked edits)

  same_text : text_at last asked.base ≡ text_at first asked.base
  same_text = ap (text_at last) is.base ∙ ready.text ∙ ap (text_at first) (sym is.base)

  meant-same : meant last asked ≡ meant first asked
  meant-same =
      ap (λ text. record {
        base = asked.base;
        kept = keeps text asked.delta;
        added = adds text asked.delta;
        group = asked.group;
        priority = asked.priority;
        author = asked.author;
      }) same_text

  IsTaken-ready : has first.collected asked.group ≡ false → IsTaken limit last asked
  IsTaken-ready is_open = record {
    may = record {
      group_counts = is.group_counts;
      group_kept = ap (λ groups. has groups asked.group) ready.collected ∙ is_open;
      has_number = omega (arith, ready.numbers);
    };
    accepted =
        refusal-none last limit asked.base asked.delta (omega (arith, is.base, ready.floor, takes.floor)) (omega (arith, is.base, ready.later))
        (ap (λ text. misfit_of text asked.delta) (ap (text_at last) is.base ∙ ready.text) ∙ is.fits) (omega (arith, room_here));
  }

  IsReady-after : IsReady limit first (after last asked) edits
  IsReady-after =
      let e = meant last asked in
      let one_more : head (after last asked) ≡ head last + 1 = head-edited last e in
      record {
        sound = IsSound-edited last e ready.sound;
        floor = ready.floor;
        collected = ready.collected;
        later = omega (arith, ready.later, one_more);
        text = text_at-edited last e (head first) ready.sound ready.later ∙ ready.text;
        room = omega (arith, room_here, inserted_count-plain last asked.base asked.delta asked.group asked.priority asked.author);
        numbers = omega (arith, ready.numbers, one_more);
      }

-- ---- all edits

-- the history after the edits shows them merged in some order
record Comes (limit : ℕ) (first : History) (done : List PlainEdit) (last : History) (order : List AskedEdit) : Type 0 where
  taken : AreOpen first order → AreTaken limit last order
  final : List PlainEdit
  dones : List Done
  at : ℕ → Tagged → Tagged
  state : IsMerging first final (after_all last order) dones at
  moved : IsPermutation (done ++ map (meant first) order) final

comes : (limit : ℕ) (first : History) → TakesEdits first → (order : List AskedEdit) (done : List PlainEdit) (last : History) (dones : List Done)
    (at : ℕ → Tagged → Tagged) → IsMerging first done last dones at → IsReady limit first last order → AllByRecursion (IsForHead first) order →
    Differ insertion_rank (done ++ map (meant first) order) → Comes limit first done last order
comes limit first takes [] done last dones at state ready each differ = record {
  taken = λ _. tt;
  final = done;
  dones = dones;
  at = at;
  state = state;
  moved = subst (λ edits. IsPermutation edits done) (sym (append-nil done)) (IsPermutation-refl done);
}
comes limit first takes (asked ∷ order) done last dones at state ready each differ =
    let e : PlainEdit = meant first asked in
    let edits : List PlainEdit = map (meant first) order in
    let middle : IsPermutation (done ++ e ∷ edits) (e ∷ (done ++ edits)) = IsPermutation-middle done e edits in
    let apart : Differ insertion_rank (e ∷ (done ++ edits)) =
    Differ-permutation insertion_rank (done ++ e ∷ edits) (e ∷ (done ++ edits)) middle differ in
    let others = (AllByRecursion-parts (λ f. insertion_rank f ≢ insertion_rank e) done edits apart.0).0 in
    let live = takes.live asked.group each.0.group_fresh in
    let same = meant-same limit first last asked order takes each.0 ready in
    let step = IsMerging-edited first takes.sound done last dones at state e each.0.base live others in
    let rest =
    comes limit first takes order (e ∷ done) (after last asked)
    (dones_after first takes.sound done last dones at state e each.0.base live others)
    (at_after first takes.sound done last dones at state e each.0.base live others)
    (subst (λ f. IsMerging first (e ∷ done) (edited last f)
    (dones_after first takes.sound done last dones at state e each.0.base live others)
    (at_after first takes.sound done last dones at state e each.0.base live others)) (sym same) step)
    (IsReady-after limit first last asked order takes each.0 ready) each.1 apart in
    record {
      taken = λ are. (IsTaken-ready limit first last asked order takes each.0 ready are.0, rest.taken are.1);
      final = rest.final;
      dones = rest.dones;
      at = rest.at;
      state = rest.state;
      moved = IsPermutation-trans (done ++ e ∷ edits) (e ∷ (done ++ edits)) rest.final middle rest.moved;
    }

Differ-meant : (history : History) (edits : List AskedEdit) → DifferInRank edits → Differ insertion_rank (map (meant history) edits)
Differ-meant history [] differ = tt
Differ-meant history (asked ∷ edits) differ = (
  AllByRecursion-to_map (λ e. insertion_rank e ≢ asked_rank asked) (meant history) edits differ.0,
  Differ-meant history edits differ.1,
)

-- before the first of the edits
IsMerging-none : (first : History) → IsSound first → IsMerging first [] first [] (λ n x. x)
IsMerging-none first sound = record {
  sound = sound;
  later = omega arith;
  spent = refl;
  characters =
      sym (at-by_blocks (seen_in first) (λ xs. xs) refl (λ x ys. refl) first.characters) ∙
      ap (λ (blocks : ℕ → List Tagged). woven blocks (λ _ x. x ∷ []) 0 (visible_at first (head first)))
      (λ i g. sym (append-nil (block_at first (head first) g)) i);
  each = tt;
  rises = tt;
  is = refl;
  others_before = λ x tagged. refl;
  others = λ x tagged. refl;
  stays = λ n x tagged is. record { inserted = refl; character = refl; tagged = tagged; at_base = is; at_now = is };
}

-- in a history that takes edits
pub edits_commute_in : (limit : ℕ) (history : History) (edits order : List AskedEdit) → TakesEdits history → AreForHead limit history edits →
    IsPermutation edits order → (AreOpen history edits → AreTaken limit history order) × ShowsMerged history edits (after_all history order)
edits_commute_in limit history edits order takes for_head moved =
    let text : List ℕ = text_at history (head history) in
    let asked_for = map (meant history) edits in
    let in_order = map (meant history) order in
    let across : IsPermutation asked_for in_order = IsPermutation-map (meant history) edits order moved in
    let differ = Differ-meant history edits for_head.distinct in
    let all =
    comes limit history takes order [] history [] (λ n x. x) (IsMerging-none history takes.sound)
    (record {
      sound = takes.sound;
      floor = refl;
      collected = refl;
      later = omega arith;
      text = refl;
      room = omega (arith, for_head.room, sum_by-IsPermutation (λ (asked : AskedEdit). inserted_len asked.delta.els) edits order moved);
      numbers = omega (arith, for_head.numbers, length_permutation edits order moved);
    })
    (AllByRecursion-permutation (IsForHead history) edits order moved for_head.each)
    (Differ-permutation insertion_rank asked_for in_order across differ) in (
      λ are. all.taken (AllByRecursion-permutation (λ asked. has history.collected asked.group ≡ false) edits order moved are),
      text_at-merging history takes.sound all.final (after_all history order) all.dones all.at all.state ∙
          sym (merged-permutation text asked_for all.final (IsPermutation-trans asked_for in_order all.final across all.moved) differ),
    )

pub edits_commute : EditsCommute
edits_commute limit history edits order given for_head moved =
    edits_commute_in limit history edits order (TakesEdits-given limit history given) for_head moved
