-- Over the lines of a teller each edit is true.
use Rattle.std.proofs.Common.{◌≡◌, inl, inr, ℕ, ◌^◌, Bool, true, false, List, [], ◌∷◌, ◌++◌, length, None, Result, Ok, refl, sym, ap, subst, ◌∙◌}
use Rattle.std.specs.Prelude.{if◌then◌else◌}
use Rattle.std.specs.List.{AllByRecursion}
use Rattle.std.proofs.lemmas.Bool.{cases_Bool, cond-true, cond-false, and_parts}
use Rattle.plain_text.specs.declared.run.Run.{Run}
use Rattle.plain_text.proofs.callers.ListLemmas.{AllByRecursion-append}
use Rattle.plain_edits.specs.Delta.{Fits}
use Rattle.xi_plain.specs.declared.command.Command.{Command}
use Rattle.regex_find.specs.Spots.{AreSpots}
use Rattle.regex_find.specs.Replaced.{replaced}
use Rattle.plugin_mirror.specs.declared.leaf.Leaf.{Leaf}
use Rattle.plugin_mirror.specs.declared.fault.BookFault.{BookFault}
use Rattle.plugin_mirror.specs.Leaf.{text_by, wants_ack}
use Rattle.plugin_mirror.specs.Book.{Pages, with_leaves, taken}
use Rattle.plugin_mirror.specs.Asks.{asks_piece, asks_of, piece_ask, acknowledgement, commands, next_after, after_asks}
use Rattle.plugin_mirror.specs.Teller.{Tales, ToldView}
use Rattle.plugin_mirror.specs.Laws.{Event, line, asking, Telling, start, IsStep, AreSteps, SaysText, SayTexts}
use Rattle.plugin_mirror.proofs.ForCallers.{books_say}
use Rattle.plugin_replacer.specs.Replacing.{Replacing, Course, replacing_start, is_to_search, searched_with, replacement_delta, edits_by, edits_of, edits, unless_fault, looked_if, event_course, course}
use Rattle.replacer_laws.specs.Laws.{ReplacesTruly, GoesTruly, EditsAreTrue}
use Rattle.replacer_laws.proofs.EditLemmas.{Fits-replacing, text_by-replacing}

module _ (tales : Tales) (found : List ℕ → List Run) (new : List ℕ) where
  abbrev AreTrue : List Command → Type 0
  AreTrue asks = AllByRecursion (λ command. ReplacesTruly tales found new command.act) asks

  -- ---- the edits of pages

  edits_by-true : (leaf : Leaf) (runs : List Run) → runs ≡ found leaf.page.text → AreSpots (length leaf.page.text) 0 runs →
      leaf.page.text ≡ tales leaf.view leaf.page.rev → AreTrue (edits_by leaf runs new)
  edits_by-true leaf [] is are text = tt
  edits_by-true leaf (run ∷ runs) is are text =
      let here = leaf.page.text in
      let delta = replacement_delta here (run ∷ runs) new in (
        subst (λ t. Fits t delta × (text_by t delta ≡ replaced t (found t) new)) text
            (Fits-replacing here (run ∷ runs) new, text_by-replacing here (run ∷ runs) new are ∙ ap (λ rs. replaced here rs new) is),
        tt,
      )

  pub edits_of-true : (searched : List (List ℕ)) (one : ToldView) (leaf : Leaf) → ((text : List ℕ) → AreSpots (length text) 0 (found text)) →
      SaysText tales one leaf → AreTrue (edits_of found new searched leaf)
  edits_of-true searched one leaf law says =
      elim (cases_Bool (is_to_search searched leaf)) [
        | inl due ↦
            let whole = (and_parts leaf.page.whole _ due).0 in
            subst AreTrue (sym (cond-true (is_to_search searched leaf) _ _ due))
            (edits_by-true leaf (found leaf.page.text) refl (law leaf.page.text)
            (says.text whole ∙ ap (tales one.view) (sym (says.rev whole)) ∙ ap (λ view. tales view leaf.page.rev) (sym says.view)))
        | inr not_due ↦ subst AreTrue (sym (cond-false (is_to_search searched leaf) _ _ not_due)) nothing_true
      ]
    where
      nothing_true : AreTrue []
      nothing_true = tt

  pub edits-true : (searched : List (List ℕ)) (views : List ToldView) (leaves : List Leaf) → ((text : List ℕ) → AreSpots (length text) 0 (found text)) →
      SayTexts tales views leaves → AreTrue (edits found new searched leaves)
  edits-true searched [] [] law says = tt
  edits-true searched [] (leaf ∷ leaves) law says = absurd says
  edits-true searched (one ∷ views) [] law says = absurd says
  edits-true searched (one ∷ views) (leaf ∷ leaves) law says =
      AllByRecursion-append (λ command. ReplacesTruly tales found new command.act) (edits_of found new searched leaf) (edits found new (searched_with searched leaf) leaves)
      (edits_of-true searched one leaf law says.0) (edits-true (searched_with searched leaf) views leaves law says.1)

  -- ---- what the book asks is no edit

  asks_of-true : (piece next : ℕ) (leaf : Leaf) → AreTrue (asks_of piece next leaf)
  asks_of-true piece next leaf = by_test (asks_piece next leaf) (wants_ack leaf)
    where
      by_test : (asks wants : Bool) → AreTrue (if asks then piece_ask piece next leaf ∷ [] else (if wants then acknowledgement leaf ∷ [] else []))
      by_test true wants = (tt, tt)
      by_test false true = (tt, tt)
      by_test false false = tt

  pub commands-true : (piece next : ℕ) (leaves : List Leaf) → AreTrue (commands piece next leaves)
  commands-true piece next [] = tt
  commands-true piece next (leaf ∷ leaves) =
      AllByRecursion-append (λ command. ReplacesTruly tales found new command.act) (asks_of piece next leaf) (commands piece (next_after next leaf) leaves)
      (asks_of-true piece next leaf) (commands-true piece (next_after next leaf) leaves)

  -- ---- events

  -- one event more
  steps_then : (old mid now : Telling) (events : List Event) (event : Event) → AreSteps tales old events mid → IsStep tales event mid now →
      AreSteps tales old (events ++ event ∷ []) now
  steps_then old mid now [] event same step = (now, subst (λ telling. IsStep tales event telling now) same step, refl)
  steps_then old mid now (first ∷ events) event (next, step, later) last = (next, step, steps_then next mid now events event later last)

  -- what an event leads to
  record Leads (first : Course) (next : Telling) : Type 0 where
    goes_on : first.fault ≡ None
    book : first.after.book ≡ next.book
    edits : AreTrue first.asks

  leads_line : (state : Replacing) (mid next : Telling) (made : Result (List Leaf) BookFault) → ((text : List ℕ) → AreSpots (length text) 0 (found text)) →
      state.book ≡ mid.book → next.book ≡ with_leaves mid.book next.book.leaves → SayTexts tales next.views next.book.leaves → made ≡ Ok next.book.leaves →
      Leads (looked_if found new state made) next
  leads_line state mid next made law book leaves says is =
      subst (λ m. Leads (looked_if found new state m) next) (sym is)
      (record {
        goes_on = refl;
        book = ap (λ (b : Pages). with_leaves b next.book.leaves) book ∙ sym leaves;
        edits = edits-true state.searched next.views next.book.leaves law says;
      })

  leads : (before : List Event) (state : Replacing) (event : Event) (mid next : Telling) → ((text : List ℕ) → AreSpots (length text) 0 (found text)) →
      AreSteps tales (start (2 ^ 20)) before mid → state.book ≡ mid.book → IsStep tales event mid next → Leads (event_course found new state event) next
  leads before state (line heard) mid next law come book is =
      let says = (books_say tales (2 ^ 20) (before ++ line heard ∷ []) next (steps_then (start (2 ^ 20)) mid next before (line heard) come is)).0 in
      leads_line state mid next (taken heard state.book.leaves) law book is.book says (ap (λ (b : Pages). taken heard b.leaves) book ∙ is.takes)
  leads before state asking mid next law come book is =
      record {
        goes_on = refl;
        book = ap (λ (b : Pages). after_asks b) book ∙ sym (ap (λ (telling : Telling). telling.book) is);
        edits = commands-true state.book.piece state.book.next state.book.leaves;
      }

  goes_by : (first next : Course) (now : Telling) → first.fault ≡ None → AreTrue first.asks → GoesTruly tales found new now next →
      GoesTruly tales found new now (unless_fault first.fault first next)
  goes_by first next now goes edits later =
      subst (λ fault. GoesTruly tales found new now (unless_fault fault first next)) (sym goes)
      (record {
        goes_on = later.goes_on;
        book = later.book;
        edits = AllByRecursion-append (λ command. ReplacesTruly tales found new command.act) first.asks next.asks edits later.edits;
      })

  pub goes : (before : List Event) (state : Replacing) (mid now : Telling) (events : List Event) → ((text : List ℕ) → AreSpots (length text) 0 (found text)) →
      AreSteps tales (start (2 ^ 20)) before mid → state.book ≡ mid.book → AreSteps tales mid events now → GoesTruly tales found new now (course found new state events)
  goes before state mid now [] law come book same =
      record { goes_on = refl; book = book ∙ sym (ap (λ (telling : Telling). telling.book) same); edits = tt }
  goes before state mid now (event ∷ events) law come book (next, step, later) =
      let first = event_course found new state event in
      let led = leads before state event mid next law come book step in
      goes_by first (course found new first.after events) now led.goes_on led.edits
      (goes (before ++ event ∷ []) first.after next now events law (steps_then (start (2 ^ 20)) mid next before event come step) led.book later)

pub edits_true : EditsAreTrue
edits_true tales found new events now law are = goes tales found new [] replacing_start (start (2 ^ 20)) now events law refl refl are
