-- What lines and pages come to, one after the other.
use Rattle.std.proofs.Common.{◌≡◌, ℕ, ◌+◌, suc, ◌<◌, ◌≤◌, List, [], ◌∷◌, ◌++◌, map, length, drop, get_or, Option, Some, None, refl, sym, ap, subst, ◌∙◌, append_assoc, append-nil, add-one}
use Rattle.std.proofs.Math.Seq.{drop-cons}
use Rattle.std.proofs.lemmas.List.{map-append, drop_all}
use Rattle.std.specs.Str.{encode_utf8_all}
use Rattle.plain_text.specs.declared.run.Run.{Run}
use Rattle.xi_plain.specs.declared.command.Command.{Command}
use Rattle.plugin_side.specs.Asking.{turn_bytes}
use Rattle.plugin_side.specs.Heard.{heard_in}
use Rattle.plugin_mirror.specs.declared.fault.BookFault.{BookFault}
use Rattle.plugin_mirror.specs.declared.leaf.Leaf.{Leaf}
use Rattle.plugin_replacer.specs.Replacing.{Replacing, Course, behind, unless_fault, edits, edits_of, searched_all, searched_with, book_asks, line_course, turn_course}
use Rattle.plugin_replacer.specs.Turns.{Puts, PutsFirst, TakesCourse, in_utf8}

-- ---- lines that are put

pub Puts-none : (from : List (List ℕ)) → Puts [] from from
Puts-none from = sym (append-nil from)

pub Puts-then : (first later : List Command) (from between to : List (List ℕ)) → Puts first from between → Puts later between to → Puts (first ++ later) from to
Puts-then first later from between to h k =
    k ∙ ap (λ lines. lines ++ map turn_bytes later) h ∙ append_assoc from (map turn_bytes first) (map turn_bytes later) ∙
    ap (λ lines. from ++ lines) (sym (map-append turn_bytes first later))

pub Puts-pushed : (command : Command) (given : List ℕ) (before after : List (List ℕ)) → encode_utf8_all given ≡ turn_bytes command → after ≡ before ++ given ∷ [] →
    Puts (command ∷ []) (in_utf8 before) (in_utf8 after)
Puts-pushed command given before after is puts =
    ap in_utf8 puts ∙ map-append encode_utf8_all before (given ∷ []) ∙ ap (λ bytes. in_utf8 before ++ bytes ∷ []) is

pub PutsFirst-none : (commands : List Command) (from : List (List ℕ)) → PutsFirst commands from from
PutsFirst-none commands from = record { said = []; unsaid = commands; parts = refl; puts = Puts-none from }

pub PutsFirst-all : (commands : List Command) (from to : List (List ℕ)) → Puts commands from to → PutsFirst commands from to
PutsFirst-all commands from to h = record { said = commands; unsaid = []; parts = sym (append-nil commands); puts = h }

pub PutsFirst-then : (first later : List Command) (from between to : List (List ℕ)) → Puts first from between → PutsFirst later between to → PutsFirst (first ++ later) from to
PutsFirst-then first later from between to h k = record {
  said = first ++ k.said;
  unsaid = k.unsaid;
  parts = ap (λ rest. first ++ rest) k.parts ∙ sym (append_assoc first k.said k.unsaid);
  puts = Puts-then first k.said from between to h k.puts;
}

pub PutsFirst-more : (first later : List Command) (from to : List (List ℕ)) → PutsFirst first from to → PutsFirst (first ++ later) from to
PutsFirst-more first later from to h = record {
  said = h.said;
  unsaid = h.unsaid ++ later;
  parts = ap (λ front. front ++ later) h.parts ∙ append_assoc h.said h.unsaid later;
  puts = h.puts;
}

-- the item at a place, and those after it
left_at : {A : Type 0} (items : List A) (i : ℕ) (item : A) → i < length items → item ≡ get_or items i item → drop i items ≡ item ∷ drop (i + 1) items
left_at items i item below is = drop-cons items i item below ∙ ap (λ e. e ∷ drop (suc i) items) (sym is) ∙ ap (λ j. item ∷ drop j items) (sym (add-one i))

-- ---- pages

module _ (found : List ℕ → List Run) (new : List ℕ) where
  -- the pages that were searched so far, and the rest of them
  pub record SearchedSoFar (start now : List (List ℕ)) (leaves : List Leaf) (i : ℕ) (from to : List (List ℕ)) : Type 0 where
    pub said : List Command
    pub asks : edits found new start leaves ≡ said ++ edits found new now (drop i leaves)
    pub views : searched_all start leaves ≡ searched_all now (drop i leaves)
    pub puts : Puts said from to

  pub SearchedSoFar-start : (start : List (List ℕ)) (leaves : List Leaf) (from : List (List ℕ)) → SearchedSoFar start start leaves 0 from from
  SearchedSoFar-start start leaves from = record { said = []; asks = refl; views = refl; puts = Puts-none from }

  pub SearchedSoFar-next : (start now after : List (List ℕ)) (leaves : List Leaf) (i : ℕ) (leaf : Leaf) (from between to : List (List ℕ)) →
      SearchedSoFar start now leaves i from between → i < length leaves → leaf ≡ get_or leaves i leaf → after ≡ searched_with now leaf →
      Puts (edits_of found new now leaf) between to → SearchedSoFar start after leaves (i + 1) from to
  SearchedSoFar-next start now after leaves i leaf from between to so below is views puts =
      let left = left_at leaves i leaf below is in
      let rest = drop (i + 1) leaves in
      record {
        said = so.said ++ edits_of found new now leaf;
        asks =
            so.asks ∙ ap (λ ls. so.said ++ edits found new now ls) left ∙
            ap (λ vs. so.said ++ (edits_of found new now leaf ++ edits found new vs rest)) (sym views) ∙
            sym (append_assoc so.said (edits_of found new now leaf) (edits found new after rest));
        views = so.views ∙ ap (searched_all now) left ∙ ap (λ vs. searched_all vs rest) (sym views);
        puts = Puts-then so.said (edits_of found new now leaf) from between to so.puts puts;
      }

  pub SearchedSoFar-views : (start now : List (List ℕ)) (leaves : List Leaf) (i : ℕ) (from to : List (List ℕ)) → SearchedSoFar start now leaves i from to →
      length leaves ≤ i → now ≡ searched_all start leaves
  SearchedSoFar-views start now leaves i from to so end = sym (so.views ∙ ap (searched_all now) (drop_all i leaves end))

  pub SearchedSoFar-puts : (start now : List (List ℕ)) (leaves : List Leaf) (i : ℕ) (from to : List (List ℕ)) → SearchedSoFar start now leaves i from to →
      length leaves ≤ i → Puts (edits found new start leaves) from to
  SearchedSoFar-puts start now leaves i from to so end =
      subst (λ asks. Puts asks from to) (sym (so.asks ∙ ap (λ ls. so.said ++ edits found new now ls) (drop_all i leaves end) ∙ append-nil so.said)) so.puts

  pub SearchedSoFar-short : (start now : List (List ℕ)) (leaves : List Leaf) (i : ℕ) (from to : List (List ℕ)) → SearchedSoFar start now leaves i from to →
      PutsFirst (edits found new start leaves) from to
  SearchedSoFar-short start now leaves i from to so = record { said = so.said; unsaid = edits found new now (drop i leaves); parts = so.asks; puts = so.puts }

  -- ---- the lines of a turn

  -- a line more: what the turn comes to, by what the line comes to
  unended : (first next : Course) → first.fault ≡ None → unless_fault first.fault first next ≡ behind first.asks next
  unended first next is = ap (λ fault. unless_fault fault first next) is

  ended_by : (first next : Course) (fault : BookFault) → first.fault ≡ Some fault → unless_fault first.fault first next ≡ first
  ended_by first next fault is = ap (λ f. unless_fault f first next) is

  -- how far the turn's lines were taken, and the rest of them
  pub record TakenSoFar (start now : Replacing) (lines : List (List ℕ)) (i : ℕ) (from to : List (List ℕ)) : Type 0 where
    pub said : List Command
    pub whole : turn_course found new start (in_utf8 lines) ≡ behind said (turn_course found new now (in_utf8 (drop i lines)))
    pub puts : Puts said from to

  pub TakenSoFar-start : (start : Replacing) (lines from : List (List ℕ)) → TakenSoFar start start lines 0 from from
  TakenSoFar-start start lines from = record { said = []; whole = refl; puts = Puts-none from }

  -- what the rest comes to, from the next line on
  rest_of : (now : Replacing) (lines : List (List ℕ)) (i : ℕ) (given : List ℕ) → Course
  rest_of now lines i given =
      turn_course found new (line_course found new now (heard_in (encode_utf8_all given))).after (in_utf8 (drop (i + 1) lines))

  turned_next : (start now : Replacing) (lines : List (List ℕ)) (i : ℕ) (given : List ℕ) (from between : List (List ℕ)) → (so : TakenSoFar start now lines i from between) →
      i < length lines → given ≡ get_or lines i given →
      turn_course found new start (in_utf8 lines) ≡
      behind so.said
      (let first = line_course found new now (heard_in (encode_utf8_all given)) in
      unless_fault first.fault first (turn_course found new first.after (in_utf8 (drop (i + 1) lines))))
  turned_next start now lines i given from between so below is =
      so.whole ∙ ap (λ ls. behind so.said (turn_course found new now (in_utf8 ls))) (left_at lines i given below is)

  pub TakenSoFar-next : (start now after : Replacing) (lines : List (List ℕ)) (i : ℕ) (given : List ℕ) (from between to : List (List ℕ)) →
      TakenSoFar start now lines i from between → i < length lines → given ≡ get_or lines i given →
      TakesCourse (line_course found new now (heard_in (encode_utf8_all given))) after None between to → TakenSoFar start after lines (i + 1) from to
  TakenSoFar-next start now after lines i given from between to so below is comes =
      let first = line_course found new now (heard_in (encode_utf8_all given)) in
      let rest = in_utf8 (drop (i + 1) lines) in
      record {
        said = so.said ++ first.asks;
        whole =
            turned_next start now lines i given from between so below is ∙
            ap (behind so.said) (unended first (turn_course found new first.after rest) (sym comes.ended)) ∙
            ap (λ asks. record { after = (turn_course found new first.after rest).after; asks = asks; fault = (turn_course found new first.after rest).fault })
            (sym (append_assoc so.said first.asks (turn_course found new first.after rest).asks)) ∙
            ap (λ state. behind (so.said ++ first.asks) (turn_course found new state rest)) (sym comes.state);
        puts = Puts-then so.said first.asks from between to so.puts comes.puts;
      }

  -- a fault ended the turn here
  pub TakenSoFar-ended : (start now after : Replacing) (lines : List (List ℕ)) (i : ℕ) (given : List ℕ) (fault : BookFault) (from between to : List (List ℕ)) →
      TakenSoFar start now lines i from between → i < length lines → given ≡ get_or lines i given →
      TakesCourse (line_course found new now (heard_in (encode_utf8_all given))) after (Some fault) between to →
      TakesCourse (turn_course found new start (in_utf8 lines)) after (Some fault) from to
  TakenSoFar-ended start now after lines i given fault from between to so below is comes =
      let first = line_course found new now (heard_in (encode_utf8_all given)) in
      let rest = in_utf8 (drop (i + 1) lines) in
      let same : turn_course found new start (in_utf8 lines) ≡ behind so.said first =
      turned_next start now lines i given from between so below is ∙
      ap (behind so.said) (ended_by first (turn_course found new first.after rest) fault (sym comes.ended)) in
      subst (λ course. TakesCourse course after (Some fault) from to) (sym same)
      (record { state = comes.state; ended = comes.ended; puts = Puts-then so.said first.asks from between to so.puts comes.puts })

  -- memory was wanting here
  first_of : (first next : Course) (from to : List (List ℕ)) → PutsFirst first.asks from to → PutsFirst (unless_fault first.fault first next).asks from to
  first_of first next from to h = by_fault first.fault
    where
      by_fault : (fault : Option BookFault) → PutsFirst (unless_fault fault first next).asks from to
      by_fault None = PutsFirst-more first.asks next.asks from to h
      by_fault (Some fault) = h

  pub TakenSoFar-short : (start now : Replacing) (lines : List (List ℕ)) (i : ℕ) (given : List ℕ) (from between to : List (List ℕ)) →
      TakenSoFar start now lines i from between → i < length lines → given ≡ get_or lines i given →
      PutsFirst (line_course found new now (heard_in (encode_utf8_all given))).asks between to →
      PutsFirst (turn_course found new start (in_utf8 lines)).asks from to
  TakenSoFar-short start now lines i given from between to so below is short =
      let first = line_course found new now (heard_in (encode_utf8_all given)) in
      let next = turn_course found new first.after (in_utf8 (drop (i + 1) lines)) in
      subst (λ course. PutsFirst course.asks from to) (sym (turned_next start now lines i given from between so below is))
      (PutsFirst-then so.said (unless_fault first.fault first next).asks from between to so.puts (first_of first next between to short))

  -- all lines were taken, and then the book asked
  turned_end : (start now : Replacing) (lines : List (List ℕ)) (i : ℕ) (from between : List (List ℕ)) → (so : TakenSoFar start now lines i from between) → length lines ≤ i →
      turn_course found new start (in_utf8 lines) ≡ behind (so.said ++ (book_asks now).asks) (record { after = (book_asks now).after; asks = []; fault = None })
  turned_end start now lines i from between so end =
      so.whole ∙ ap (λ ls. behind so.said (turn_course found new now (in_utf8 ls))) (drop_all i lines end) ∙
      ap (λ asks. record { after = (book_asks now).after; asks = asks; fault = None }) (sym (append_assoc so.said (book_asks now).asks []))

  pub TakenSoFar-end : (start now after : Replacing) (lines : List (List ℕ)) (i : ℕ) (from between to : List (List ℕ)) → TakenSoFar start now lines i from between →
      length lines ≤ i → TakesCourse (book_asks now) after None between to → TakesCourse (turn_course found new start (in_utf8 lines)) after None from to
  TakenSoFar-end start now after lines i from between to so end comes =
      let said = so.said ++ (book_asks now).asks in
      subst (λ course. TakesCourse course after None from to) (sym (turned_end start now lines i from between so end))
      (record {
        state = comes.state;
        ended = refl;
        puts = subst (λ asks. Puts asks from to) (sym (append-nil said)) (Puts-then so.said (book_asks now).asks from between to so.puts comes.puts);
      })

  pub TakenSoFar-unasked : (start now : Replacing) (lines : List (List ℕ)) (i : ℕ) (from to : List (List ℕ)) → TakenSoFar start now lines i from to →
      PutsFirst (turn_course found new start (in_utf8 lines)).asks from to
  TakenSoFar-unasked start now lines i from to so =
      record {
        said = so.said;
        unsaid = (turn_course found new now (in_utf8 (drop i lines))).asks;
        parts = ap (λ course. course.asks) so.whole;
        puts = so.puts;
      }
