-- The front end of a run on threads: what waits before each of its reads.
use Rattle.std.proofs.Common.{◌≡◌, List, [], ◌∷◌, map, refl, ap, ◌∙◌}
use Rattle.std.specs.List.{AllByRecursion}
use Rattle.xi_plain.specs.declared.entry.Entry.{Entry}
use Rattle.xi_plain.specs.Room.{Begins}
use Rattle.outside.specs.Source.{SourceState}
use Rattle.xi_top.specs.Ending.{Outcome}
use Rattle.xi_top.specs.Served.{AreInstants, Instant, IsServed, WasAnswered}
use Rattle.xi_top.proofs.ForCallers.{begins_on}
use Rattle.xi_forms.specs.InTime.{AreReadings, EntersInTime, IsEntered, Reading}

module _ {L : Type 0} (seen : L → List Entry) (later : L → L → Type 0) (ready : L → Type 0)
    (prefix : (a b : L) → later a b → Begins (seen a) (seen b)) where
  abbrev pub reading_at : Instant L → Reading
  reading_at instant = record { taken = instant.taken; source = instant.source }

  readings_are : (first : Instant L) (instants : List (Instant L)) → first.taken ≡ [] → AreInstants first instants →
      AreReadings first.source (map reading_at instants)
  readings_are first [] none are = tt
  readings_are first (instant ∷ []) none are = (ap (λ (i : Instant L). i.taken) are ∙ none, ap (λ (i : Instant L). i.source) are)
  readings_are first (instant ∷ before ∷ instants) none (next, rest) =
      (record { given = next.given; asked = next.asked; taken = next.taken }, readings_are first (before ∷ instants) none rest)

  entered_then : (first : Instant L) (now : L) (journal : List Entry) (instants : List (Instant L)) → Begins (seen now) journal →
      AllByRecursion (WasAnswered seen later ready first now) instants → AllByRecursion (IsEntered first.source journal) (map reading_at instants)
  entered_then first now journal [] begins each = tt
  entered_then first now journal (instant ∷ instants) begins each =
      let i = each.0 in
      let there = begins_on (seen instant.taker) (seen now) journal (prefix instant.taker now i.until) begins in (
        record {
          entries = seen instant.taker;
          later = there.0;
          first = there.1;
          asked = i.asked;
          sent = i.sent;
          gives = i.gives;
          no_read_failed = i.failures;
        },
        entered_then first now journal instants begins each.1,
      )

  pub EntersInTime-served : (before after : SourceState) (old new : L) (outcome : Outcome) (journal : List Entry) →
      IsServed seen later ready before after old new outcome → Begins (seen new) journal → EntersInTime before after journal
  EntersInTime-served before after old new outcome journal served begins =
      let timely = served.in_time in
      let first : Instant L = record { taken = []; source = before; taker = old } in
      let (answer, given, asked) = served.last in
      record {
        readings = map reading_at (served.latest ∷ timely.earlier);
        one_a_read = readings_are first (served.latest ∷ timely.earlier) refl timely.one_a_read;
        entered = entered_then first new journal (served.latest ∷ timely.earlier) begins timely.answered;
        last = record { answer = answer; given = given; asked = asked };
      }
