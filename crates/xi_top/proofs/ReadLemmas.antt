-- Lemmas on a run from read to read: what a step comes to, and what was so before each read.
use Rattle.std.proofs.Common.{◌≡◌, ℕ, ◌<◌, ◌≤◌, List, [], ◌∷◌, ◌++◌, length, Option, Some, None, Ok, Err, refl, ap, sym, ◌∙◌, subst, append-nil, arith}
use Rattle.std.specs.Prelude.{IfSome, unwrap_or}
use Rattle.std.specs.List.{AllByRecursion}
use Rattle.xi_plain.specs.declared.entry.Entry.{Entry}
use Rattle.outside.specs.Faults.{Rose, counted}
use Rattle.outside.specs.declared.source.Pulled.{Pulled}
use Rattle.outside.specs.declared.source.Pulled.TheVariants.{Got, End, Failed}
use Rattle.outside.specs.Source.{SourceState, Gives, reads_after}
use Rattle.outside.proofs.ForCallers.{Gives-append, Rose-earlier}
use Rattle.xi_top.specs.declared.step.Run.{Run}
use Rattle.xi_top.specs.declared.step.Stepped.{Stepped}
use Rattle.xi_top.specs.declared.step.Stepped.TheVariants.{Goes, Ends}
use Rattle.xi_top.specs.declared.ending.Ending.TheVariants.{NoMemory, SourceFault, SinkFault, TooMany, TooLong}
use Rattle.xi_top.specs.Ending.{Outcome}
use Rattle.xi_top.specs.Run.{HasFailedIf}
use Rattle.xi_top.specs.Step.{AsksOnce, HasAnswered, IsNoSourceFault, IsStep, Stops, StepsBy, begun_of, most_read}
use Rattle.xi_top.specs.Served.{FailsOnceIf, Instant, IsInTime, IsServed, IsSoFar, WasAnswered}
use Rattle.xi_top.specs.InnerRun.{GoesOn, step_after}
use Rattle.xi_top.proofs.IntakeLemmas.{left_told, no_failure, stops_source}

-- ---- a step

module _ {L : Type 0} (seen : L → List Entry) (taken : List ℕ) (before after : SourceState) (run : Run L) where
  -- where the source failed, the run stopped with what it had answered
  pub step_failed : Gives before.left after.left [] → before.faults ≤ after.faults → Rose before.faults after.faults →
      after.failures ≡ counted before.failures → after.reads ≡ reads_after before.reads → HasAnswered seen taken run →
      IsStep seen taken before after run (Ends (Err SourceFault))
  step_failed gives stays rose failures reads at =
      let At : List ℕ → List ℕ → Type 0 = λ left bytes. Stops (seen run.taker) bytes left (Err SourceFault) in
      record {
        answer = Failed;
        given = [];
        asked = record { gives = gives; given_by = refl; stays = stays; rose = λ is. rose; failures = failures; reads = reads };
        comes_to = (refl, λ left. subst (At left) (sym (append-nil taken)) (stops_source taken left (seen run.taker) (begun_of run.intake) at));
      }

  got_comes_to : (given : List ℕ) (n : ℕ) (outcome : Outcome) → GoesOn (seen run.taker) (taken ++ given) (begun_of run.intake) outcome →
      StepsBy seen (taken ++ given) run (Got n) (step_after outcome)
  got_comes_to given n (Ok done) goes = goes
  got_comes_to given n (Err ending) goes = goes

  -- where it gave some bytes, the run goes on or stopped as they say
  pub step_got : (given : List ℕ) (n : ℕ) (outcome : Outcome) (stepped : Stepped) → Gives before.left after.left given → length given ≡ n → 0 < n →
      n ≤ most_read → before.faults ≤ after.faults → after.failures ≡ before.failures → after.reads ≡ reads_after before.reads →
      stepped ≡ step_after outcome → GoesOn (seen run.taker) (taken ++ given) (begun_of run.intake) outcome → IsStep seen taken before after run stepped
  step_got given n outcome stepped gives len some fits stays failures reads is goes =
      let At : Stepped → Type 0 = λ s. IsStep seen taken before after run s in
      subst At (sym is) (record {
        answer = Got n;
        given = given;
        asked = record { gives = gives; given_by = (len, some, fits); stays = stays; rose = λ same. absurd cc; failures = failures; reads = reads };
        comes_to = got_comes_to given n outcome goes;
      })

-- ---- before each read

given_none : (told : Option (List ℕ)) → Gives told told []
given_none None = tt
given_none (Some bytes) = refl

-- the run did not stop
no_failures : (outcome : Outcome) (old new : SourceState) → IsNoSourceFault outcome → new.failures ≡ old.failures → FailsOnceIf outcome old new
no_failures (Ok done) old new inside same = same
no_failures (Err NoMemory) old new inside same = same
no_failures (Err SinkFault) old new inside same = same
no_failures (Err TooMany) old new inside same = same
no_failures (Err TooLong) old new inside same = same
no_failures (Err SourceFault) old new inside same = absurd inside

module _ {L : Type 0} (seen : L → List Entry) (later : L → L → Type 0) (ready : L → Type 0) (onward : (a b c : L) → later a b → later b c → later a c) where
  -- what was so stays so while lines are taken
  stays_answered : (first : Instant L) (now next : L) (instants : List (Instant L)) → later now next →
      AllByRecursion (WasAnswered seen later ready first now) instants → AllByRecursion (WasAnswered seen later ready first next) instants
  stays_answered first now next [] on each = tt
  stays_answered first now next (instant ∷ instants) on each = (
    record {
      asked = each.0.asked;
      sent = each.0.sent;
      gives = each.0.gives;
      failures = each.0.failures;
      usable = each.0.usable;
      since = each.0.since;
      until = onward instant.taker now next each.0.until on;
    },
    stays_answered first now next instants on each.1,
  )

  pub in_time_later : (first : Instant L) (now next : L) (latest : Instant L) → later now next → IsInTime seen later ready first now latest →
      IsInTime seen later ready first next latest
  in_time_later first now next latest on in_time = record {
    earlier = in_time.earlier;
    one_a_read = in_time.one_a_read;
    answered = stays_answered first now next (latest ∷ in_time.earlier) on in_time.answered;
  }

  -- before the first read
  pub so_far_first : (before : SourceState) (run : Run L) → later run.taker run.taker → ready run.taker → HasAnswered seen [] run →
      IsSoFar seen later ready before before run.taker run
  so_far_first before run same usable at = record {
    taken = [];
    answered = at;
    gives = given_none before.left;
    stays = omega arith;
    failures = refl;
    in_time = record {
      earlier = [];
      one_a_read = refl;
      answered = (
        record {
          asked = at.asked;
          sent = at.sent;
          gives = given_none before.left;
          failures = refl;
          usable = usable;
          since = same;
          until = same;
        },
        tt,
      );
    };
  }

  -- after one read more
  pub so_far_next : (before now after : SourceState) (start : L) (old new : Run L) (so_far : IsSoFar seen later ready before now start old) →
      later old.taker new.taker → later new.taker new.taker → ready new.taker → IsStep seen so_far.taken now after new Goes →
      IsSoFar seen later ready before after start new
  so_far_next before now after start old new so_far on same usable step = by step.answer step.asked step.comes_to
    where
      by : (answer : Pulled) → AsksOnce now after answer step.given → StepsBy seen (so_far.taken ++ step.given) new answer Goes →
          IsSoFar seen later ready before after start new
      by (Got n) asked at =
          let At : ℕ → Type 0 = λ m. AsksOnce now after (Got m) step.given in
          let first : Instant L = record { taken = []; source = before; taker = start } in
          let instant : Instant L = record { taken = so_far.taken; source = now; taker = old.taker } in
          let gives : Gives before.left after.left (so_far.taken ++ step.given) =
          Gives-append before.left now.left after.left so_far.taken step.given so_far.gives asked.gives in
          let failures : after.failures ≡ before.failures = asked.failures ∙ so_far.failures in
          record {
            taken = so_far.taken ++ step.given;
            answered = at;
            gives = gives;
            stays = omega (arith, so_far.stays, asked.stays);
            failures = failures;
            in_time = record {
              earlier = instant ∷ so_far.in_time.earlier;
              one_a_read = (
                record { given = step.given; asked = subst At (sym asked.given_by.0) asked; taken = refl },
                so_far.in_time.one_a_read,
              );
              answered = (
                record {
                  asked = at.asked;
                  sent = at.sent;
                  gives = gives;
                  failures = failures;
                  usable = usable;
                  since = onward start old.taker new.taker so_far.in_time.answered.0.since on;
                  until = same;
                },
                stays_answered first old.taker new.taker (instant ∷ so_far.in_time.earlier) on so_far.in_time.answered,
              );
            };
          }
      by End asked at = absurd at
      by Failed asked at = absurd at

  -- after the last one
  pub served : (before now after : SourceState) (start : L) (old new : Run L) (outcome : Outcome) (so_far : IsSoFar seen later ready before now start old) →
      later old.taker new.taker → IsStep seen so_far.taken now after new (Ends outcome) → IsServed seen later ready before after start new.taker outcome
  served before now after start old new outcome so_far on step = by step.answer outcome step.asked step.comes_to
    where
      gives : Gives before.left after.left (so_far.taken ++ step.given)
      gives = Gives-append before.left now.left after.left so_far.taken step.given so_far.gives step.asked.gives

      by_stops : (answer : Pulled) (outcome : Outcome) (left : List ℕ) → AsksOnce now after answer step.given →
          Stops (seen new.taker) (so_far.taken ++ step.given) left outcome → IfSome after.left (λ bytes. bytes ≡ left) → HasFailedIf outcome before after →
          FailsOnceIf outcome before after → IsServed seen later ready before after start new.taker outcome
      by_stops answer outcome left asked stops leaves failed failures =
          let latest : Instant L = record { taken = so_far.taken; source = now; taker = old.taker } in
          record {
            taken = so_far.taken ++ step.given;
            left = left;
            gives = gives;
            leaves = leaves;
            stops = stops;
            source_failed = failed;
            stays = omega (arith, so_far.stays, asked.stays);
            source_failures = failures;
            latest = latest;
            in_time = in_time_later (record { taken = []; source = before; taker = start }) old.taker new.taker latest on so_far.in_time;
            last = (answer, step.given, asked);
          }

      by : (answer : Pulled) (outcome : Outcome) → AsksOnce now after answer step.given →
          StepsBy seen (so_far.taken ++ step.given) new answer (Ends outcome) → IsServed seen later ready before after start new.taker outcome
      by (Got n) (Ok done) asked at = absurd at
      by (Got n) (Err ending) asked (inside, stops) =
          by_stops (Got n) (Err ending) (unwrap_or after.left []) asked (stops (unwrap_or after.left [])) (left_told after.left)
          (no_failure (Err ending) before after inside) (no_failures (Err ending) before after inside (asked.failures ∙ so_far.failures))
      by End outcome asked (inside, stops) =
          by_stops End outcome [] asked stops asked.given_by.1 (no_failure outcome before after inside)
          (no_failures outcome before after inside (asked.failures ∙ so_far.failures))
      by Failed outcome asked (is, stops) =
          let Has : Outcome → Type 0 = λ o. HasFailedIf o before after in
          let Fails : Outcome → Type 0 = λ o. FailsOnceIf o before after in
          by_stops Failed outcome (unwrap_or after.left []) asked (stops (unwrap_or after.left [])) (left_told after.left)
          (subst Has (sym is) (Rose-earlier before.faults now.faults after.faults so_far.stays (asked.rose refl)))
          (subst Fails (sym is) (asked.failures ∙ ap counted so_far.failures))
