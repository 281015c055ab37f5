-- Lemmas on a run between two bytes: how each step goes on or stops.
use Rattle.std.proofs.Common.{◌≡◌, ◌≢◌, ℕ, Bool, ◌+◌, ◌<◌, ◌≤◌, inl, inr, true, false, List, [], ◌∷◌, ◌++◌, length, map, Option, Some, None, Ok, Err, refl, ap, sym, ◌∙◌, subst, append_assoc, append-nil, length-append, arith}
use Rattle.std.proofs.lemmas.List.{map-append}
use Rattle.std.proofs.lemmas.List.Folds.{concat-append}
use Rattle.std.specs.Prelude.{IfSome, unwrap_or}
use Rattle.std.specs.Result.{IsErrAnd}
use Rattle.std.specs.List.{AllByRecursion, concat}
use Rattle.xi_plain.specs.declared.command.Command.{Command}
use Rattle.xi_plain.specs.declared.entry.Entry.{Entry}
use Rattle.xi_plain.specs.Journal.{commands, front_entries}
use Rattle.plain_text.specs.InputLines.{ended_lines, unended, last_line, lines_of}
use Rattle.plain_text.proofs.callers.InputLemmas.{concat-ended_lines, concat-last_line, concat-lines_of, unended-append}
use Rattle.front_wire.specs.Front.{command_of}
use Rattle.outside.specs.Source.{SourceState, Gives}
use Rattle.outside.proofs.ForCallers.{Gives-append}
use Rattle.xi_top.specs.declared.ending.Ending.{Ending}
use Rattle.xi_top.specs.declared.ending.Ending.TheVariants.{NoMemory, SourceFault, SinkFault, TooMany, TooLong}
use Rattle.xi_top.specs.Ending.{Outcome, most_lines, too_long}
use Rattle.xi_top.specs.Lines.{IsShort, IsWithinLimit, IsNextTooLong, AreSoMany, HoldsLines}
use Rattle.xi_top.specs.Written.{AreSent}
use Rattle.xi_top.specs.Run.{HasFailedIf}
use Rattle.xi_top.specs.InnerRun.{Begun, IsSmall, HasTaken, IsEntry, IsNoSourceFault, Stops, GoesOn, Finishes, Enters, FailsBy, KeepsBytes, Counts, EndsLine, HasNoEnd}
use Rattle.xi_top.proofs.LineLemmas.{ended_lines-more, unended-more, ended_lines-begin, unended-begin, lines_of-first, concat-first}

-- how a run ended where `?` handed on why
pub failed_with : (outcome : Outcome) (ending : Ending) → IsErrAnd outcome (λ e. e ≡ ending) → outcome ≡ Err ending
failed_with (Ok done) ending is = absurd is
failed_with (Err e) ending is = ap Err is

-- ---- one more entry

commands_more : (old new : List Entry) (line : List ℕ) (lines : List (List ℕ)) (sent : Bool) → commands (front_entries old) ≡ map command_of lines →
    IsEntry old new line sent → commands (front_entries new) ≡ map command_of (lines ++ line ∷ [])
commands_more old new line lines sent asked one =
    ap commands one.added ∙ map-append (λ entry. entry.command) (front_entries old) (one.entry ∷ []) ∙
    ap (λ front. front ++ one.entry.command ∷ []) asked ∙ ap (λ command. map command_of lines ++ command ∷ []) one.asks ∙
    sym (map-append command_of lines (line ∷ []))

sent_snoc : (entries : List Entry) (entry : Entry) → AreSent entries → entry.sent ≡ true → AreSent (entries ++ entry ∷ [])
sent_snoc [] entry each here = (here, tt)
sent_snoc (first ∷ entries) entry each here = (each.0, sent_snoc entries entry each.1 here)

sent_more : (old new : List Entry) (line : List ℕ) → AreSent (front_entries old) → IsEntry old new line true → AreSent (front_entries new)
sent_more old new line each one = subst AreSent (sym one.added) (sent_snoc (front_entries old) one.entry each one.sent_is)

-- what holds of some lines and of one more
each_append : (P : List ℕ → Type 0) (lines : List (List ℕ)) (line : List ℕ) → AllByRecursion P lines → P line → AllByRecursion P (lines ++ line ∷ [])
each_append P [] line each here = (here, tt)
each_append P (first ∷ lines) line each here = (each.0, each_append P lines line each.1 here)

-- lines are within the limits of a run
AreWithin : List (List ℕ) → Type 0
AreWithin lines = AllByRecursion IsWithinLimit lines × (length lines ≤ most_lines)

-- so is one line more, where there were fewer
within_more : (lines : List (List ℕ)) (line : List ℕ) → AllByRecursion IsWithinLimit lines → length lines < most_lines → IsWithinLimit line →
    AreWithin (lines ++ line ∷ [])
unfolding AreWithin
within_more lines line each fewer here = (each_append IsWithinLimit lines line each here, omega (arith, fewer, length-append lines (line ∷ [])))

-- a line that LF ends is within the limit, where it is not too long with it
within_ended : (begun bytes line : List ℕ) → EndsLine bytes → line ≡ begun ++ bytes → length line ≤ too_long → IsWithinLimit line
within_ended begun bytes line (front, is, none) same fits =
    let whole : line ≡ (begun ++ front) ++ 10 ∷ [] = same ∙ ap (λ b. begun ++ b) is ∙ sym (append_assoc begun front (10 ∷ [])) in
    (begun ++ front, omega (arith, fits, ap length whole, length-append (begun ++ front) (10 ∷ [])), inr whole)

-- the first lines of an input, where these bytes were taken after the last LF of them, or more lines
holds_first : (outcome : Outcome) (front extra left : List ℕ) (asked : List Command) → asked ≡ map command_of (ended_lines [] front) →
    AreWithin (ended_lines [] front) →
    AreSoMany outcome (front ++ extra) left (ended_lines [] front) (ended_lines (unended [] front) (extra ++ left) ++ last_line (unended [] (front ++ (extra ++ left)))) →
    HoldsLines outcome (front ++ extra) left asked
unfolding AreWithin
holds_first outcome front extra left asked is within many = record {
  lines = ended_lines [] front;
  later = ended_lines (unended [] front) (extra ++ left) ++ last_line (unended [] (front ++ (extra ++ left)));
  rest = unended [] front ++ extra;
  first = ap lines_of (append_assoc front extra left) ∙ lines_of-first front (extra ++ left);
  whole = concat-first front extra;
  asked = is;
  so_many = many;
  within = within.0;
  few = within.1;
}

within_taken : (journal : List Entry) (taken : List ℕ) (begun : Begun) → HasTaken journal taken begun → AreWithin (ended_lines [] taken)
unfolding AreWithin
within_taken journal taken begun at = (at.within, omega (arith, at.few, at.counted))

-- ---- stops

-- the source failed
pub stops_source : (taken left : List ℕ) (journal : List Entry) (begun : Begun) → HasTaken journal taken begun → Stops journal taken left (Err SourceFault)
stops_source taken left journal begun at =
    let At : List ℕ → Type 0 = λ bytes. HoldsLines (Err SourceFault) bytes left (commands (front_entries journal)) in
    let many : ended_lines [] taken ≡ ended_lines [] (taken ++ []) = ap (ended_lines []) (sym (append-nil taken)) in
    record {
      lines =
          subst At (append-nil taken)
          (holds_first (Err SourceFault) taken [] left (commands (front_entries journal)) at.asked (within_taken journal taken begun at) many);
      cut = at.sent;
    }

-- a line comes later, where bytes stand after the last LF
later_some : (front bytes : List ℕ) → unended [] front ++ bytes ≢ [] → ended_lines (unended [] front) bytes ++ last_line (unended [] (front ++ bytes)) ≢ []
later_some front bytes some = λ none. some (sym whole ∙ ap concat none)
  where
    ended : List (List ℕ)
    ended = ended_lines (unended [] front) bytes

    last : List ℕ
    last = unended [] (front ++ bytes)

    whole : concat (ended ++ last_line last) ≡ unended [] front ++ bytes
    whole =
        concat-append ended (last_line last) ∙ ap (λ rest. concat ended ++ rest) (concat-last_line last ∙ unended-append [] front bytes) ∙
        concat-ended_lines (unended [] front) bytes

-- bytes that LF ends are some
pub ends_some : (begun bytes : List ℕ) → EndsLine bytes → begun ++ bytes ≢ []
ends_some begun bytes (front, is, none) = λ nil.
    absurd (omega (arith, ap length nil, ap length is, length-append begun bytes, length-append front (10 ∷ [])))

-- there was no memory, and these are the first lines, after which bytes stand
stops_memory : (front extra left : List ℕ) (journal : List Entry) → commands (front_entries journal) ≡ map command_of (ended_lines [] front) →
    AreSent (front_entries journal) → AreWithin (ended_lines [] front) → unended [] front ++ extra ≢ [] → Stops journal (front ++ extra) left (Err NoMemory)
stops_memory front extra left journal asked sent within some =
    let more : unended [] front ++ (extra ++ left) ≢ [] = λ nil.
    some (first_nil (unended [] front ++ extra) left (append_assoc (unended [] front) extra left ∙ nil)) in
    record {
      lines =
          holds_first (Err NoMemory) front extra left (commands (front_entries journal)) asked within (later_some front (extra ++ left) more);
      cut = sent;
    }
  where
    first_nil : (xs ys : List ℕ) → xs ++ ys ≡ [] → xs ≡ []
    first_nil [] ys nil = refl
    first_nil (x ∷ xs) ys nil = absurd (omega (arith, ap length nil))

-- the same where nothing more was entered
same_front : (old new : List Entry) (taken : List ℕ) → front_entries new ≡ front_entries old →
    commands (front_entries old) ≡ map command_of (ended_lines [] taken) → commands (front_entries new) ≡ map command_of (ended_lines [] taken)
same_front old new taken same asked = ap commands same ∙ asked

-- ---- a line that ends

module _ (taken bytes line : List ℕ) (old new : List Entry) (begun : Begun) (ends : EndsLine bytes) (at : HasTaken old taken begun)
    (is : line ≡ begun.bytes ++ bytes) where
  same_line : unended [] taken ++ bytes ≡ line
  same_line = ap (λ b. b ++ bytes) (sym at.rest) ∙ sym is

  one_more : ended_lines [] (taken ++ bytes) ≡ ended_lines [] taken ++ line ∷ []
  one_more = ended_lines-more taken bytes ends ∙ ap (λ l. ended_lines [] taken ++ l ∷ []) same_line

  here_within : length line ≤ too_long → IsWithinLimit line
  here_within fits = within_ended begun.bytes bytes line ends is fits

  within_one_more : length line ≤ too_long → begun.count < most_lines → AreWithin (ended_lines [] (taken ++ bytes))
  within_one_more fits fewer =
      subst AreWithin (sym one_more) (within_more (ended_lines [] taken) line at.within (omega (arith, fewer, at.counted)) (here_within fits))

  asked_more : (sent : Bool) → IsEntry old new line sent → commands (front_entries new) ≡ map command_of (ended_lines [] (taken ++ bytes))
  asked_more sent one = commands_more old new line (ended_lines [] taken) sent at.asked one ∙ ap (map command_of) (sym one_more)

  -- it was not taken
  pub stops_line : (ending : Ending) → length line ≤ too_long → begun.count < most_lines → FailsBy old new line ending → (left : List ℕ) →
      Stops new (taken ++ bytes) left (Err ending)
  stops_line SinkFault fits fewer (over, inl one) left =
      let At : List ℕ → Type 0 = λ all. HoldsLines (Err SinkFault) all left (commands (front_entries new)) in
      record {
        lines =
            subst At (append-nil (taken ++ bytes))
            (holds_first (Err SinkFault) (taken ++ bytes) [] left (commands (front_entries new)) (asked_more false one) (within_one_more fits fewer) tt);
        cut = over;
      }
  stops_line SinkFault fits fewer (over, inr same) left = record {
    lines =
        holds_first (Err SinkFault) taken bytes left (commands (front_entries new)) (same_front old new taken same at.asked)
        (within_taken old taken begun at) tt;
    cut = over;
  }
  stops_line NoMemory fits fewer same left =
      stops_memory taken bytes left new (same_front old new taken same at.asked) (subst AreSent (sym same) at.sent) (within_taken old taken begun at)
      (ends_some (unended [] taken) bytes ends)
  stops_line SourceFault fits fewer fails left = absurd fails
  stops_line TooMany fits fewer fails left = absurd fails
  stops_line TooLong fits fewer fails left = absurd fails

  -- or it was
  pub takes_line : (next : Begun) → length line ≤ too_long → begun.count < most_lines → IsEntry old new line true → next.bytes ≡ [] →
      next.count ≡ begun.count + 1 → HasTaken new (taken ++ bytes) next
  takes_line next fits fewer one none count_is =
      let count : length (ended_lines [] (taken ++ bytes)) ≡ length (ended_lines [] taken) + 1 =
      ap length one_more ∙ length-append (ended_lines [] taken) (line ∷ []) in
      record {
        asked = asked_more true one;
        sent = sent_more old new line at.sent one;
        rest = none ∙ sym (unended-more taken bytes ends);
        short = subst (AllByRecursion IsShort) (sym one_more) (each_append IsShort (ended_lines [] taken) line at.short fits);
        within = subst (AllByRecursion IsWithinLimit) (sym one_more) (each_append IsWithinLimit (ended_lines [] taken) line at.within (here_within fits));
        counted = omega (arith, count_is, count, at.counted);
        few = omega (arith, count_is, fewer);
      }

-- there was no memory for its bytes
pub stops_no_room : (taken bytes : List ℕ) (journal : List Entry) (begun : Begun) → HasTaken journal taken begun → begun.bytes ++ bytes ≢ [] →
    (left : List ℕ) → Stops journal (taken ++ bytes) left (Err NoMemory)
stops_no_room taken bytes journal begun at some left =
    stops_memory taken bytes left journal at.asked at.sent (within_taken journal taken begun at) (λ nil. some (ap (λ b. b ++ bytes) at.rest ∙ nil))

-- a line is too long: these first bytes of it have no LF
stops_too_long : (taken bytes more left : List ℕ) (journal : List Entry) (begun : Begun) → HasTaken journal taken begun → HasNoEnd bytes →
    too_long ≤ length (begun.bytes ++ bytes) → Stops journal (taken ++ (bytes ++ more)) left (Err TooLong)
stops_too_long taken bytes more left journal begun at none over =
    let Long : List ℕ → Type 0 = λ b. too_long ≤ length b in
    let next : IsNextTooLong (taken ++ (bytes ++ more)) (ended_lines [] taken) = record {
      front = taken ++ bytes;
      more = more;
      cut = sym (append_assoc taken bytes more);
      ended = sym (ended_lines-begin taken bytes none);
      short = at.short;
      long = subst Long (ap (λ b. b ++ bytes) at.rest ∙ sym (unended-begin taken bytes none)) over;
    } in
    record {
      lines = holds_first (Err TooLong) taken (bytes ++ more) left (commands (front_entries journal)) at.asked (within_taken journal taken begun at) next;
      cut = at.sent;
    }

pub stops_long_line : (taken bytes : List ℕ) (journal : List Entry) (begun : Begun) → EndsLine bytes → HasTaken journal taken begun →
    too_long < length (begun.bytes ++ bytes) → (left : List ℕ) → Stops journal (taken ++ bytes) left (Err TooLong)
stops_long_line taken bytes journal begun (front, is, none) at over left =
    let At : List ℕ → Type 0 = λ b. Stops journal (taken ++ b) left (Err TooLong) in
    subst At (sym is)
    (stops_too_long taken front (10 ∷ []) left journal begun at none
    (omega (
      arith,
      over,
      ap length is,
      length-append begun.bytes bytes,
      length-append begun.bytes front,
      length-append front (10 ∷ []),
    )))

-- as many lines were taken as a run takes
stops_many : (taken left : List ℕ) (journal : List Entry) (begun : Begun) → HasTaken journal taken begun → begun.count ≡ most_lines →
    Stops journal taken left (Err TooMany)
stops_many taken left journal begun at full =
    let At : List ℕ → Type 0 = λ bytes. HoldsLines (Err TooMany) bytes left (commands (front_entries journal)) in
    record {
      lines =
          subst At (append-nil taken)
          (holds_first (Err TooMany) taken [] left (commands (front_entries journal)) at.asked (within_taken journal taken begun at) (sym at.counted ∙ full));
      cut = at.sent;
    }

-- a line was taken, and was the last one that a run takes or not
pub goes_next : (taken : List ℕ) (journal : List Entry) (begun : Begun) (outcome : Outcome) → HasTaken journal taken begun → Counts begun.count outcome →
    GoesOn journal taken begun outcome
goes_next taken journal begun (Ok done) at counts = at
goes_next taken journal begun (Err ending) at counts =
    let At : Ending → Type 0 = λ e. IsNoSourceFault (Err e) × ((more : List ℕ) → Stops journal taken more (Err e)) in
    subst At (sym counts.0) (tt, λ more. stops_many taken more journal begun at counts.1)

-- ---- bytes that end no line

pub goes_begin : (taken bytes : List ℕ) (journal : List Entry) (begun next : Begun) (outcome : Outcome) → HasNoEnd bytes → HasTaken journal taken begun →
    KeepsBytes begun next bytes outcome → GoesOn journal (taken ++ bytes) next outcome
goes_begin taken bytes journal begun next (Ok done) none at kept =
    let same : ended_lines [] (taken ++ bytes) ≡ ended_lines [] taken = ended_lines-begin taken bytes none in
    record {
      asked = at.asked ∙ ap (map command_of) (sym same);
      sent = at.sent;
      rest = kept.joined ∙ ap (λ b. b ++ bytes) at.rest ∙ sym (unended-begin taken bytes none);
      short = subst (AllByRecursion IsShort) (sym same) at.short;
      within = subst (AllByRecursion IsWithinLimit) (sym same) at.within;
      counted = kept.count ∙ at.counted ∙ ap length (sym same);
      few = omega (arith, at.few, kept.count);
    }
goes_begin taken bytes journal begun next (Err NoMemory) none at kept = (tt, λ left. stops_no_room taken bytes journal begun at kept left)
goes_begin taken bytes journal begun next (Err TooLong) none at kept =
    let At : List ℕ → List ℕ → Type 0 = λ left b. Stops journal (taken ++ b) left (Err TooLong) in
    (tt, λ left. subst (At left) (append-nil bytes) (stops_too_long taken bytes [] left journal begun at none kept))
goes_begin taken bytes journal begun next (Err SourceFault) none at kept = absurd kept
goes_begin taken bytes journal begun next (Err SinkFault) none at kept = absurd kept
goes_begin taken bytes journal begun next (Err TooMany) none at kept = absurd kept

-- ---- bytes that were taken besides

many_later : (ending : Ending) (taken later left : List ℕ) (lines others : List (List ℕ)) → IsNoSourceFault (Err ending) →
    AreSoMany (Err ending) taken (later ++ left) lines others → AreSoMany (Err ending) (taken ++ later) left lines others
many_later NoMemory taken later left lines others inside many = many
many_later SinkFault taken later left lines others inside many = tt
many_later TooMany taken later left lines others inside many = many
many_later TooLong taken later left lines others inside many = record {
  front = many.front;
  more = many.more ++ later;
  cut = ap (λ t. t ++ later) many.cut ∙ append_assoc many.front many.more later;
  ended = many.ended;
  short = many.short;
  long = many.long;
}
many_later SourceFault taken later left lines others inside many = absurd inside

stops_later : (taken later left : List ℕ) (journal : List Entry) (ending : Ending) → IsNoSourceFault (Err ending) →
    Stops journal taken (later ++ left) (Err ending) → Stops journal (taken ++ later) left (Err ending)
stops_later taken later left journal ending inside stops =
    let held = stops.lines in
    record {
      lines = record {
        lines = held.lines;
        later = held.later;
        rest = held.rest ++ later;
        first = ap lines_of (append_assoc taken later left) ∙ held.first;
        whole = ap (λ t. t ++ later) held.whole ∙ append_assoc (concat held.lines) held.rest later;
        asked = held.asked;
        so_many = many_later ending taken later left held.lines held.later inside held.so_many;
        within = held.within;
        few = held.few;
      };
      cut = stops.cut;
    }

-- what went on over a front of bytes stops within the whole
pub stops_within : (taken front line later chunk : List ℕ) (journal : List Entry) (begun : Begun) (ending : Ending) → chunk ≡ front ++ (line ++ later) →
    GoesOn journal ((taken ++ front) ++ line) begun (Err ending) → GoesOn journal (taken ++ chunk) begun (Err ending)
stops_within taken front line later chunk journal begun ending is (inside, stops) =
    let At : List ℕ → List ℕ → Type 0 = λ left all. Stops journal all left (Err ending) in
    let same : ((taken ++ front) ++ line) ++ later ≡ taken ++ chunk =
    append_assoc (taken ++ front) line later ∙ append_assoc taken front (line ++ later) ∙ ap (λ b. taken ++ b) (sym is) in
    (inside, λ left. subst (At left) same (stops_later ((taken ++ front) ++ line) later left journal ending inside (stops (later ++ left))))

-- ---- the input's end

holds_all : (outcome : Outcome) (taken : List ℕ) (asked : List Command) → asked ≡ map command_of (lines_of taken) → AreWithin (lines_of taken) →
    AreSoMany outcome taken [] (lines_of taken) [] → HoldsLines outcome taken [] asked
unfolding AreWithin
holds_all outcome taken asked is within many = record {
  lines = lines_of taken;
  later = [];
  rest = [];
  first = ap lines_of (append-nil taken) ∙ sym (append-nil (lines_of taken));
  whole = sym (append-nil (concat (lines_of taken)) ∙ concat-lines_of taken);
  asked = is;
  so_many = many;
  within = within.0;
  few = within.1;
}

stops_finished : (taken : List ℕ) (journal : List Entry) → commands (front_entries journal) ≡ map command_of (lines_of taken) →
    AreSent (front_entries journal) → AreWithin (lines_of taken) → Stops journal taken [] (Ok tt)
stops_finished taken journal asked sent within =
    record { lines = holds_all (Ok tt) taken (commands (front_entries journal)) asked within (refl, refl); cut = sent }

pub finish_empty : (taken : List ℕ) (journal : List Entry) (begun : Begun) → HasTaken journal taken begun → begun.bytes ≡ [] →
    Finishes taken journal (Ok tt)
finish_empty taken journal begun at none =
    let all : lines_of taken ≡ ended_lines [] taken =
    ap (λ rest. ended_lines [] taken ++ last_line rest) (sym at.rest ∙ none) ∙ append-nil (ended_lines [] taken) in
    (tt, stops_finished taken journal (at.asked ∙ ap (map command_of) (sym all)) at.sent (subst AreWithin (sym all) (within_taken journal taken begun at)))

last_line-some : (bytes : List ℕ) → bytes ≢ [] → last_line bytes ≡ bytes ∷ []
last_line-some [] some = absurd (some refl)
last_line-some (b ∷ bytes) some = refl

all_lines : (taken : List ℕ) (begun : Begun) → begun.bytes ≡ unended [] taken → begun.bytes ≢ [] →
    lines_of taken ≡ ended_lines [] taken ++ begun.bytes ∷ []
all_lines taken begun is some =
    ap (λ rest. ended_lines [] taken ++ last_line rest) (sym is) ∙ ap (λ last. ended_lines [] taken ++ last) (last_line-some begun.bytes some)

within_all : (taken : List ℕ) (journal : List Entry) (begun : Begun) → HasTaken journal taken begun → IsSmall begun → begun.bytes ≢ [] →
    AreWithin (lines_of taken)
within_all taken journal begun at small some =
    subst AreWithin (sym (all_lines taken begun at.rest some))
    (within_more (ended_lines [] taken) begun.bytes at.within (omega (arith, small.few, at.counted)) (begun.bytes, small.room, inl refl))

module _ (taken : List ℕ) (old new : List Entry) (begun : Begun) (at : HasTaken old taken begun) (small : IsSmall begun) (some : begun.bytes ≢ []) where
  asked_all : (sent : Bool) → IsEntry old new begun.bytes sent → commands (front_entries new) ≡ map command_of (lines_of taken)
  asked_all sent one =
      commands_more old new begun.bytes (ended_lines [] taken) sent at.asked one ∙ ap (map command_of) (sym (all_lines taken begun at.rest some))

  pub finish_last : (outcome : Outcome) → Enters old new begun.bytes outcome → Finishes taken new outcome
  finish_last (Ok done) one =
      (tt, stops_finished taken new (asked_all true one) (sent_more old new begun.bytes at.sent one) (within_all taken old begun at small some))
  finish_last (Err SinkFault) (over, inl one) = (
    tt,
    record {
      lines =
          holds_all (Err SinkFault) taken (commands (front_entries new)) (asked_all false one) (within_all taken old begun at small some) tt;
      cut = over;
    },
  )
  finish_last (Err SinkFault) (over, inr same) =
      let At : List ℕ → Type 0 = λ bytes. HoldsLines (Err SinkFault) bytes [] (commands (front_entries new)) in (
        tt,
        record {
          lines =
              subst At (append-nil taken)
              (holds_first (Err SinkFault) taken [] [] (commands (front_entries new)) (same_front old new taken same at.asked)
              (within_taken old taken begun at) tt);
          cut = over;
        },
      )
  finish_last (Err NoMemory) same =
      let At : List ℕ → Type 0 = λ bytes. Stops new bytes [] (Err NoMemory) in (
        tt,
        subst At (append-nil taken)
            (stops_memory taken [] [] new (same_front old new taken same at.asked) (subst AreSent (sym same) at.sent) (within_taken old taken begun at)
            (λ nil. some (at.rest ∙ sym (append-nil (unended [] taken)) ∙ nil))),
      )
  finish_last (Err SourceFault) fails = absurd fails
  finish_last (Err TooMany) fails = absurd fails
  finish_last (Err TooLong) fails = absurd fails

-- ---- the run's start and its source

-- before the first byte
pub at_first : (journal : List Entry) (begun : Begun) → front_entries journal ≡ [] → begun.bytes ≡ [] → begun.count ≡ 0 → HasTaken journal [] begun
at_first journal begun empty none zero_of = record {
  asked = ap commands empty;
  sent = subst AreSent (sym empty) tt;
  rest = none;
  short = tt;
  within = tt;
  counted = zero_of;
  few = omega (arith, zero_of);
}

pub no_failure : (outcome : Outcome) (before after : SourceState) → IsNoSourceFault outcome → HasFailedIf outcome before after
no_failure (Ok done) before after inside = tt
no_failure (Err NoMemory) before after inside = tt
no_failure (Err SinkFault) before after inside = tt
no_failure (Err TooMany) before after inside = tt
no_failure (Err TooLong) before after inside = tt
no_failure (Err SourceFault) before after inside = absurd inside

-- what a source has left, or no bytes where it tells none
pub left_told : (left : Option (List ℕ)) → IfSome left (λ bytes. bytes ≡ unwrap_or left [])
left_told None = tt
left_told (Some bytes) = refl

pub Gives-nothing : (a b c : Option (List ℕ)) (xs : List ℕ) → Gives a b xs → Gives b c [] → Gives a c xs
Gives-nothing a b c xs first second =
    let At : List ℕ → Type 0 = λ given. Gives a c given in
    subst At (append-nil xs) (Gives-append a b c xs [] first second)

-- where nothing was left and nothing was given, nothing is left
pub Gives-end : (a b : Option (List ℕ)) → Gives a b [] → IfSome a (λ left. left ≡ []) → IfSome b (λ left. left ≡ [])
Gives-end None None gives none = tt
Gives-end None (Some y) gives none = absurd gives
Gives-end (Some x) None gives none = absurd gives
Gives-end (Some x) (Some y) gives none = sym gives ∙ none
