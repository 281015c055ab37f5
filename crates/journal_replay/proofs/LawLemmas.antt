-- The laws of replays.
use Rattle.std.proofs.Common.{◌≡◌, ℕ, zero, suc, ◌+◌, ◌≤◌, arith, Bool, true, false, List, [], ◌∷◌, ◌++◌, length, length-append, map, drop, Option, Some, None, refl, ap, sym, ◌∙◌, subst, inl, inr}
use Rattle.std.specs.Prelude.{◌⊎◌, ◌==◌, ◌&&◌, not, nat_le, if◌then◌else◌}
use Rattle.std.specs.List.{AllByRecursion, list_all}
use Rattle.std.proofs.lemmas.Bool.{eqb-false, eqb-true}
use Rattle.std.proofs.lemmas.Bool.Decides.{nat_tests}
use Rattle.xi_plain.specs.declared.command.Act.TheVariants as Act
use Rattle.xi_plain.specs.declared.command.Command.{Command}
use Rattle.xi_plain.specs.declared.command.Fault.{Fault}
use Rattle.xi_plain.specs.declared.entry.Entry.{Entry}
use Rattle.xi_plain.specs.Journal.{closing_entry, commands, front_entries, has_own_note, is_closing, is_ordered, may_follow}
use Rattle.front_wire.specs.Front.{command_of}
use Rattle.plugin_side.specs.Laws.{IsAskedAgain, LinesAreAskedAgain}
use Rattle.session_step.specs.Accepted.{AcceptsBy, AcceptsOf, AreAcceptedFrom, is_of_plugin}
use Rattle.core_session.specs.Kept.{ending}
use Rattle.core_session.specs.Shelves.{AreSavesAskedFrom}
use Rattle.journal_replay.specs.declared.replaying.ReplayFault.{ReplayFault}
use Rattle.journal_replay.specs.declared.replaying.ReplayFault.TheVariants as fault
use Rattle.journal_replay.specs.Follow.{AllFollow, FirstDiffers, IsNextLine, IsByPlugin, IsTaken, IsTheClosing, NextAsks, Point, first_point, lines_left, point_with}
use Rattle.journal_replay.specs.Laws.{AnswersExactly, IsAskedFor, OwnJournalFollows, OwnJournalIsShown}
use Rattle.journal_replay.specs.Replay.{Replays, replay_terms}
use Rattle.journal_replay.proofs.FollowLemmas.{first_of, second_of}

-- ---- each answer where it is due

-- at most one entry is the first that does not follow
FirstDiffers-one : (plugins : ℕ) (point : Point) (journal : List Entry) (i j : ℕ) → FirstDiffers plugins point journal i → FirstDiffers plugins point journal j → i ≡ j
FirstDiffers-one plugins point [] i j here there = absurd here
FirstDiffers-one plugins point (entry ∷ entries) zero zero here there = refl
FirstDiffers-one plugins point (entry ∷ entries) zero (suc j) here there = absurd (here there.0)
FirstDiffers-one plugins point (entry ∷ entries) (suc i) zero here there = absurd (there here.0)
FirstDiffers-one plugins point (entry ∷ entries) (suc i) (suc j) here there = ap suc (FirstDiffers-one plugins (point_with point entry) entries i j here.1 there.1)

-- and none where all follow
AllFollow-none : (plugins : ℕ) (point : Point) (journal : List Entry) (i : ℕ) → AllFollow plugins point journal → FirstDiffers plugins point journal i → ⊥
AllFollow-none plugins point [] i all differs = differs
AllFollow-none plugins point (entry ∷ entries) zero all differs = differs all.0
AllFollow-none plugins point (entry ∷ entries) (suc i) all differs = AllFollow-none plugins (point_with point entry) entries i all.1 differs.1

index_of : {i j : ℕ} → Some (fault.Differs i) ≡ Some (fault.Differs j) → i ≡ j
index_of is = cc

pub answers_exactly : AnswersExactly
answers_exactly plugins tape journal before after None replays some calm = record {
  differs = λ index. (λ is. absurd cc, λ at. absurd (AllFollow-none plugins (first_point (replay_terms plugins) tape) journal index replays.0 at));
  fine = (λ is. replays.0, λ all. refl);
}
answers_exactly plugins tape journal before after (Some (fault.Differs i)) replays some calm =
    let point = first_point (replay_terms plugins) tape in
    record {
      differs =
          λ index. (
            λ is. subst (FirstDiffers plugins point journal) (index_of is) replays.0,
            λ at. ap (λ n. Some (fault.Differs n)) (FirstDiffers-one plugins point journal i index replays.0 at),
          );
      fine = (λ is. absurd cc, λ all. absurd (AllFollow-none plugins point journal i all replays.0));
    }
answers_exactly plugins tape journal before after (Some fault.SinkFault) replays some calm =
    let (front, entry, back, is, follow, breaks) = replays in absurd (calm breaks.rose)
answers_exactly plugins tape journal before after (Some fault.NoMemory) replays some calm = absurd (some refl)

-- ---- a run's own journal

-- an entry with others behind it does not close
open_before : (closes sent : Bool) (n : ℕ) (rest : Bool) → (if closes then n + 1 == 0 else (if sent then true else rest)) ≡ true → closes ≡ false
open_before true sent n rest is = absurd (omega (arith, eqb-true _ _ is))
open_before false sent n rest is = refl

within : (n most : ℕ) → nat_le n most ≡ true → n ≤ most
within n most is = grind (arith, nat_tests, is)

some_caller : (n : ℕ) → (n == 0) ≡ false → 1 ≤ n
some_caller n is = let differs = eqb-false _ _ is in omega (arith, differs)

-- the first of these commands is that of the first line
first_line : (lines : List (List ℕ)) (command : Command) (more : List Command) → map command_of lines ≡ command ∷ more →
    (line : List ℕ) × (rest : List (List ℕ)) × (lines ≡ line ∷ rest) × (command_of line ≡ command) × (map command_of rest ≡ more)
first_line [] command more is = absurd cc
first_line (line ∷ rest) command more is = (line, rest, refl, head_is is, tail_is is)
  where
    head_is : {a b : Command} {xs ys : List Command} → a ∷ xs ≡ b ∷ ys → a ≡ b
    head_is is = cc

    tail_is : {a b : Command} {xs ys : List Command} → a ∷ xs ≡ b ∷ ys → xs ≡ ys
    tail_is is = cc

module _ (again : LinesAreAskedAgain) (plugins : ℕ) (rest : List (List ℕ)) where
  -- what is asked of entries and of a point before them, from which they follow
  record Own (point : Point) (entries : List Entry) (lines : List (List ℕ)) : Type 0 where
    unclosed : point.closed ≡ false
    ordered : is_ordered plugins (entries ++ closing_entry ∷ []) ≡ true
    noted : list_all has_own_note (entries ++ closing_entry ∷ []) ≡ true
    accepted : AreAcceptedFrom point.session (entries ++ closing_entry ∷ [])
    asked : AreSavesAskedFrom point.session (entries ++ closing_entry ∷ [])
    asks : AllByRecursion IsAskedFor entries
    left : point.lines ≡ lines ++ rest
    fronts : map command_of lines ≡ commands (front_entries entries)

  not_closing : (point : Point) (entry : Entry) (entries : List Entry) (lines : List (List ℕ)) → Own point (entry ∷ entries) lines → is_closing entry ≡ false
  not_closing point entry entries lines own =
      let after = entries ++ closing_entry ∷ [] in
      let follow : may_follow entry after ≡ true =
      first_of (may_follow entry after) _ (second_of (nat_le entry.caller plugins) _ own.ordered) in
      let long : length after ≡ length entries + 1 = length-append entries (closing_entry ∷ []) in
      open_before (is_closing entry) entry.sent (length entries) (list_all is_closing after)
      (ap (λ n. if is_closing entry then n == 0 else (if entry.sent then true else list_all is_closing after)) (sym long) ∙ follow)

  -- it follows, and those behind it are alike
  by_caller : (front : Bool) (point : Point) (entry : Entry) (entries : List Entry) (lines : List (List ℕ)) → (entry.caller == 0) ≡ front →
      is_closing entry ≡ false → Own point (entry ∷ entries) lines →
      (IsNextLine point entry ⊎ (IsTheClosing entry ⊎ IsByPlugin plugins point entry)) ×
      ((more : List (List ℕ)) × (lines_left entry point.lines ≡ more ++ rest) × (map command_of more ≡ commands (front_entries entries)))
  by_caller true point entry entries lines is goes own =
      let fronts : map command_of lines ≡ entry.command ∷ commands (front_entries entries) =
      own.fronts ∙ ap (λ front. commands (if front then entry ∷ front_entries entries else front_entries entries)) is in
      let (line, more, cut, asks, others) = first_line lines entry.command (commands (front_entries entries)) fronts in
      let left : point.lines ≡ line ∷ (more ++ rest) = own.left ∙ ap (λ xs. xs ++ rest) cut in
      let used : lines_left entry point.lines ≡ more ++ rest =
      ap (λ front. if front && not (is_closing entry) then drop 1 point.lines else point.lines) is ∙
      ap (λ closes. if not closes then drop 1 point.lines else point.lines) goes ∙ ap (drop 1) left in (
        inl (record { front = eqb-true _ _ is; asks = subst (λ xs. NextAsks xs entry.command) (sym left) asks }),
        (more, used, others),
      )
  by_caller false point entry entries lines is goes own =
      let fronts : map command_of lines ≡ commands (front_entries entries) =
      own.fronts ∙ ap (λ front. commands (if front then entry ∷ front_entries entries else front_entries entries)) is in
      let from : 1 ≤ entry.caller = some_caller entry.caller is in
      let accepts = subst (λ front. AcceptsBy front point.session entry) is own.accepted.0 in
      let used : lines_left entry point.lines ≡ lines ++ rest =
      ap (λ front. if front && not (is_closing entry) then drop 1 point.lines else point.lines) is ∙ own.left in (
        inr (inr (record {
          from = from;
          to = within entry.caller plugins (first_of (nat_le entry.caller plugins) _ own.ordered);
          asks = asks_by accepts own.asks.0;
        })),
        (lines, used, fronts),
      )
    where
      differs : false ≡ true → ⊥
      differs is = cc

      no_refusal : (fault : Fault) → entry.command.act ≡ Act.Bad fault → is_of_plugin entry.command.act ≡ true → ⊥
      no_refusal fault bad may = differs (sym (ap is_of_plugin bad) ∙ may)

      by_line : AcceptsOf point.session entry.caller entry.command.act → IsAskedAgain entry.command → IsTaken point.session entry
      by_line accepts (inl both) = record { asks = both.0; reads_back = both.1; accepted = accepts.taken }
      by_line accepts (inr (fault, bad)) = absurd (no_refusal fault bad accepts.asks)

      asks_by : AcceptsOf point.session entry.caller entry.command.act → IsAskedFor entry → (entry.command ≡ ending) ⊎ IsTaken point.session entry
      asks_by accepts (inl front) = absurd (omega (arith, front, some_caller entry.caller is))
      asks_by accepts (inr (inl ends)) = inl ends
      asks_by accepts (inr (inr (line, is))) = inr (by_line accepts (subst IsAskedAgain is (again line)))

  follow_from : (point : Point) (entries : List Entry) (lines : List (List ℕ)) → Own point entries lines →
      AllFollow plugins point (entries ++ closing_entry ∷ [])
  follow_from point [] lines own = (record { unclosed = own.unclosed; note = refl; asked = refl; asks = inr (inl refl) }, tt)
  follow_from point (entry ∷ entries) lines own =
      let goes = not_closing point entry entries lines own in
      let both = by_caller (entry.caller == 0) point entry entries lines refl goes own in
      let asks = both.0 in
      let (more, left, fronts) = both.1 in (
        record {
          unclosed = own.unclosed;
          note = first_of (has_own_note entry) _ own.noted;
          asked = own.asked.0;
          asks = asks;
        },
        follow_from (point_with point entry) entries more (record {
          unclosed = goes;
          ordered = second_of (may_follow entry (entries ++ closing_entry ∷ [])) _ (second_of (nat_le entry.caller plugins) _ own.ordered);
          noted = second_of (has_own_note entry) _ own.noted;
          accepted = own.accepted.1;
          asked = own.asked.1;
          asks = own.asks.1;
          left = left;
          fronts = fronts;
        }),
      )

pub own_journal_follows : LinesAreAskedAgain → OwnJournalFollows
own_journal_follows again terms tape entries rest lawful asks cut =
    let (lines, left, fronts) = cut in
    let plugins = terms.plugins in
    follow_from again plugins rest (first_point terms tape) entries lines (record {
      unclosed = refl;
      ordered = first_of (is_ordered plugins (entries ++ closing_entry ∷ [])) _ lawful.legal;
      noted = second_of (is_ordered plugins (entries ++ closing_entry ∷ [])) _ lawful.legal;
      accepted = lawful.accepted;
      asked = lawful.saves_asked;
      asks = asks;
      left = left;
      fronts = fronts;
    })

pub own_journal_is_shown : LinesAreAskedAgain → OwnJournalIsShown
own_journal_is_shown again plugins tape entries rest before after answer lawful asks cut replays calm = by answer replays
  where
    follows : AllFollow plugins (first_point (replay_terms plugins) tape) (entries ++ closing_entry ∷ [])
    follows = own_journal_follows again (replay_terms plugins) tape entries rest lawful asks cut

    by : (answer : Option ReplayFault) → Replays plugins tape (entries ++ closing_entry ∷ []) before after answer →
        (answer ≡ None) ⊎ (answer ≡ Some fault.NoMemory)
    by None replays = inl refl
    by (Some (fault.Differs i)) replays =
        absurd (AllFollow-none plugins (first_point (replay_terms plugins) tape) (entries ++ closing_entry ∷ []) i follows replays.0)
    by (Some fault.SinkFault) replays = let (front, entry, back, is, follow, breaks) = replays in absurd (calm breaks.rose)
    by (Some fault.NoMemory) replays = inr refl
