-- Turns in a round: how their calls follow one another, and what they leave of others.
use Rattle.std.proofs.Common.{◌≡◌, ◌≢◌, ◌≤◌, ◌<◌, ℕ, ◌+◌, ◌-◌, Bool, true, false, List, [], ◌∷◌, ◌++◌, length, take, drop, refl, ap, sym, ◌∙◌, subst, arith}
use Rattle.std.specs.Prelude.{◌==◌, if◌then◌else◌}
use Rattle.std.specs.Bool.{MatchBool}
use Rattle.std.specs.List.{AllByRecursion}
use Rattle.std.proofs.lemmas.Bool.Decides.{nat_tests}
use Rattle.std.proofs.lemmas.List.{append-nil, append_assoc, length-append, length-take-le, length-drop}
use Rattle.std.proofs.lemmas.List.Elements.{filter-append}
use Rattle.xi_plain.specs.declared.entry.Entry.{Entry}
use Rattle.xi_plain.specs.declared.ask.Ask.{Ask}
use Rattle.xi_plain.specs.declared.ask.Query.{Query}
use Rattle.xi_plain.specs.declared.reply.Reply.{Reply}
use Rattle.xi_plain.specs.declared.reply.Answer.{Answer}
use Rattle.xi_plain.specs.Journal.{entries_of}
use Rattle.plugin_session.specs.Alone.{OnlyAdds}
use Rattle.plugin_session.specs.Call.{Call, Stand, Went, made, end_of, entries_at}
use Rattle.plugin_session.specs.Visit.{Visit}
use Rattle.plugin_session.proofs.ForCallers.{Stand-bound}
use Rattle.plugin_crew.specs.Standing.{is_open}
use Rattle.plugin_crew.specs.Round.{Follow, IsTurn, HasItsTurn, IsRound}

-- entries of a caller, among those of one who is or is not the same
all_own : (caller : ℕ) (more : List Entry) → AllByRecursion (λ entry. entry.caller ≡ caller) more → entries_of caller more ≡ more
all_own caller [] all = refl
all_own caller (entry ∷ more) (is, all) =
    let own : (entry.caller == caller) ≡ true = grind (arith, nat_tests, is) in
    ap (λ b. if b then entry ∷ entries_of caller more else entries_of caller more) own ∙ ap (λ x. entry ∷ x) (all_own caller more all)

pub none_own : (who caller : ℕ) (more : List Entry) → who ≢ caller → AllByRecursion (λ entry. entry.caller ≡ caller) more
    → entries_of who more ≡ []
none_own who caller [] other all = refl
none_own who caller (entry ∷ more) other (is, all) =
    let not_own : (entry.caller == who) ≡ false = grind (arith, nat_tests, is, other) in
    ap (λ b. if b then entry ∷ entries_of who more else entries_of who more) not_own ∙ none_own who caller more other all

-- the entries of others stay
pub others_stay : (who caller : ℕ) (before after : List Entry) → who ≢ caller → OnlyAdds caller before after
    → entries_of who after ≡ entries_of who before
others_stay who caller before after other (more, is, all) =
    ap (entries_of who) is ∙ filter-append (λ entry. entry.caller == who) before more
    ∙ ap (λ x. entries_of who before ++ x) (none_own who caller more other all) ∙ append-nil (entries_of who before)

-- how many entries the calls made
abbrev all_made : List Call → ℕ
all_made [] = 0
all_made (call ∷ calls) = made call.noted + all_made calls

module _ (serves : List Entry → ℕ → Ask → Reply → List Entry → Type 0) (answers : List Entry → ℕ → Query → Answer → Type 0) where
  -- they stand in the journal
  all_made_fit : (journal : List Entry) (caller from : ℕ) (calls : List Call) → Stand serves answers journal caller from calls
      → from + all_made calls ≤ length journal
  all_made_fit journal caller from [] stands = omega (arith, stands)
  all_made_fit journal caller from (call ∷ calls) (le, served, rest) =
      let fits : (call.at + made call.noted) + all_made calls ≤ length journal = all_made_fit journal caller (end_of call) calls rest in
      omega (arith, le, fits)

  all_made_are : (journal : List Entry) (caller from : ℕ) (calls : List Call) → Stand serves answers journal caller from calls
      → length (entries_at journal calls) ≡ all_made calls
  all_made_are journal caller from [] stands = refl
  all_made_are journal caller from (call ∷ calls) (le, served, rest) =
      let bound : call.at + made call.noted ≤ length journal = Stand-bound serves answers journal caller (end_of call) calls rest in
      let long : length (drop call.at journal) ≡ length journal - call.at = length-drop call.at journal in
      let one : length (take (made call.noted) (drop call.at journal)) ≡ made call.noted =
      length-take-le (made call.noted) (drop call.at journal) (omega (arith, bound, long)) in
      length-append (take (made call.noted) (drop call.at journal)) (entries_at journal calls)
      ∙ ap (λ n. n + length (entries_at journal calls)) one ∙ ap (λ n. made call.noted + n) (all_made_are journal caller (end_of call) calls rest)

  -- where the journal gained no more than they made, they follow one another directly
  follow : (journal : List Entry) (caller from : ℕ) (calls : List Call) → Stand serves answers journal caller from calls
      → length journal ≡ from + all_made calls → Follow from calls (length journal)
  follow journal caller from [] stands is = omega (arith, is)
  follow journal caller from (call ∷ calls) (le, served, rest) is =
      let fits : (call.at + made call.noted) + all_made calls ≤ length journal = all_made_fit journal caller (end_of call) calls rest in
      let here : call.at ≡ from = omega (arith, le, fits, is) in
      (here, follow journal caller (end_of call) calls rest (omega (arith, here, is)))

  pub follow_alone : (caller : ℕ) (before after : List Entry) (calls : List Call) → Went serves answers caller before after calls
      → OnlyAdds caller before after → Follow (length before) calls (length after)
  follow_alone caller before after calls went (more, is, all) =
      let own : entries_of caller after ≡ entries_of caller before ++ more =
      ap (entries_of caller) is ∙ filter-append (λ entry. entry.caller == caller) before more
      ∙ ap (λ x. entries_of caller before ++ x) (all_own caller more all) in
      let left : length (entries_of caller after) ≡ length (entries_of caller before) + length more =
      ap length own ∙ length-append (entries_of caller before) more in
      let right : length (entries_of caller after) ≡ length (entries_of caller before) + length (entries_at after calls) =
      ap length went.own ∙ length-append (entries_of caller before) (entries_at after calls) in
      let count : length (entries_at after calls) ≡ all_made calls = all_made_are after caller (length before) calls went.stand in
      let long : length after ≡ length before + length more = ap length is ∙ length-append before more in
      follow after caller (length before) calls went.stand (omega (arith, left, right, count, long))

  -- a session had its turn, or none
  pub turn_had : (caller : ℕ) (before : List Entry) (old : List Visit) (visit : Visit) (after : List Entry) → is_open old ≡ true
      → IsTurn serves answers caller before old visit after → HasItsTurn serves answers caller before old (visit ∷ old) after
  turn_had caller before old visit after open_ turn =
      subst (λ b. MatchBool b ((v : Visit) × (visit ∷ old ≡ v ∷ old) × IsTurn serves answers caller before old v after) ((visit ∷ old ≡ old) × (after ≡ before)))
      (sym open_) (visit, refl, turn)

  pub turn_none : (caller : ℕ) (before : List Entry) (old : List Visit) → is_open old ≡ false → HasItsTurn serves answers caller before old old before
  turn_none caller before old shut =
      subst (λ b. MatchBool b ((v : Visit) × (old ≡ v ∷ old) × IsTurn serves answers caller before old v before) ((old ≡ old) × (before ≡ before)))
      (sym shut) (refl, refl)

  -- a round leaves the entries of those who are not in it
  turn_leaves : (open_ : Bool) (who caller : ℕ) (before : List Entry) (old new : List Visit) (after : List Entry) → who ≢ caller
      → MatchBool open_ ((visit : Visit) × (new ≡ visit ∷ old) × IsTurn serves answers caller before old visit after) ((new ≡ old) × (after ≡ before))
      → entries_of who after ≡ entries_of who before
  turn_leaves true who caller before old new after other (visit, is, turn) = others_stay who caller before after other turn.adds
  turn_leaves false who caller before old new after other (is, same) = ap (entries_of who) same

  pub round_leaves : (who caller : ℕ) (before : List Entry) (olds news : List (List Visit)) (after : List Entry) → who < caller
      → IsRound serves answers caller before olds news after → entries_of who after ≡ entries_of who before
  round_leaves who caller before [] [] after less is = ap (entries_of who) is
  round_leaves who caller before [] (new ∷ news) after less is = absurd is
  round_leaves who caller before (old ∷ olds) [] after less is = absurd is
  round_leaves who caller before (old ∷ olds) (new ∷ news) after less (middle, turn, rest) =
      round_leaves who (caller + 1) middle olds news after (omega (arith, less)) rest
      ∙ turn_leaves (is_open old) who caller before old new middle (λ same. omega (arith, less, same)) turn

  -- A ROUND SO FAR: whatever round of the rest goes on from here, it is one of all
  abbrev pub RoundSoFar : List Entry → List (List Visit) → List (List Visit) → ℕ → List Entry → List (List Visit) → Type 0
  RoundSoFar before olds done caller now left =
      (news : List (List Visit)) (after : List Entry) → IsRound serves answers caller now left news after
      → IsRound serves answers 1 before olds (done ++ news) after

  pub so_far_on : (before : List Entry) (olds done : List (List Visit)) (caller : ℕ) (now next : List Entry) (old new : List Visit)
      (left : List (List Visit)) → HasItsTurn serves answers caller now old new next → RoundSoFar before olds done caller now (old ∷ left)
      → RoundSoFar before olds (done ++ new ∷ []) (caller + 1) next left
  so_far_on before olds done caller now next old new left turn so_far news after rest =
      subst (λ x. IsRound serves answers 1 before olds x after) (sym (append_assoc done (new ∷ []) news)) (so_far (new ∷ news) after (next, turn, rest))
