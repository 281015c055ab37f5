-- The last turns: after the closing entry the session of each plugin is over, or ended for want of memory.
use Rattle.std.proofs.Common.{◌≡◌, ℕ, zero, suc, ◌+◌, ◌-◌, ◌<◌, ◌≤◌, arith, inl, inr, Bool, true, false, List, [], ◌∷◌, ◌++◌, length, take, drop, refl, ap, sym, ◌∙◌, subst, append-nil, append_assoc, length-append}
use Rattle.std.proofs.Math.Bool.{Bool-set}
use Rattle.std.proofs.Math.Logic.{∥∥₁_elim}
use Rattle.std.proofs.Math.Seq.{take-append-add}
use Rattle.std.specs.Prelude.{◌||◌, replicate, ⊤, ◌⊎◌}
use Rattle.std.specs.Bool.{MatchBool}
use Rattle.std.specs.List.{AllByRecursion}
use Rattle.xi_plain.specs.declared.entry.Entry.{Entry}
use Rattle.xi_plain.specs.declared.ask.Ask.{Ask}
use Rattle.xi_plain.specs.declared.ask.Query.{Query}
use Rattle.xi_plain.specs.declared.ask.Query.TheVariants as query
use Rattle.xi_plain.specs.declared.reply.Reply.{Reply}
use Rattle.xi_plain.specs.declared.reply.Answer.{Answer}
use Rattle.xi_plain.specs.declared.reply.Answer.TheVariants as answer
use Rattle.xi_plain.specs.Journal.{closing_entry, is_closing}
use Rattle.xi_plain.specs.Room.{Begins}
use Rattle.plugin_wire.specs.Told.{Told}
use Rattle.entry_lines.specs.Notices.{AreNoticeTexts}
use Rattle.session_step.specs.declared.terms.Terms.{Terms}
use Rattle.session_step.specs.Session.{Session, first_session, step}
use Rattle.session_step.specs.News.{news_of}
use Rattle.core_session.specs.Answers.{Answers}
use Rattle.core_session.specs.Kept.{has_closing}
use Rattle.core_session.specs.Notes.{news_after, news_from, told_from}
use Rattle.plugin_session.specs.declared.after.After.{After}
use Rattle.plugin_session.specs.declared.noted.Noted.{Noted}
use Rattle.plugin_session.specs.declared.noted.Noted.TheVariants.{Asked, Looked}
use Rattle.plugin_session.specs.Call.{Call, Stand, end_of}
use Rattle.plugin_session.specs.Turn.{Turned}
use Rattle.plugin_session.specs.Visit.{Finds, HasNoTurn, HasTurn, IsFirst, IsLater, Visit, WasGiven, goes_on, place_after, place_found, place_seen, port_of}
use Rattle.plugin_session.proofs.ForCallers.{Begins-length, Stand-bound}
use Rattle.plugin_crew.specs.Standing.{is_open}
use Rattle.plugin_crew.specs.Round.{HasItsTurn, IsRound, IsTurn}
use Rattle.plugin_crew.specs.Order.{AreEntered, IsOrdered, IsOrderedWhole}

-- ---- what a look finds that sees the closing entry

-- a beginning of a journal that is longer than what stands before the entry has it
has_it : (first more : List Entry) (entry : Entry) (at : ℕ) → length first < at →
    (rest : List Entry) × (take at (first ++ (entry ∷ more)) ≡ first ++ (entry ∷ rest))
has_it first more entry at past =
    let n = at - length first - 1 in
    let same : at ≡ length first + suc n = omega (arith, past) in (
      take n more,
      ap (λ k. take k (first ++ (entry ∷ more))) same ∙ take-append-add first (entry ∷ more) (suc n),
    )

found_over : (first rest : List Entry) (place : ℕ) → place ≤ length first → has_closing (drop place (first ++ (closing_entry ∷ rest))) ≡ true
found_over [] rest zero fits = refl
found_over [] rest (suc place) fits = absurd (omega (arith, fits))
found_over (entry ∷ first) rest zero fits = any_later (is_closing entry) (has_closing (first ++ (closing_entry ∷ rest))) (found_over first rest zero (omega arith))
  where
    any_later : (a b : Bool) → b ≡ true → (a || b) ≡ true
    any_later true b is = refl
    any_later false b is = is
found_over (entry ∷ first) rest (suc place) fits = found_over first rest place (omega (arith, fits))

-- and there is something to tell
told_some : (session : Session) (first rest : List Entry) (place : ℕ) → place ≤ length first → 0 < length (news_from session (first ++ (closing_entry ∷ rest)) place)
told_some session [] rest zero fits = omega arith
told_some session [] rest (suc place) fits = absurd (omega (arith, fits))
told_some session (entry ∷ first) rest zero fits =
    let more : 0 < length (news_after (step session entry) (first ++ (closing_entry ∷ rest))) = told_some (step session entry) first rest zero (omega arith) in
    omega (arith, more, length-append (news_of session entry) (news_after (step session entry) (first ++ (closing_entry ∷ rest))))
told_some session (entry ∷ first) rest (suc place) fits = told_some (step session entry) first rest place (omega (arith, fits))

-- so there are lines
lines_some : (news : List Told) (lines : List (List ℕ)) → 0 < length news → AreNoticeTexts news lines → 0 < length lines
lines_some [] lines some texts = absurd (omega (arith, some))
lines_some (told ∷ news) [] some texts = absurd texts
lines_some (told ∷ news) (line ∷ lines) some texts = omega arith

-- ---- what such a look leads to

ended_turn : (lines : List (List ℕ)) (over : Bool) (calls : List Call) (turns : List Turned) (ended : After) → over ≡ true →
    HasTurn lines over calls turns ended ⊎ HasNoTurn calls turns ended → goes_on ended ≡ false
ended_turn lines true calls turns ended is (inl (back, done, turn, over)) = ap goes_on over.1
ended_turn lines false calls turns ended is had = absurd cc
ended_turn lines true calls turns ended is (inr (none, (at, given, there, short))) = ap goes_on short

given_ends : (lines : List (List ℕ)) (over : Bool) (calls : List Call) (turns : List Turned) (ended : After) → over ≡ true → 0 < length lines →
    WasGiven lines over calls turns ended → goes_on ended ≡ false
given_ends [] over calls turns ended is some given = absurd (omega (arith, some))
given_ends (line ∷ lines) over calls turns ended is some given = ended_turn (line ∷ lines) over calls turns ended is given

module _ (terms : Terms) (first rest : List Entry) (place : ℕ) (fits : place ≤ length first) where
  longer : length first < length (first ++ (closing_entry ∷ rest))
  longer = omega (arith, length-append first (closing_entry ∷ rest))

  finds_over : (answers : List (List ℕ)) (found : Answer) (calls : List Call) (turns : List Turned) (ended : After) →
      Answers terms (first ++ (closing_entry ∷ rest)) (query.Notices place) found → Finds answers found calls turns ended → goes_on ended ≡ false
  finds_over answers (answer.Notices lines next over) calls turns ended told finds =
      let over_is : over ≡ true = told.over_is ∙ found_over first rest place fits in
      ∥∥₁_elim told.notices (Bool-set _ _) (λ texts.
      let some = lines_some (told_from terms (first ++ (closing_entry ∷ rest)) place) lines (told_some (first_session terms) first rest place fits) texts in
      given_ends (answers ++ lines) over calls turns ended over_is (omega (arith, some, length-append answers lines)) finds)
  finds_over answers (answer.Nothing len) calls turns ended told finds = absurd (omega (arith, fits, longer, told.1))
  finds_over answers answer.NoMemory calls turns ended told (none, (at, given, there, short)) = ap goes_on short

-- ---- where ports stand

-- each port has looked no further than the journal goes, and has begun
abbrev pub AreWithin : ℕ → ℕ → List (List Visit) → Type 0
AreWithin caller len [] = ⊤
AreWithin caller len (visits ∷ others) = ((port_of caller visits).place ≤ len) × AreWithin (caller + 1) len others

abbrev pub HaveBegun : ℕ → List (List Visit) → Type 0
HaveBegun caller [] = ⊤
HaveBegun caller (visits ∷ others) = ((port_of caller visits).begun ≡ true) × HaveBegun (caller + 1) others

within_more : (caller len more : ℕ) (all : List (List Visit)) → len ≤ more → AreWithin caller len all → AreWithin caller more all
within_more caller len more [] on within = tt
within_more caller len more (visits ∷ others) on within = (omega (arith, on, within.0), within_more (caller + 1) len more others on within.1)

within_none : (caller count : ℕ) → AreWithin caller 0 (replicate count [])
within_none caller zero = tt
within_none caller (suc count) = (omega arith, within_none (caller + 1) count)

shut_begun : (caller : ℕ) (visits : List Visit) → is_open visits ≡ false → (port_of caller visits).begun ≡ true
shut_begun caller [] shut = absurd cc
shut_begun caller (visit ∷ visits) shut = refl

found_within : (place at len : ℕ) (found : Answer) → place ≤ len → at ≤ len → place_found place at found ≤ len
found_within place at len (answer.Notices lines next over) fits here = here
found_within place at len (answer.Nothing told) fits here = here
found_within place at len answer.NoMemory fits here = fits

seen_within : (place at len : ℕ) (noted : Noted) → place ≤ len → at ≤ len → place_seen place at noted ≤ len
seen_within place at len (Looked asked found) fits here = found_within place at len found fits here
seen_within place at len (Asked asked given) fits here = fits

pub begins_on : (a b c : List Entry) → Begins a b → Begins b c → Begins a c
begins_on a b c (more, is) (rest, then) = (more ++ rest, then ∙ ap (λ log. log ++ rest) is ∙ append_assoc a more rest)

module _ (serves : List Entry → ℕ → Ask → Reply → List Entry → Type 0) (answers : List Entry → ℕ → Query → Answer → Type 0) where
  place_within : (journal : List Entry) (caller from place : ℕ) (calls : List Call) → Stand serves answers journal caller from calls → place ≤ length journal →
      place_after place calls ≤ length journal
  place_within journal caller from place [] stand fits = fits
  place_within journal caller from place (call ∷ calls) (later, served, rest) fits =
      let bound = Stand-bound serves answers journal caller (end_of call) calls rest in
      place_within journal caller (end_of call) (place_seen place call.at call.noted) calls rest
      (seen_within place call.at (length journal) call.noted fits (omega (arith, bound)))

  turn_within : (caller : ℕ) (before : List Entry) (old new : List Visit) (after : List Entry) → (port_of caller old).place ≤ length before →
      HasItsTurn serves answers caller before old new after →
      ((port_of caller new).place ≤ length after) × ((port_of caller new).begun ≡ true) × Begins before after
  turn_within caller before old new after fits turn = by (is_open old) refl turn
    where
      by : (goes : Bool) → is_open old ≡ goes →
          MatchBool goes ((visit : Visit) × (new ≡ visit ∷ old) × IsTurn serves answers caller before old visit after) ((new ≡ old) × (after ≡ before)) →
          ((port_of caller new).place ≤ length after) × ((port_of caller new).begun ≡ true) × Begins before after
      by true is (visit, one, had) =
          let on = Begins-length before after had.went.begins in
          let At : List Visit → Type 0 = λ visits. ((port_of caller visits).place ≤ length after) × ((port_of caller visits).begun ≡ true) × Begins before after in
          subst At (sym one) (
            place_within after caller (length before) (port_of caller old).place visit.calls had.went.stand (omega (arith, fits, on)),
            refl,
            had.went.begins,
          )
      by false is (same, stays) =
          let At : List Visit → List Entry → Type 0 =
          λ visits journal. ((port_of caller visits).place ≤ length journal) × ((port_of caller visits).begun ≡ true) × Begins before journal in
          subst (λ visits. At visits after) (sym same)
          (subst (At old) (sym stays) (fits, shut_begun caller old is, ([], sym (append-nil before))))

  round_within : (caller : ℕ) (before : List Entry) (olds news : List (List Visit)) (after : List Entry) → AreWithin caller (length before) olds →
      IsRound serves answers caller before olds news after → AreWithin caller (length after) news × HaveBegun caller news × Begins before after
  round_within caller before [] [] after within same = (tt, tt, ([], same ∙ sym (append-nil before)))
  round_within caller before [] (new ∷ news) after within round = absurd round
  round_within caller before (old ∷ olds) [] after within round = absurd round
  round_within caller before (old ∷ olds) (new ∷ news) after within (middle, turn, rest) =
      let here = turn_within caller before old new middle within.0 turn in
      let on = Begins-length before middle here.2 in
      let others = round_within (caller + 1) middle olds news after (within_more (caller + 1) (length before) (length middle) olds on within.1) rest in
      let further = Begins-length middle after others.2 in (
        (omega (arith, here.0, further), others.0),
        (here.1, others.1),
        begins_on before middle after here.2 others.2,
      )

  entered_within : (before : List Entry) (olds : List (List Visit)) (entries : List Entry) (news : List (List Visit)) (after : List Entry) →
      AreWithin 1 (length before) olds → HaveBegun 1 olds → AreEntered serves answers before olds entries news after →
      AreWithin 1 (length after) news × HaveBegun 1 news
  entered_within before olds [] news after within begun (same, stays) =
      let At : List (List Visit) → List Entry → Type 0 = λ visits journal. AreWithin 1 (length journal) visits × HaveBegun 1 visits in
      subst (λ visits. At visits after) (sym same) (subst (At olds) (sym stays) (within, begun))
  entered_within before olds (entry ∷ entries) news after within begun (middle, mids, one, rest) =
      let here = by entry.sent one in
      entered_within middle mids entries news after here.0 here.1 rest
    where
      by : (sent : Bool) → MatchBool sent (IsRound serves answers 1 (before ++ entry ∷ []) olds mids middle) ((mids ≡ olds) × (middle ≡ before ++ entry ∷ [])) →
          AreWithin 1 (length middle) mids × HaveBegun 1 mids
      by true round =
          let had = round_within 1 (before ++ entry ∷ []) olds mids middle
          (within_more 1 (length before) (length (before ++ entry ∷ [])) olds (omega (arith, length-append before (entry ∷ []))) within) round in
          (had.0, had.1)
      by false (same, stays) =
          let At : List (List Visit) → List Entry → Type 0 = λ visits journal. AreWithin 1 (length journal) visits × HaveBegun 1 visits in
          subst (λ visits. At visits middle) (sym same)
          (subst (At olds) (sym stays)
          (within_more 1 (length before) (length (before ++ entry ∷ [])) olds (omega (arith, length-append before (entry ∷ []))) within, begun))

  ordered_within : (count : ℕ) (entries : List Entry) (visits : List (List Visit)) (journal : List Entry) → IsOrdered serves answers count entries visits journal →
      AreWithin 1 (length journal) visits × HaveBegun 1 visits
  ordered_within count entries visits journal (opened, firsts, start, entered) =
      let had = round_within 1 [] (replicate count []) firsts opened (within_none 1 count) start in
      entered_within opened firsts entries visits journal had.0 had.1 entered

-- ---- the last round

module _ (terms : Terms) (serves : List Entry → ℕ → Ask → Reply → List Entry → Type 0) (first : List Entry) where
  look_ends : (caller : ℕ) (before after : List Entry) (place : ℕ) (told : List (List ℕ)) (calls : List Call) (turns : List Turned) (ended : After) →
      place ≤ length first → Begins (first ++ closing_entry ∷ []) before → Begins before after →
      Stand serves (λ journal who asked found. Answers terms journal asked found) after caller (length before) calls → IsLater place told calls turns ended →
      goes_on ended ≡ false
  look_ends caller before after place told calls turns ended fits there on stand (at, found, rest, is, finds) =
      let all = begins_on (first ++ closing_entry ∷ []) before after there on in
      let stands = subst (Stand serves (λ journal who asked found. Answers terms journal asked found) after caller (length before)) is stand in
      let long = Begins-length (first ++ closing_entry ∷ []) before there in
      let past : length first < at = omega (arith, stands.0, long, length-append first (closing_entry ∷ [])) in
      let whole : after ≡ first ++ (closing_entry ∷ all.0) = all.1 ∙ append_assoc first (closing_entry ∷ []) all.0 in
      let seen = has_it first all.0 closing_entry at past in
      let answered = subst (λ journal. Answers terms journal (query.Notices place) found) (ap (take at) whole ∙ seen.1) stands.1 in
      finds_over terms first seen.0 place fits told found rest turns ended answered finds

  turn_ends : (caller : ℕ) (before : List Entry) (old new : List Visit) (after : List Entry) → (port_of caller old).place ≤ length first →
      (port_of caller old).begun ≡ true → Begins (first ++ closing_entry ∷ []) before →
      HasItsTurn serves (λ journal who asked found. Answers terms journal asked found) caller before old new after → is_open new ≡ false
  turn_ends caller before old new after fits begun there turn = by (is_open old) refl turn
    where
      later : (goes : Bool) (visit : Visit) → goes ≡ true →
          MatchBool goes (IsLater (port_of caller old).place (port_of caller old).answers visit.calls visit.turns visit.after) (IsFirst (port_of caller old).caller visit.calls visit.turns visit.after) →
          IsLater (port_of caller old).place (port_of caller old).answers visit.calls visit.turns visit.after
      later true visit is had = had
      later false visit is had = absurd cc

      by : (goes : Bool) → is_open old ≡ goes →
          MatchBool goes ((visit : Visit) × (new ≡ visit ∷ old) ×
          IsTurn serves (λ journal who asked found. Answers terms journal asked found) caller before old visit after) ((new ≡ old) × (after ≡ before)) →
          is_open new ≡ false
      by true is (visit, one, had) =
          ap is_open one ∙
          look_ends caller before after (port_of caller old).place (port_of caller old).answers visit.calls visit.turns visit.after fits there had.went.begins
          had.went.stand (later (port_of caller old).begun visit begun had.fits.1)
      by false is (same, stays) = ap is_open same ∙ is

  round_ends : (caller : ℕ) (before : List Entry) (olds news : List (List Visit)) (after : List Entry) → AreWithin caller (length first) olds →
      HaveBegun caller olds → Begins (first ++ closing_entry ∷ []) before →
      IsRound serves (λ journal who asked found. Answers terms journal asked found) caller before olds news after →
      AllByRecursion (λ visits. is_open visits ≡ false) news
  round_ends caller before [] [] after within begun there same = tt
  round_ends caller before [] (new ∷ news) after within begun there round = absurd round
  round_ends caller before (old ∷ olds) [] after within begun there round = absurd round
  round_ends caller before (old ∷ olds) (new ∷ news) after within begun there (middle, turn, rest) =
      let long = Begins-length (first ++ closing_entry ∷ []) before there in
      let on =
      turn_within serves (λ journal who asked found. Answers terms journal asked found) caller before old new middle
      (omega (arith, within.0, long, length-append first (closing_entry ∷ []))) turn in (
        turn_ends caller before old new middle within.0 begun.0 there turn,
        round_ends (caller + 1) middle olds news after within.1 begun.1
            (begins_on (first ++ closing_entry ∷ []) before middle there on.2) rest,
      )

-- after the closing entry each session is over
pub all_ended : (terms : Terms) (serves : List Entry → ℕ → Ask → Reply → List Entry → Type 0) (count : ℕ) (entries : List Entry) (visits : List (List Visit))
    (journal : List Entry) →
    IsOrderedWhole serves (λ log who asked found. Answers terms log asked found) count entries closing_entry visits journal →
    AllByRecursion (λ had. is_open had ≡ false) visits
all_ended terms serves count entries visits journal (before, mids, order, round) =
    let had = ordered_within serves (λ log who asked found. Answers terms log asked found) count entries mids before order in
    round_ends terms serves before 1 (before ++ closing_entry ∷ []) mids visits journal had.0 had.1
    ([], sym (append-nil (before ++ closing_entry ∷ []))) round
