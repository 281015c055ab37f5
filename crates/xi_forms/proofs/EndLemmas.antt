-- A run on threads that ended: what it comes to, and its plugins.
use Rattle.std.proofs.Common.{◌≡◌, ℕ, ◌+◌, Bool, false, List, [], ◌∷◌, length, map, Option, refl, ap, sym, ◌∙◌, subst}
use Rattle.std.specs.Prelude.{◌&&◌}
use Rattle.std.specs.Bool.{MatchBool}
use Rattle.std.specs.List.{list_all}
use Rattle.outside.specs.Source.{SourceState}
use Rattle.xi_plain.specs.declared.entry.Entry.{Entry}
use Rattle.xi_plain.specs.declared.ask.Ask.TheVariants.{CloseDown}
use Rattle.session_step.specs.declared.terms.Terms.{Terms}
use Rattle.core_session.specs.Answers.{Answers}
use Rattle.core_session.specs.Grown.{IsGrown, SessionState, are_sent}
use Rattle.core_session.specs.Serves.{IsSessionJournal, Serves}
use Rattle.plugin_session.specs.Turn.{Turned}
use Rattle.plugin_session.specs.Visit.{Visit, IsWhole}
use Rattle.plugin_session.specs.Hired.{Hiring}
use Rattle.plugin_crew.specs.declared.post.Gathered.{Gathered}
use Rattle.plugin_crew.specs.declared.standing.Standing.{Standing}
use Rattle.plugin_crew.specs.declared.standing.Standing.TheVariants as standing
use Rattle.plugin_crew.specs.Standing.{HasStanding, is_going, is_served}
use Rattle.plugin_crew.specs.Taker.{IsEnteredBy}
use Rattle.plugin_crew.specs.Threads.{HasEnded, WereServed, all_in, begun_in, plugins_in}
use Rattle.xi_top.specs.Alone.{terms_for}
use Rattle.xi_top.specs.Ending.{Outcome, settled}
use Rattle.xi_top.specs.Run.{IsRun}
use Rattle.xi_top.specs.Turns.{AllHadTurns, AnswersFor, CameBack, EndsForMemory, InRun, ServesFor}
use Rattle.xi_top.proofs.ForCallers.{IsRun-closed, begins_on}
use Rattle.xi_forms.specs.InTime.{EntersInTime}
use Rattle.xi_forms.specs.InnerThreads.{IsFrontServed}

-- ---- the plugins

ended_by : (standing : Standing) (visits : List Visit) → HasStanding standing visits → is_going standing ≡ false →
    MatchBool (is_served standing) (IsWhole visits) (EndsForMemory visits)
ended_by standing.Going visits stands over = absurd cc
ended_by standing.Over visits stands over = stands
ended_by standing.Short [] stands over = absurd stands
ended_by standing.Short (visit ∷ visits) stands over = stands

module _ {O P : Type 0} (told : P → Option (List Turned)) (plugins : ℕ) (journal : List Entry) where
  abbrev pub Were : ℕ → List (Hiring O P) → List (Gathered P) → Type 0
  Were caller givens cames = WereServed told (ServesFor plugins) (AnswersFor plugins) caller journal givens cames

  -- each plugin with its visits
  abbrev pub runs_of : (caller : ℕ) (givens : List (Hiring O P)) (cames : List (Gathered P)) → Were caller givens cames → List (InRun P)
  runs_of caller [] [] were = []
  runs_of caller [] (came ∷ cames) were = []
  runs_of caller (given ∷ givens) [] were = []
  runs_of caller (given ∷ givens) (came ∷ cames) (was, were) =
      record { began = given.plugin; came = came.plugin; visits = was.visits; well = is_served came.standing } ∷ runs_of (caller + 1) givens cames were

  runs_began : (caller : ℕ) (givens : List (Hiring O P)) (cames : List (Gathered P)) (were : Were caller givens cames) →
      map (λ run. run.began) (runs_of caller givens cames were) ≡ begun_in givens
  runs_began caller [] [] were = refl
  runs_began caller [] (came ∷ cames) were = absurd were
  runs_began caller (given ∷ givens) [] were = absurd were
  runs_began caller (given ∷ givens) (came ∷ cames) (was, were) =
      ap (λ others. given.plugin ∷ others) (runs_began (caller + 1) givens cames were)

  runs_came : (caller : ℕ) (givens : List (Hiring O P)) (cames : List (Gathered P)) (were : Were caller givens cames) →
      map (λ run. run.came) (runs_of caller givens cames were) ≡ plugins_in cames
  runs_came caller [] [] were = refl
  runs_came caller [] (came ∷ cames) were = absurd were
  runs_came caller (given ∷ givens) [] were = absurd were
  runs_came caller (given ∷ givens) (came ∷ cames) (was, were) =
      ap (λ others. came.plugin ∷ others) (runs_came (caller + 1) givens cames were)

  runs_well : (caller : ℕ) (givens : List (Hiring O P)) (cames : List (Gathered P)) (were : Were caller givens cames) →
      list_all (λ run. run.well) (runs_of caller givens cames were) ≡ all_in cames
  runs_well caller [] [] were = refl
  runs_well caller [] (came ∷ cames) were = absurd were
  runs_well caller (given ∷ givens) [] were = absurd were
  runs_well caller (given ∷ givens) (came ∷ cames) (was, were) =
      ap (λ others. is_served came.standing && others) (runs_well (caller + 1) givens cames were)

  runs_served : (caller : ℕ) (givens : List (Hiring O P)) (cames : List (Gathered P)) (were : Were caller givens cames) →
      AllHadTurns told plugins caller journal (runs_of caller givens cames were)
  runs_served caller [] [] were = tt
  runs_served caller [] (came ∷ cames) were = absurd were
  runs_served caller (given ∷ givens) [] were = absurd were
  runs_served caller (given ∷ givens) (came ∷ cames) (was, were) = (
    record { served = was.served; tells = was.tells; ends = ended_by came.standing was.visits was.stands was.ends },
    runs_served (caller + 1) givens cames were,
  )

  pub CameBack-served : (handed back : List P) (all : Bool) (givens : List (Hiring O P)) (cames : List (Gathered P)) → Were 1 givens cames →
      plugins ≡ length handed → begun_in givens ≡ handed → back ≡ plugins_in cames → all ≡ all_in cames → CameBack told handed back journal all
  CameBack-served handed back all givens cames were many begun came well =
      let runs = runs_of 1 givens cames were in
      record {
        runs = runs;
        handed_is = runs_began 1 givens cames were ∙ begun;
        back_is = runs_came 1 givens cames were ∙ sym came;
        all_is = well ∙ sym (runs_well 1 givens cames were);
        served = subst (λ n. AllHadTurns told n 1 journal runs) many (runs_served 1 givens cames were);
      }

-- ---- the run

module _ {O P : Type 0} (state : O → SessionState) (told : P → Option (List Turned)) (plugins : ℕ) (first object : O)
    (made : (state first).terms ≡ terms_for plugins) (empty : (state first).journal ≡ []) (before after : SourceState) (outcome : Outcome)
    (seen : List Entry) (givens : List (Hiring O P)) (back : List P) (all : Bool)
    (front : IsFrontServed (λ log caller ask given next. Serves (state first).terms log caller ask given next) before after outcome seen)
    (ended : HasEnded (λ o. (state o).journal) (λ o log caller ask given next. Serves (state o).terms log caller ask given next)
    (λ o log caller asked found. Answers (state o).terms log asked found) (λ a b. IsGrown (state a) (state b)) told first object seen givens back all)
    (lawful : ∥ IsSessionJournal (state object).terms (state object).journal ∥₁) where
  closed_by_all : IsEnteredBy (ServesFor plugins) CloseDown front.reached front.took (state object).journal
  closed_by_all =
      let (log, next, given, served, begins, ends, fronts, entered, is) =
      subst (λ (terms : Terms). IsEnteredBy (λ log caller ask given next. Serves terms log caller ask given next) CloseDown front.reached front.took seen)
      made front.closed in
      (log, next, given, served, begins, begins_on next seen (state object).journal ends ended.begins, fronts, entered ∙ sym ended.front, is)

  pub run_ended : IsRun plugins (record {
    before = record { source = before; sink = (state first).sink; shelf = (state first).shelf };
    after = record { source = after; sink = (state object).sink; shelf = (state object).shelf };
  }) (state object).journal (settled outcome (are_sent (state object).journal))
  run_ended =
      IsRun-closed plugins (state first) (state object) made empty ended.object_grown lawful front.reached front.took closed_by_all before after
      front.taken front.left outcome front.stops front.gives front.leaves front.source_failed front.stays

  pub in_time_ended : EntersInTime before after (state object).journal
  in_time_ended = front.in_time (state object).journal ended.begins

  pub turns_ended : (handed : List P) → plugins ≡ length handed → begun_in givens ≡ handed → CameBack told handed back (state object).journal all
  turns_ended handed many begun =
      let Served : Terms → Type 0 =
      λ terms. WereServed told (λ log caller ask given next. Serves terms log caller ask given next)
      (λ log caller asked found. Answers terms log asked found) 1 (state object).journal givens ended.cames in
      CameBack-served told plugins (state object).journal handed back all givens ended.cames (subst Served made ended.served) many begun ended.plugins_are
      ended.all_is
