-- A run whose journal was closed, whoever took its lines: what it comes to.
use Rattle.std.proofs.Common.{◌≡◌, ℕ, ◌≤◌, List, [], ◌∷◌, ◌++◌, subst}
use Rattle.std.proofs.Math.Bool.{Bool-set}
use Rattle.std.proofs.Math.Logic.{∥∥₁_elim, ∥∥₁_map}
use Rattle.std.specs.Prelude.{IfSome}
use Rattle.xi_plain.specs.declared.entry.Entry.{Entry}
use Rattle.xi_plain.specs.declared.ask.Ask.TheVariants.{CloseDown}
use Rattle.xi_plain.specs.Journal.{closing_entry, front_entries}
use Rattle.outside.specs.Source.{SourceState, Gives}
use Rattle.session_step.specs.declared.terms.Terms.{Terms}
use Rattle.core_session.specs.Grown.{IsGrown, SessionState, are_sent}
use Rattle.core_session.specs.Serves.{IsSessionJournal}
use Rattle.plugin_crew.specs.declared.took.Took.{Took}
use Rattle.plugin_crew.specs.Taker.{IsEnteredBy}
use Rattle.xi_top.specs.Alone.{terms_for}
use Rattle.xi_top.specs.Ending.{Outcome, settled}
use Rattle.xi_top.specs.Run.{HasFailedIf, IsRun}
use Rattle.xi_top.specs.Step.{Stops}
use Rattle.xi_top.specs.Turns.{ServesFor}
use Rattle.xi_top.proofs.CloseLemmas.{IsClosedBy, closed_by, ends_with}
use Rattle.xi_top.proofs.CoreLemmas.{lines_open}
use Rattle.xi_top.proofs.RanLemmas.{is_run}
use Rattle.xi_top.proofs.WrittenLemmas.{IsSince, since_start}

module _ (plugins : ℕ) (old new : SessionState) (made : old.terms ≡ terms_for plugins) (empty : old.journal ≡ []) (grown : IsGrown old new)
    (lawful : ∥ IsSessionJournal new.terms new.journal ∥₁) (seen : List Entry) (took : Took)
    (entered : IsEnteredBy (ServesFor plugins) CloseDown seen took new.journal) (before after : SourceState) (taken left : List ℕ)
    (outcome : Outcome) (stops : Stops seen taken left outcome) where
  since : IsSince (terms_for plugins) old new
  since = since_start (terms_for plugins) old new made empty grown

  lawful_now : ∥ IsSessionJournal (terms_for plugins) new.journal ∥₁
  lawful_now = subst (λ (terms : Terms). ∥ IsSessionJournal terms new.journal ∥₁) since.terms_are lawful

  closing : IsClosedBy seen new.journal took
  closing =
      closed_by (terms_for plugins) seen new.journal (∥∥₁_map lawful_now (λ l. l.accepted))
      (lines_open (front_entries seen) stops.lines.lines stops.lines.asked) took entered

  ends_so : new.journal ≡ closing.before ++ closing_entry ∷ []
  ends_so =
      ends_with (terms_for plugins) seen new.journal took since.bytes closing (∥∥₁_elim lawful_now (Bool-set _ _) (λ l. l.legal)) since.written_is

  pub IsRun-closed : Gives before.left after.left taken → IfSome after.left (λ bytes. bytes ≡ left) → HasFailedIf outcome before after →
      before.faults ≤ after.faults →
      IsRun plugins (record {
        before = record { source = before; sink = old.sink; shelf = old.shelf };
        after = record { source = after; sink = new.sink; shelf = new.shelf };
      }) new.journal (settled outcome (are_sent new.journal))
  IsRun-closed gives leaves failed stays =
      is_run plugins old new since lawful_now seen took closing ends_so before after taken left outcome gives leaves stops failed stays
