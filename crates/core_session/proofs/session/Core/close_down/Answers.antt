use Rattle.std.proofs.Common.{◌≡◌, ℕ, ◌<◌, ◌++◌, ◌∷◌, [], List, ap, sym, ◌∙◌, subst, arith, length, refl}
use Rattle.std.specs.Prelude.{◌^◌}
use Rattle.std.proofs.Math.Logic.{∥∥₁_elim, ∥∥₁_map, ∥∥₁_prop}
use Rattle.plugin_wire.specs.Told.{stopped}
use Rattle.entry_lines.specs.Notices.{AreNoticeTexts}
use Rattle.xi_plain.specs.declared.entry.Entry.{Entry}
use Rattle.xi_plain.specs.Journal.{IsLegal, closing_entry}
use Rattle.core_session.specs.Kept.{IsOfJournal, stage_of}
use Rattle.core_session.proofs.KeptLemmas.{IsLegal-closed, IsOfJournal-closed, not_closed_of, reserved_open, stage-closing, stands_by, stage_closed}
use Rattle.core_session.proofs.ToldLemmas.{AreToldOf-push}
use Rattle.outside.proofs.ForCallers.{Gains-none}
use Rattle.xi_plain.specs.declared.ask.Ask.TheVariants.{CloseDown}
use Rattle.xi_plain.specs.declared.reply.Reply.TheVariants.{Taken}
use Rattle.core_session.specs.GrownLaws.{IsGrown-push, IsGrown-same}
use Rattle.core_session.proofs.GrownLemmas.{noted_no_call}
use Rattle.core_session.proofs.ServesLemmas.{serves_closing, serves_late}
use Rattle.core_session.proofs.session.Core.close_down.Goals as goal

pub invariant_of-self : goal.invariant_of-self
invariant_of-self g c =
    let core = c.args.self.now in
    let journal = core.journal in
    let few : length journal.items < 2 ^ 63 = omega (arith, journal.ok.0, journal.ok.1, journal.small, core.room) in
    let none = not_closed_of journal.items core.stage core.staged c.in-Serves.is in
    let items : c.push_reserved.new.self.items ≡ journal.items ++ closing_entry ∷ [] =
    c.push_reserved.ensures.items ∙ ap (λ e. journal.items ++ e ∷ []) c.closing.ensures in
    let Stop : List (List ℕ) → Type 0 = λ texts. AreNoticeTexts (stopped ∷ []) texts in
    let Kept : List Entry → Type 0 = λ entries. ∥ IsOfJournal core.terms core.views core.styles core.ended core.opened core.config entries ∥₁ in
    record {
      legal = subst (IsLegal core.terms.plugins) (sym items) (IsLegal-closed core.terms.plugins journal.items core.legal none);
      staged = stage-closing journal.items ∙ ap stage_of (sym items);
      room =
          omega (arith, c.push_reserved.ensures.len, c.push_reserved.ensures.capacity, core.room, reserved_open core.stage c.in-Serves.is);
      told_room =
          omega (arith, c.push_reserved-in-Serves.ensures.len, c.push_reserved-in-Serves.ensures.capacity, core.told_room, reserved_open core.stage c.in-Serves.is);
      limit = core.limit;
      are_told =
          rw (items, c.push_reserved-in-Serves.ensures.items)
          (∥∥₁_elim core.are_told ∥∥₁_prop (λ are.
          ∥∥₁_map core.stops (λ stop.
          AreToldOf-push core.terms journal.items core.told.items closing_entry _ are
          (subst Stop (sym c.replace-lines.ensures.value) (stands_by core.stage core.stop stop c.in-Serves.is)))));
      stops = ∣ tt ∣₁;
      kept =
          subst Kept (sym items)
          (∥∥₁_map core.kept (λ kept.
          IsOfJournal-closed core.terms core.views core.styles core.ended core.opened core.config journal.items few core.legal none kept));
    }

pub returns-in-Closed-clause-serves : goal.returns-in-Closed-clause-serves
returns-in-Closed-clause-serves g c =
    let core = c.args.self.now in
    serves_late core.terms core.journal.items 0 CloseDown _ (stage_closed core.journal.items (sym c.in-Closed.is ∙ core.staged)) refl

pub returns-in-Closed-clause-grown : goal.returns-in-Closed-clause-grown
returns-in-Closed-clause-grown g c = IsGrown-same _

pub returns-in-Serves-clause-serves : goal.returns-in-Serves-clause-serves
returns-in-Serves-clause-serves g c =
    let core = c.args.self.now in
    let journal = core.journal in
    let none = not_closed_of journal.items core.stage core.staged c.in-Serves.is in
    let items : c.push_reserved.new.self.items ≡ journal.items ++ closing_entry ∷ [] =
    c.push_reserved.ensures.items ∙ ap (λ e. journal.items ++ e ∷ []) c.closing.ensures in
    serves_closing core.terms journal.items _ none (ap Taken c.new-in-Serves.ensures) items

pub returns-in-Serves-clause-grown : goal.returns-in-Serves-clause-grown
returns-in-Serves-clause-grown g c =
    let core = c.args.self.now in
    let journal = core.journal in
    let items : c.push_reserved.new.self.items ≡ journal.items ++ closing_entry ∷ [] =
    c.push_reserved.ensures.items ∙ ap (λ e. journal.items ++ e ∷ []) c.closing.ensures in
    IsGrown-push _ _ closing_entry [] refl items (Gains-none (g.K.Sink.held core.sink)) refl refl (omega arith) (λ is. absurd cc)
    (noted_no_call _ _ closing_entry.command.act refl refl)
