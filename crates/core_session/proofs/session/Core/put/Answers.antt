use Rattle.std.proofs.Common.{◌≡◌, ◌++◌, ◌∷◌, [], ◌<◌, false, length, inl, refl, ap, sym, ◌∙◌, subst, arith, take, Bool}
use Rattle.std.specs.Prelude.{◌^◌}
use Rattle.std.proofs.Math.Logic.{∥∥₁_elim, ∥∥₁_map, ∥∥₁_prop}
use Rattle.std.proofs.lemmas.Bool.{eqb-false}
use Rattle.xi_plain.specs.Journal.{IsLegal}
use Rattle.session_step.specs.Session.{session_of}
use Rattle.core_session.specs.declared.stage.Stage.{Stage}
use Rattle.core_session.specs.Kept.{StandBy, is_over, stage_of, with_sent}
use Rattle.core_session.specs.Core.{piece_after}
use Rattle.core_session.proofs.KeptLemmas.{IsOfJournal-push, IsLegal-push, open_journal, reserved_if, showing_open, stage-push, stage_serves, stand_by_if, stands_by}
use Rattle.core_session.proofs.SentLemmas.{prepared_sent}
use Rattle.core_session.proofs.ToldLemmas.{told_push}
use Rattle.std.specs.Coded.{Coded-set, coded_list, coded_ℕ}
use Rattle.core_session.proofs.GrownLemmas.{failures_of, written_of}
use Rattle.core_session.proofs.session.Core.put.Goals as goal

pub invariant_of-self : goal.invariant_of-self
invariant_of-self g c =
    let core = c.args.self.now in
    let journal = core.journal in
    let made = c.args.made in
    let few : length journal.items < 2 ^ 63 = omega (arith, journal.ok.0, journal.ok.1, journal.small, c.requires.room) in
    let goes : is_over journal.items ≡ false = stage_serves journal.items (sym c.requires.serves ∙ core.staged) in
    let each = open_journal core.terms.plugins journal.items core.legal goes in
    let items = c.push_reserved.ensures.items ∙ ap (λ e. journal.items ++ e ∷ []) c.with_sent.ensures in
    let Stop : Stage → Type 0 = λ stage. ∥ StandBy stage core.stop ∥₁ in
    record {
      legal = subst (IsLegal core.terms.plugins) (sym items) (IsLegal-push core.terms.plugins journal.items made.entry _ each c.requires.kind);
      staged = c.stage_if-self.ensures ∙ stage-push journal.items made.entry _ goes c.requires.kind.asks ∙ ap stage_of (sym items);
      room =
          omega (
            arith,
            c.push_reserved.ensures.len,
            c.push_reserved.ensures.capacity,
            c.requires.room,
            reserved_if c.stage_if-self.result _ c.stage_if-self.ensures,
          );
      told_room =
          omega (
            arith,
            c.push_reserved-2.ensures.len,
            c.push_reserved-2.ensures.capacity,
            c.requires.told_room,
            reserved_if c.stage_if-self.result _ c.stage_if-self.ensures,
          );
      limit = core.limit;
      are_told =
          rw (items, c.push_reserved-2.ensures.items)
          (∥∥₁_elim core.are_told ∥∥₁_prop (λ are.
          ∥∥₁_map c.requires.prepared (λ prepared.
          told_push core.terms core.views core.styles core.ended journal.items core.told.items made _ are prepared)));
      stops =
          subst Stop (sym c.stage_if-self.ensures)
          (∥∥₁_map core.stops (λ stop. stand_by_if core.stop _ (stands_by core.stage core.stop stop (inl c.requires.serves))));
      kept =
          rw (items, c.put_views.ensures, c.put_if.ensures, c.put_if-2.ensures)
          (∥∥₁_elim core.kept ∥∥₁_prop (λ kept.
          ∥∥₁_map c.requires.prepared (λ prepared.
          IsOfJournal-push core.terms core.views core.styles core.ended journal.items made _ few each (showing_open core.terms journal.items each kept.showing)
          kept.saves_asked kept.accepted c.requires.kind c.requires.asked prepared)));
    }

pub returns-clause-puts_in : goal.returns-clause-puts_in
returns-clause-puts_in g c =
    let core = c.args.self.now in
    let journal = core.journal in
    let made = c.args.made in
    let bytes = c.as_bytes-bytes.result.now in
    let taken = c.write_piece-taken.result in
    let session = session_of core.terms journal.items in
    let whole : (sent : Bool) → bytes ≡ piece_after core.terms journal.items (with_sent made.entry sent) = λ sent.
    ∥∥₁_elim c.requires.prepared (Coded-set (coded_list coded_ℕ) _ _) (λ prepared.
    c.as_bytes-bytes.ensures.value ∙ c.as_str.ensures.utf8 ∙
    (prepared_sent core.views core.styles core.ended session made sent prepared).lines.joined) in
    record {
      terms = refl;
      journal = c.push_reserved.ensures.items ∙ ap (λ e. journal.items ++ e ∷ []) c.with_sent.ensures;
      bytes = take taken bytes;
      gains = c.write_piece-taken.ensures.gains;
      written = written_of taken bytes _ _ (whole _) c.write_piece-taken.ensures.within refl;
      failures = failures_of taken (length bytes) _ _ _ c.write_piece-taken.ensures.within refl c.write_piece-taken.ensures.failures_same c.write_piece-taken.ensures.failures_counted;
      stays = c.write_piece-taken.ensures.faults_stay;
      rose = λ no. c.write_piece-taken.ensures.failed (omega (arith, c.write_piece-taken.ensures.within, eqb-false _ _ no));
      shelf = refl;
    }
