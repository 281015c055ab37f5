use Rattle.std.proofs.Common.{rules, ◌≡◌, ℕ, ◌<◌, ◌≤◌, List, arith, drop, length, ap, sym, ◌∙◌, subst}
use Rattle.std.proofs.Math.Logic.{∥∥₁_elim, ∥∥₁_map}
use Rattle.std.proofs.Math.Nat.{ℕ_set}
use Rattle.entry_lines.specs.Notices.{AreNoticeTexts}
use Rattle.core_session.specs.declared.telling.EntryNews.{EntryNews}
use Rattle.core_session.specs.Notes.{lines_in, told_from}
use Rattle.core_session.proofs.SessionLemmas.{take_rest}
use Rattle.core_session.proofs.ToldLemmas.{AreToldOf-length, closing-drop, texts-told_from}
use Rattle.core_session.proofs.session.Core.notices.Goals as goal

pub slice_bounds-lines_of-count : goal.slice_bounds-lines_of-count
slice_bounds-lines_of-count g c =
    let core = c.args.self.now in
    let same : length core.told.items ≡ length core.journal.items =
    ∥∥₁_elim core.are_told (ℕ_set _ _) (λ are. AreToldOf-length core.terms core.journal.items core.told.items are) in
    omega (arith, same, ap length c.deref.ensures.value, c.requires)

pub slice_bounds-lines_of-start : goal.slice_bounds-lines_of-start
slice_bounds-lines_of-start g c =
    let core = c.args.self.now in
    let same : length core.told.items ≡ length core.journal.items =
    ∥∥₁_elim core.are_told (ℕ_set _ _) (λ are. AreToldOf-length core.terms core.journal.items core.told.items are) in
    omega (arith, same, ap length c.deref.ensures.value, c.requires)

pub offset_bounds-deref-from : goal.offset_bounds-deref-from
offset_bounds-deref-from g c =
    let core = c.args.self.now in
    let same : length core.told.items ≡ length core.journal.items =
    ∥∥₁_elim core.are_told (ℕ_set _ _) (λ are. AreToldOf-length core.terms core.journal.items core.told.items are) in
    let inside : c.args.from ≤ length c.deref.result.now = omega (arith, same, ap length c.deref.ensures.value, c.requires) in
    search (rules, arith)

pub returns-then-from-len : goal.returns-then-from-len
returns-then-from-len g c =
    let all : c.len-len.result ≡ length c.args.self.now.journal.items = c.len-len.ensures in
    let here : c.args.from ≡ length c.args.self.now.journal.items = omega (arith, c.if-from-len.true, all) in
    (all, here)

pub returns-in-Ok : goal.returns-in-Ok
returns-in-Ok g c =
    let core = c.args.self.now in
    let journal = core.journal.items in
    let from = c.args.from in
    let all : c.len-len.result ≡ length journal = c.len-len.ensures in
    let below : from < length journal = omega (arith, c.requires, c.if-from-len.false, all) in
    let Tells : List (List ℕ) → Type 0 = λ texts. AreNoticeTexts (told_from core.terms journal from) texts in
    let Rest : List EntryNews → List (List ℕ) = λ told. lines_in (drop from told) in
    let said : c.in-Ok.lines ≡ Rest core.told.items =
    c.in-Ok.ensures ∙ ap lines_in (take_rest from c.deref.result.now) ∙ ap Rest c.deref.ensures.value in
    record {
      some = λ same. omega (arith, same, c.if-from-len.false, all);
      notices = ∥∥₁_map core.are_told (λ are. subst Tells (sym said) (texts-told_from core.terms journal core.told.items from are));
      next_is = all;
      over_is = c.is_closed-over.ensures ∙ sym (closing-drop core.terms.plugins journal from core.legal below);
    }

pub returns-in-Err : goal.returns-in-Err
returns-in-Err g c =
    let all : c.len-len.result ≡ length c.args.self.now.journal.items = c.len-len.ensures in
    λ same. omega (arith, same, c.if-from-len.false, all)
