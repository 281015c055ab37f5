use Rattle.std.proofs.Common.{◌≡◌, List, Bool, map, ap, ap₂, sym, ◌∙◌}
use Rattle.std.proofs.lemmas.Result.{IfOk-weaker}
use Rattle.plain_edits.specs.History.{History, head}
use Rattle.plain_edits.specs.Collection.{collected_at, is_dropped}
use Rattle.collection_laws.specs.Left.{left_of}
use Rattle.rev_list.specs.Until.{history_until}
use Rattle.rev_list.proofs.ForCallers.{until-head}
use Rattle.rev_collect.proofs.UntilLemmas.{length_some}
use Rattle.rev_collect.proofs.left.collect.Goals as goal

pub with_later-requires-clause-left : goal.with_later-requires-clause-left
with_later-requires-clause-left c =
    let h = c.args.revs.now in
    let floor = c.args.floor in
    let groups = c.args.groups.now.keys in
    let front = c.in_ok-front.ensures in
    let at : head c.in_ok-front.front ≡ floor = ap head front ∙ length_some h.revisions floor c.requires.may.known in
    record {
      left_is = c.in_ok-left.ensures.left ∙ ap₂ (λ (g : History) n. left_of (collected_at g n groups)) front at;
      dropped_is = c.in_ok-left.ensures.dropped ∙ ap₂ (λ (g : History) n. map (is_dropped (collected_at g n groups)) g.characters) front at;
    }

pub returns-clause-left : goal.returns-clause-left
returns-clause-left c =
    let h = c.args.revs.now in
    let floor = c.args.floor in
    let groups = c.args.groups.now.keys in
    IfOk-weaker c.with_later.result _ _
    (λ made is. is.left_is ∙ ap (λ (g : History). left_of (collected_at g floor groups)) (until-head h c.revisions_after-walk.ensures.sound))
    c.with_later.ensures

pub returns-clause-dropped : goal.returns-clause-dropped
returns-clause-dropped c =
    let h = c.args.revs.now in
    let floor = c.args.floor in
    let groups = c.args.groups.now.keys in
    IfOk-weaker c.with_later.result _ _
    (λ made is. is.dropped_is ∙ ap (λ (g : History). map (is_dropped (collected_at g floor groups)) g.characters) (until-head h c.revisions_after-walk.ensures.sound))
    c.with_later.ensures
