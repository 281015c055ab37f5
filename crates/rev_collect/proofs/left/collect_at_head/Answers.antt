use Rattle.std.proofs.Common.{◌≡◌, ◌≤◌, not, filter, length, map, ap, ap₂, sym, ◌∙◌, subst, arith}
use Rattle.subset_runs.specs.Subset.{shrink}
use Rattle.plain_text.specs.Numbers.{has}
use Rattle.plain_edits.specs.History.{head}
use Rattle.plain_edits.specs.Collection.{collected_at, is_dropped}
use Rattle.plain_edits.specs.Undo.{undone_now}
use Rattle.collection_laws.specs.Left.{left_of}
use Rattle.rev_list.specs.Hidden.{hidden_at}
use Rattle.rev_list.specs.Settled.{MaySettle, settled_at_head, settled_history}
use Rattle.rev_collect.specs.Groups.{dropped_by, shrunk}
use Rattle.rev_collect.proofs.CollectLemmas.{dropped_are, group_lengths, left_is, length-dropped, length-hidden, may_settle}
use Rattle.rev_collect.proofs.left.collect_at_head.Goals as goal

pub dropped_by-requires : goal.dropped_by-requires
dropped_by-requires c =
    let h = c.args.revs.now in
    rw (c.union_len.ensures, c.deref.ensures.value) (group_lengths h h.characters c.in_ok-all.all.items c.in_ok-all.ensures.groups.each)

pub left_groups-requires : goal.left_groups-requires
left_groups-requires c =
    let h = c.args.revs.now in
    let now = c.args.groups.now.keys in
    let all = c.in_ok-all.all.items in
    let within : h.floor ≤ head h = c.floor-floor.ensures.known in
    let walk = c.revisions_after-walk.ensures in
    let free = c.is_collected-open.ensures.uncollected in
    let dropped : c.in_ok-dropped.dropped ≡ map (is_dropped (collected_at h (head h) now)) h.characters =
    c.in_ok-dropped.ensures ∙ ap₂ (λ set n. dropped_by now set n c.deref.result.now) c.undone.ensures.groups c.union_len.ensures ∙
    ap (dropped_by now (undone_now h) (length h.characters)) c.deref.ensures.value ∙
    sym (dropped_are h now all c.in_ok-all.ensures.groups c.in_ok-all.ensures.rising walk.sound within walk.edits walk.no_text free c.undone.ensures.sets) in
    rw (ap length dropped ∙ length-dropped h (collected_at h (head h) now), c.deref-2.ensures.value)
    (group_lengths h h.characters all c.in_ok-all.ensures.groups.each)

pub shrink-requires : goal.shrink-requires
shrink-requires c =
    let h = c.args.revs.now in
    let now = c.args.groups.now.keys in
    let all = c.in_ok-all.all.items in
    let within : h.floor ≤ head h = c.floor-floor.ensures.known in
    let walk = c.revisions_after-walk.ensures in
    let free = c.is_collected-open.ensures.uncollected in
    let dropped : c.in_ok-dropped.dropped ≡ map (is_dropped (collected_at h (head h) now)) h.characters =
    c.in_ok-dropped.ensures ∙ ap₂ (λ set n. dropped_by now set n c.deref.result.now) c.undone.ensures.groups c.union_len.ensures ∙
    ap (dropped_by now (undone_now h) (length h.characters)) c.deref.ensures.value ∙
    sym (dropped_are h now all c.in_ok-all.ensures.groups c.in_ok-all.ensures.rising walk.sound within walk.edits walk.no_text free c.undone.ensures.sets) in
    ap length c.dead.ensures ∙ length-hidden h ∙ sym (ap length dropped ∙ length-dropped h (collected_at h (head h) now))

pub settled-requires : goal.settled-requires
settled-requires c =
    let h = c.args.revs.now in
    let now = c.args.groups.now.keys in
    let all = c.in_ok-all.all.items in
    let within : h.floor ≤ head h = c.floor-floor.ensures.known in
    let walk = c.revisions_after-walk.ensures in
    let free = c.is_collected-open.ensures.uncollected in
    let dropped : c.in_ok-dropped.dropped ≡ map (is_dropped (collected_at h (head h) now)) h.characters =
    c.in_ok-dropped.ensures ∙ ap₂ (λ set n. dropped_by now set n c.deref.result.now) c.undone.ensures.groups c.union_len.ensures ∙
    ap (dropped_by now (undone_now h) (length h.characters)) c.deref.ensures.value ∙
    sym (dropped_are h now all c.in_ok-all.ensures.groups c.in_ok-all.ensures.rising walk.sound within walk.edits walk.no_text free c.undone.ensures.sets) in
    let left : c.in_ok-left.left.items ≡ map (shrunk c.in_ok-dropped.dropped) (filter (λ g. not (has now g.group)) all) =
    c.in_ok-left.ensures ∙ ap (λ gs. map (shrunk c.in_ok-dropped.dropped) (filter (λ g. not (has now g.group)) gs)) c.deref-2.ensures.value in
    let dead : c.in_ok-dead.dead ≡ shrink (hidden_at h (head h)) c.in_ok-dropped.dropped =
    c.in_ok-dead.ensures.flags ∙ ap (λ flags. shrink flags c.in_ok-dropped.dropped) c.dead.ensures in
    subst (λ gs. MaySettle h gs now c.in_ok-dead.dead) (sym left)
    (may_settle h now all c.in_ok-all.ensures.groups c.in_ok-all.ensures.rising walk.sound within walk.edits walk.no_text free c.undone.ensures.sets
    c.in_ok-dropped.dropped dropped c.in_ok-dead.dead dead)

pub returns-clause-left : goal.returns-clause-left
returns-clause-left c =
    let h = c.args.revs.now in
    let now = c.args.groups.now.keys in
    let all = c.in_ok-all.all.items in
    let within : h.floor ≤ head h = c.floor-floor.ensures.known in
    let walk = c.revisions_after-walk.ensures in
    let free = c.is_collected-open.ensures.uncollected in
    let dropped : c.in_ok-dropped.dropped ≡ map (is_dropped (collected_at h (head h) now)) h.characters =
    c.in_ok-dropped.ensures ∙ ap₂ (λ set n. dropped_by now set n c.deref.result.now) c.undone.ensures.groups c.union_len.ensures ∙
    ap (dropped_by now (undone_now h) (length h.characters)) c.deref.ensures.value ∙
    sym (dropped_are h now all c.in_ok-all.ensures.groups c.in_ok-all.ensures.rising walk.sound within walk.edits walk.no_text free c.undone.ensures.sets) in
    let left : c.in_ok-left.left.items ≡ map (shrunk c.in_ok-dropped.dropped) (filter (λ g. not (has now g.group)) all) =
    c.in_ok-left.ensures ∙ ap (λ gs. map (shrunk c.in_ok-dropped.dropped) (filter (λ g. not (has now g.group)) gs)) c.deref-2.ensures.value in
    let dead : c.in_ok-dead.dead ≡ shrink (hidden_at h (head h)) c.in_ok-dropped.dropped =
    c.in_ok-dead.ensures.flags ∙ ap (λ flags. shrink flags c.in_ok-dropped.dropped) c.dead.ensures in
    c.in_ok-made.ensures ∙ ap (λ gs. settled_history (settled_at_head h gs now (length c.in_ok-dead.dead))) left ∙
    left_is h now all c.in_ok-all.ensures.groups c.in_ok-all.ensures.rising walk.sound within walk.edits walk.no_text free c.undone.ensures.sets
    c.in_ok-dropped.dropped dropped c.in_ok-dead.dead dead

pub returns-clause-dropped : goal.returns-clause-dropped
returns-clause-dropped c =
    let h = c.args.revs.now in
    let now = c.args.groups.now.keys in
    let all = c.in_ok-all.all.items in
    let within : h.floor ≤ head h = c.floor-floor.ensures.known in
    let walk = c.revisions_after-walk.ensures in
    let free = c.is_collected-open.ensures.uncollected in
    let dropped : c.in_ok-dropped.dropped ≡ map (is_dropped (collected_at h (head h) now)) h.characters =
    c.in_ok-dropped.ensures ∙ ap₂ (λ set n. dropped_by now set n c.deref.result.now) c.undone.ensures.groups c.union_len.ensures ∙
    ap (dropped_by now (undone_now h) (length h.characters)) c.deref.ensures.value ∙
    sym (dropped_are h now all c.in_ok-all.ensures.groups c.in_ok-all.ensures.rising walk.sound within walk.edits walk.no_text free c.undone.ensures.sets) in
    dropped
