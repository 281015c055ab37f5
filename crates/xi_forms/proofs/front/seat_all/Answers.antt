use Rattle.std.proofs.Common.{◌≡◌, ◌+◌, [], ◌∷◌, ◌++◌, length, refl, ap, sym, ◌∙◌, subst, arith}
use Rattle.std.proofs.lemmas.List.{append-nil, append_assoc, length-map, map-append, nil_from_length}
use Rattle.room_lock.specs.Room.{Known}
use Rattle.plugin_crew.specs.Place.{givens_of}
use Rattle.plugin_crew.specs.Threads.{AreGiven, IsGiven, IsStaffed, MayTake, begun_in}
use Rattle.plugin_crew.specs.Alone.{MayServe}
use Rattle.xi_forms.proofs.SeatLemmas.{given_snoc}
use Rattle.xi_forms.proofs.front.seat_all.Goals as goal

pub loop-plugin-preserved : goal.loop-plugin-preserved
loop-plugin-preserved g c =
    let step = c.in-Some.ensures.steps.0 in
    let plugin = c.in-Some.plugin in
    let rest = c.next.new.self.rest.items in
    let inv = c.loop-plugin.invariant in
    let posts = c.loop-plugin.posts in
    let room = c.args.room.now.table.shared in
    let same = c.seat_next-post.ensures.front in
    let post = c.seat_next-post.result in
    let givens = givens_of posts.items in
    let more : givens_of (posts.items ++ post ∷ []) ≡ givens ++ post.given ∷ [] = map-append (λ one. one.given) posts.items (post ∷ []) in
    let number : c.loop-plugin.pass.made ≡ 1 + length givens = omega (arith, inv.7, posts.ok.0, length-map posts.items (λ one. one.given)) in (
      tt,
      tt,
      omega (arith, ap length step, c.push_reserved.ensures.len, c.push_reserved.ensures.capacity, inv.2),
      omega (arith, ap length step, c.push_reserved.ensures.len, inv.3),
      ap (λ (p : Known). p.room) same ∙ inv.4,
      ap (λ (p : Known). p.caller) same ∙ inv.5,
      ap (λ (p : Known). p.seen) same ∙ inv.6,
      omega (arith, ap (λ (p : Known). p.made) same, inv.7, c.push_reserved.ensures.len),
      ap (λ l. begun_in (givens_of l) ++ rest) c.push_reserved.ensures.items ∙ ap (λ l. begun_in l ++ rest) more
          ∙ ap (λ l. l ++ rest) (map-append (λ given. given.plugin) givens (post.given ∷ []))
          ∙ append_assoc (begun_in givens) (post.given.plugin ∷ []) rest ∙ ap (λ p. begun_in givens ++ p ∷ rest) c.seat_next-post.ensures.plugin
          ∙ ap (λ l. begun_in givens ++ l) (sym step) ∙ inv.8,
      subst (AreGiven room.table_id room.key.first.value 1) (sym (ap givens_of c.push_reserved.ensures.items ∙ more))
          (given_snoc room.table_id room.key.first.value 1 (length givens) givens post.given refl inv.9
          (subst (λ n. IsGiven room.table_id room.key.first.value n post.given) number c.seat_next-post.ensures.given)),
    )

pub seat_next-post-requires-clause-ready : goal.seat_next-post-requires-clause-ready
seat_next-post-requires-clause-ready g c =
    let inv = c.loop-plugin.invariant in
    let step = c.in-Some.ensures.steps.0 in
    c.requires.may.plugins c.loop-plugin.pass.made (omega (arith, inv.7)) (omega (arith, inv.7, inv.3, ap length step, c.args.plugins.ok.0))

pub returns-clause-ready : goal.returns-clause-ready
returns-clause-ready g c =
    let inv = c.loop-plugin.invariant in
    let rest = c.loop-plugin.plugin-iterator.rest in
    let room = c.args.room.now.table.shared in
    let posts = c.loop-plugin.posts in
    let same = c.new.ensures.2 in
    let all : length c.args.plugins.items ≡ length posts.items =
    omega (arith, inv.3, c.in-None.ensures.steps.0, rest.ok.0, posts.ok.0, c.args.plugins.ok.0) in
    let staffed : IsStaffed room.table_id room.key.first.value c.loop-plugin.pass (givens_of posts.items) =
    record { here = inv.4; caller = inv.5; made = omega (arith, inv.7, posts.ok.0, length-map posts.items (λ one. one.given)); given = inv.9 } in
    subst (λ p. MayTake g.O.Object.fits g.O.Object.serves room.table_id room.key.first.value p c.new.result.posts.items) (sym c.new.ensures.1)
    (subst (MayTake g.O.Object.fits g.O.Object.serves room.table_id room.key.first.value c.loop-plugin.pass) (sym same)
    (staffed, subst (λ n. MayServe g.O.Object.fits g.O.Object.serves n room.key.first.value) all c.requires.may))

pub returns-clause-begun : goal.returns-clause-begun
returns-clause-begun g c =
    let inv = c.loop-plugin.invariant in
    let rest = c.loop-plugin.plugin-iterator.rest in
    let begun = begun_in (givens_of c.loop-plugin.posts.items) in
    let none = nil_from_length rest.items (omega (arith, c.in-None.ensures.steps.0, rest.ok.0)) in
    ap (λ l. begun_in (givens_of l)) c.new.ensures.2 ∙ sym (append-nil begun) ∙ ap (λ l. begun ++ l) (sym none) ∙ inv.8
