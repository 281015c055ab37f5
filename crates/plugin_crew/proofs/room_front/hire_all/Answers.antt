use Rattle.std.proofs.Common.{◌≡◌, ◌+◌, [], ◌∷◌, ◌++◌, length, refl, ap, sym, ◌∙◌, subst, arith}
use Rattle.std.specs.List.{All}
use Rattle.std.proofs.lemmas.List.{append_assoc, length-map, map-append}
use Rattle.std.proofs.lemmas.List.Elements.{All-append, All-from_recursion}
use Rattle.room_lock.specs.Room.{Known}
use Rattle.plugin_crew.specs.Place.{IsPlaced, givens_of}
use Rattle.plugin_crew.specs.Threads.{AreGiven, IsGiven, IsStaffed, MayTake, begun_in}
use Rattle.plugin_crew.specs.Alone.{MayServe}
use Rattle.plugin_crew.proofs.ThreadLemmas.{given_snoc}
use Rattle.plugin_crew.proofs.room_front.hire_all.Goals as goal

pub loop-plugin-preserved : goal.loop-plugin-preserved
loop-plugin-preserved g c =
    let step = c.in-Some.ensures.steps.0 in
    let plugin = c.in-Some.plugin in
    let rest = c.next.new.self.rest.items in
    let inv = c.loop-plugin.invariant in
    let posts = c.loop-plugin.posts in
    let room = c.args.room.now.table.shared in
    let same = c.hire_next-post.ensures.front in
    let post = c.hire_next-post.result in
    let givens = givens_of posts.items in
    let more : givens_of (posts.items ++ post ∷ []) ≡ givens ++ post.given ∷ [] = map-append (λ one. one.given) posts.items (post ∷ []) in
    let number : c.loop-plugin.pass.made ≡ 1 + length givens = omega (arith, inv.8, posts.ok.0, length-map posts.items (λ one. one.given)) in (
      tt,
      tt,
      omega (arith, ap length step, c.push_reserved.ensures.len, c.push_reserved.ensures.capacity, inv.2),
      omega (arith, ap length step, c.push_reserved.ensures.len, inv.3),
      omega (arith, c.push_reserved.ensures.len, inv.4),
      ap (λ (p : Known). p.room) same ∙ inv.5,
      ap (λ (p : Known). p.caller) same ∙ inv.6,
      ap (λ (p : Known). p.seen) same ∙ inv.7,
      omega (arith, ap (λ (p : Known). p.made) same, inv.8, c.push_reserved.ensures.len),
      ap (λ l. begun_in (givens_of l) ++ rest) c.push_reserved.ensures.items ∙ ap (λ l. begun_in l ++ rest) more
          ∙ ap (λ l. l ++ rest) (map-append (λ given. given.plugin) givens (post.given ∷ []))
          ∙ append_assoc (begun_in givens) (post.given.plugin ∷ []) rest ∙ ap (λ p. begun_in givens ++ p ∷ rest) c.hire_next-post.ensures.plugin
          ∙ ap (λ l. begun_in givens ++ l) (sym step) ∙ inv.9,
      subst (AreGiven room.table_id room.key.first.value 1) (sym (ap givens_of c.push_reserved.ensures.items ∙ more))
          (given_snoc room.table_id room.key.first.value 1 (length givens) givens post.given refl inv.10
          (subst (λ n. IsGiven room.table_id room.key.first.value n post.given) number c.hire_next-post.ensures.given)),
      subst (All IsPlaced) (sym c.push_reserved.ensures.items)
          (All-append IsPlaced posts.items (post ∷ []) inv.11 (All-from_recursion IsPlaced (post ∷ []) (c.hire_next-post.ensures.placed, tt))),
    )

pub hire_next-post-requires-clause-ready : goal.hire_next-post-requires-clause-ready
hire_next-post-requires-clause-ready g c κs within =
    let inv = c.loop-plugin.invariant in
    let step = c.in-Some.ensures.steps.0 in
    c.requires.may.plugins c.loop-plugin.pass.made (omega (arith, inv.8)) (omega (arith, inv.8, inv.3, ap length step, c.args.plugins.ok.0))

pub returns-clause-ready : goal.returns-clause-ready
returns-clause-ready g c =
    let inv = c.loop-plugin.invariant in
    let rest = c.loop-plugin.plugin-iterator.rest in
    let room = c.args.room.now.table.shared in
    let posts = c.loop-plugin.posts in
    let same = c.new.ensures.2 in
    let all : length c.args.plugins.items ≡ length posts.items =
    omega (arith, inv.3, c.in-None.ensures.steps.0, rest.ok.0, posts.ok.0, c.args.plugins.ok.0) in
    let staffed : IsStaffed room.table_id room.key.first.value c.loop-plugin.pass (givens_of posts.items) =
    record { here = inv.5; caller = inv.6; made = omega (arith, inv.8, posts.ok.0, length-map posts.items (λ one. one.given)); given = inv.10 } in
    subst (λ p. MayTake g.O.Object.fits g.O.Object.serves room.table_id room.key.first.value p c.new.result.posts.items) (sym c.new.ensures.1)
    (subst (MayTake g.O.Object.fits g.O.Object.serves room.table_id room.key.first.value c.loop-plugin.pass) (sym same)
    (staffed, subst (λ n. MayServe g.O.Object.fits g.O.Object.serves n room.key.first.value) all c.requires.may))
