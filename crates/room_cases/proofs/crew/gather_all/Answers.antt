use Rattle.std.proofs.Common.{[], ◌∷◌, ◌++◌, length, ap, sym, ◌∙◌, refl, arith}
use Rattle.std.proofs.lemmas.List.{append_assoc, append-nil}
use Rattle.room_cases.proofs.InOrder.{same_snoc}
use Rattle.room_cases.proofs.crew.gather_all.Goals as goal

pub loop-worker-init : goal.loop-worker-init
loop-worker-init g c = (
  tt,
  tt,
  omega (arith, ap length c.into_iter-worker-iterator.ensures.into_iter_gives.0, c.args.workers.ok.0, c.requires.reserved),
  ([], [], refl, sym (append-nil c.args.passes.now.items), tt),
)

pub loop-worker-preserved : goal.loop-worker-preserved
loop-worker-preserved g c =
    let (done, more, first, there, same) = c.loop-worker.invariant.3 in
    let step = c.in-Some.ensures.steps.0 in
    let worker = c.in-Some.worker in
    let pass = c.gathered.result in (
      tt,
      tt,
      omega (arith, ap length step, c.push_reserved.ensures.len, c.push_reserved.ensures.capacity, c.loop-worker.invariant.2),
      (
        done ++ worker ∷ [],
        more ++ pass ∷ [],
        first ∙ (ap (λ l. done ++ l) step ∙ sym (append_assoc done (worker ∷ []) c.next.new.self.rest.items)),
        c.push_reserved.ensures.items ∙ (ap (λ l. l ++ pass ∷ []) there ∙ append_assoc c.args.passes.now.items more (pass ∷ [])),
        same_snoc done more worker pass same c.gathered.ensures,
      ),
    )
