use Rattle.std.proofs.Common.{refl, sym, subst, ◌∙◌, arith}
use Rattle.plugin_replacer.specs.Replacing.{edits, edits_of}
use Rattle.plugin_replacer.specs.Turns.{Puts, PutsFirst, in_utf8}
use Rattle.plugin_replacer.proofs.StepLemmas.{on_err_any}
use Rattle.plugin_replacer.proofs.CourseLemmas.{SearchedSoFar-start, SearchedSoFar-next, SearchedSoFar-views, SearchedSoFar-puts, SearchedSoFar-short}
use Rattle.plugin_replacer.proofs.search.Search.pages.Goals as goal

pub loop-leaf-init : goal.loop-leaf-init
loop-leaf-init g c = record {
  found = refl;
  new = refl;
  so_far = SearchedSoFar-start (g.M.Spot.found_in c.args.self.now.spot) c.args.self.now.new c.args.self.now.searched c.args.leaves.now (in_utf8 c.args.given.now);
}

pub loop-leaf-preserved : goal.loop-leaf-preserved
loop-leaf-preserved g c =
    let old = c.args.self.now in
    let inv = c.loop-leaf.invariant in
    record {
      found = c.page.ensures.found ∙ inv.found;
      new = c.page.ensures.new ∙ inv.new;
      so_far =
          SearchedSoFar-next (g.M.Spot.found_in old.spot) old.new old.searched c.loop-leaf.self.searched c.page.new.self.searched c.args.leaves.now c.loop-leaf.leaf-index c.leaf-item.result
          (in_utf8 c.args.given.now) (in_utf8 c.loop-leaf.given) (in_utf8 c.page.new.given) inv.so_far c.loop-leaf-test.true c.leaf-item.is c.in_ok-page.ensures.searched
          (subst (λ asks. Puts asks (in_utf8 c.loop-leaf.given) (in_utf8 c.page.new.given))
          (λ i. edits_of (inv.found i) (inv.new i) c.loop-leaf.self.searched c.leaf-item.result) c.in_ok-page.ensures.all);
    }

pub returns-clause-searched : goal.returns-clause-searched
returns-clause-searched g c =
    let old = c.args.self.now in
    SearchedSoFar-views (g.M.Spot.found_in old.spot) old.new old.searched c.loop-leaf.self.searched c.args.leaves.now c.loop-leaf.leaf-index (in_utf8 c.args.given.now) (in_utf8 c.loop-leaf.given)
    c.loop-leaf.invariant.so_far (omega (arith, c.loop-leaf-test.false))

pub returns-clause-all : goal.returns-clause-all
returns-clause-all g c =
    let old = c.args.self.now in
    SearchedSoFar-puts (g.M.Spot.found_in old.spot) old.new old.searched c.loop-leaf.self.searched c.args.leaves.now c.loop-leaf.leaf-index (in_utf8 c.args.given.now) (in_utf8 c.loop-leaf.given)
    c.loop-leaf.invariant.so_far (omega (arith, c.loop-leaf-test.false))

pub returns-in_err-page-clause-first : goal.returns-in_err-page-clause-first
returns-in_err-page-clause-first g c =
    let old = c.args.self.now in
    on_err_any _
    (subst (λ given. PutsFirst (edits (g.M.Spot.found_in old.spot) old.new old.searched c.args.leaves.now) (in_utf8 c.args.given.now) (in_utf8 given)) (sym c.in_err-page.ensures.none)
    (SearchedSoFar-short (g.M.Spot.found_in old.spot) old.new old.searched c.loop-leaf.self.searched c.args.leaves.now c.loop-leaf.leaf-index (in_utf8 c.args.given.now) (in_utf8 c.loop-leaf.given)
    c.loop-leaf.invariant.so_far))
