use Rattle.std.proofs.Common.{Option, None, length, ap, sym, ◌∙◌}
use Rattle.std.specs.List.{last_or}
use Rattle.std.specs.Option.{option_or}
use Rattle.plain_text.specs.declared.run.Run.{Run}
use Rattle.match_index.specs.Found.{last_to, runs_in}
use Rattle.doc_view.specs.Search.{if_wraps}
use Rattle.doc_view.proofs.SearchLemmas.{last-matches}
use Rattle.doc_view.proofs.search.previous_match.Goals as goal

pub returns-in-Some : goal.returns-in-Some
returns-in-Some c =
    let runs = runs_in c.args.matches.now in
    let found = ap (λ n. last_to n runs) (sym c.start_of_regions.ensures) ∙ sym c.last_to.ensures ∙ c.in-Some.is in
    sym (ap (λ (o : Option Run). option_or o (if_wraps c.args.wrap_around (last_or None runs))) found)

pub returns-in-None : goal.returns-in-None
returns-in-None c =
    let runs = runs_in c.args.matches.now in
    let found = ap (λ n. last_to n runs) (sym c.start_of_regions.ensures) ∙ sym c.last_to.ensures ∙ c.in-None.is in
    c.if_wraps.ensures ∙
    ap (if_wraps c.args.wrap_around)
    (c.last_to-in-None.ensures ∙ ap (λ n. last_to n runs) (c.len.ensures.count ∙ ap length c.rope.ensures) ∙ last-matches c.args.matches.now) ∙
    sym (ap (λ (o : Option Run). option_or o (if_wraps c.args.wrap_around (last_or None runs))) found)
