use Rattle.std.proofs.Common.{[], ap, ◌∙◌}
use Rattle.plain_edits.specs.Delta.{insertions, kept_runs}
use Rattle.rev_engine.specs.Joined.{joined_adds, joined_runs}
use Rattle.rev_engine.proofs.ShortLemmas.{IsUnitsOf-joined}
use Rattle.rev_engine.proofs.short.to_units.Goals as goal

pub returns : goal.returns
returns c =
    IsUnitsOf-joined c.args.text.now c.args.delta.now _ c.requires c.len.ensures.count
    (c.in_ok-kept.ensures ∙ ap (λ els. joined_runs 0 0 (kept_runs c.args.text.now els)) c.as_slice.ensures)
    (c.in_ok-added.ensures ∙ ap (λ els. joined_adds 0 [] (insertions c.args.text.now 0 els)) c.as_slice-2.ensures)
