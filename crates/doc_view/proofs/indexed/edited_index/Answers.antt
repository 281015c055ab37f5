use Rattle.doc_view.proofs.indexed.edited_index.Goals as goal

pub edited-requires-clause-well_formed : goal.edited-requires-clause-well_formed
edited-requires-clause-well_formed g c = c.requires.well_formed

pub edited-requires-clause-base : goal.edited-requires-clause-base
edited-requires-clause-base g c = c.requires.base

pub edited-requires-clause-after : goal.edited-requires-clause-after
edited-requires-clause-after g c = c.requires.leads
