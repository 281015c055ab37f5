-- What an index of lines is, however it finds its pieces.
use Rattle.line_index.specs.Index.{Index}
use Rattle.line_index.specs.declared.index.How.{How}
use Rattle.line_index.specs.declared.index.How.TheVariants.{Whole, Wrapped}

-- the index that is kept so
abbrev pub index_of : How → Index
index_of (Whole lines tab) = record { text = lines; width = 0; tab = tab }
index_of (Wrapped lines) = lines
