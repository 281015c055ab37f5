use Rattle.document_laws.proofs.StyleLemmas.{AreOverText-loaded, layers_follow as law}
use Rattle.document_laws.proofs.laws.layers_follow.Goals as goal

pub returns : goal.returns
returns c = record { loaded = AreOverText-loaded; each = law }
