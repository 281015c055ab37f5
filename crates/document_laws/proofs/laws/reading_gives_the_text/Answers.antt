use Rattle.document_laws.proofs.ReadingLemmas.{reading_gives_the_text as law}
use Rattle.document_laws.proofs.laws.reading_gives_the_text.Goals as goal

pub returns : goal.returns
returns c = law
