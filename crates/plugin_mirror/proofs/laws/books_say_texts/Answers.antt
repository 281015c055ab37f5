use Rattle.plugin_mirror.proofs.RunLemmas.{books_say}
use Rattle.plugin_mirror.proofs.laws.books_say_texts.Goals as goal

pub returns : goal.returns
returns c = books_say
