use Rattle.boot_words.proofs.GrammarParts.{parts_read}
use Rattle.boot_words.proofs.laws.parts_are_read.Goals as goal

pub returns : goal.returns
returns c = parts_read
