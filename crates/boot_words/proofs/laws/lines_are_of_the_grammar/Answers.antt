use Rattle.boot_words.proofs.GrammarLaw.{law}
use Rattle.boot_words.proofs.laws.lines_are_of_the_grammar.Goals as goal

pub returns : goal.returns
returns c = law
