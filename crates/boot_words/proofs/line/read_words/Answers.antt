use Rattle.boot_words.proofs.GrammarLaw.{string_law}
use Rattle.boot_words.proofs.LineLaw.{read_by, refused_by, asked_by, bad_by}
use Rattle.boot_words.proofs.line.read_words.Goals as goal

pub returns-clause-read : goal.returns-clause-read
returns-clause-read c = rw c.as_slice.ensures.value at (read_by _ _ c.read.ensures)

pub returns-clause-refused : goal.returns-clause-refused
returns-clause-refused c = rw c.as_slice.ensures.value at (refused_by _ _ c.read.ensures)

pub returns-clause-asked : goal.returns-clause-asked
returns-clause-asked c = rw c.as_slice.ensures.value at (asked_by _ _ c.read.ensures)

pub returns-clause-bad : goal.returns-clause-bad
returns-clause-bad c = rw c.as_slice.ensures.value at (bad_by _ _ c.read.ensures)

pub returns-clause-grammar : goal.returns-clause-grammar
returns-clause-grammar c = string_law c.args.words.now.items
