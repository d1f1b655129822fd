use Rattle.boot_words.proofs.NumberLaw.{parsed_ok, parsed_err}
use Rattle.boot_words.proofs.numbers.parsed.Goals as goal

pub returns-in-Ok : goal.returns-in-Ok
returns-in-Ok c = parsed_ok c.args.text.now c.in-Ok.number c.requires c.in-Ok.ensures.value.0.1

pub returns-in-Err : goal.returns-in-Err
returns-in-Err c = parsed_err c.args.text.now c.requires c.in-Err.ensures.value.0
