use Rattle.boot_words.proofs.NumberLaw.{odd_mac}
use Rattle.boot_words.proofs.numbers.mac.Goals as goal

pub returns-then-octets-ne0 : goal.returns-then-octets-ne0
returns-then-octets-ne0 c = odd_mac c.args.text.now c.octets-octets.result c.octets-octets.ensures c.if-octets-ne0.true
