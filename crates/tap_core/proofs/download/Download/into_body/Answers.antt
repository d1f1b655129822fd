use Rattle.tcp_recv.specs.Stream.{front, is_over}
use Rattle.tap_core.proofs.Streams.{taken-Follows}
use Rattle.tap_core.proofs.download.Download.into_body.Goals as goal

pub returns-clause-whole : goal.returns-clause-whole
returns-clause-whole c = λ most irs board f body whole le.
    c.into_body.ensures.whole most (front board.kept) (taken-Follows most irs board c.args.self f) (is_over board) body whole le

pub returns-clause-so_far : goal.returns-clause-so_far
returns-clause-so_far c = λ most irs board f octets so_far.
    c.into_body.ensures.so_far most (front board.kept) (taken-Follows most irs board c.args.self f) octets so_far

pub returns-clause-none : goal.returns-clause-none
returns-clause-none c = λ most irs board f none.
    c.into_body.ensures.none most (front board.kept) (taken-Follows most irs board c.args.self f) none
