-- Nothing stands behind the message.
use Rattle.std.proofs.Common.{drop, arith}
use Rattle.std.proofs.lemmas.List.{length-drop}
use Rattle.wire_dns.proofs.Spelling.{nothing-there}
use Rattle.wire_dns.proofs.names.part_at.Goals as goal

pub returns-then-place-msg : goal.returns-then-place-msg
returns-then-place-msg c = λ led. nothing-there led (drop c.args.place c.args.msg.now) (simp length-drop (omega arith))
