-- What was found so far, joined with what the rest gives, is what all octets give.
use Rattle.std.proofs.Common.{◌≡◌, length}
use Rattle.std.specs.Option.{option_and_then}
use Rattle.wire_tftp.specs.Options.{items_in, opts_of}
use Rattle.wire_tftp.specs.Walk.{joined}
use Rattle.wire_tftp.proofs.options.read_opts.Given as goal

abbrev pub invariant-loop-rest : goal.invariant-loop-rest
invariant-loop-rest l = option_and_then (joined l.found) (items_in l.rest) ≡ opts_of l.octets

abbrev pub decreases-loop-rest : goal.decreases-loop-rest
decreases-loop-rest l = length l.rest
