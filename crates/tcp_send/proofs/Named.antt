-- The place that an acknowledgment names has its number.
use Rattle.std.proofs.Common.{◌≡◌, ◌<◌, ℕ, ◌+◌, ◌^◌, arith}
use Rattle.tcp_send.specs.Numbers.{number_of, distance}

pub named : (iss una ack : ℕ) → ack < 2 ^ 32 → number_of iss (una + distance (number_of iss una) ack) ≡ ack
named iss una ack short = omega arith
