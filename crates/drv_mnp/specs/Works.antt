-- The kinds of works.
use Rattle.std.specs.Prelude.{ℕ, Bool, true, false, nat_lt, length, Option, Some, None}
use Rattle.drv_mnp.specs.declared.work.MnpWork.{MnpWork}
use Rattle.drv_mnp.specs.declared.work.MnpWork.TheVariants.{Transmit, Receive}

-- transmits are of kind 1, receives of kind 2
abbrev pub kind_of : MnpWork → ℕ
kind_of (Transmit tx) = 1
kind_of (Receive got) = 2

-- a frame carries at most 1,500 octets (RFC 894)
abbrev pub is_long : MnpWork → Bool
is_long (Transmit tx) = nat_lt 1500 (length tx.payload)
is_long (Receive got) = false

-- there is a work, and it is a frame to send
abbrev pub is_transmit : Option MnpWork → Bool
is_transmit (Some (Transmit tx)) = true
is_transmit (Some (Receive got)) = false
is_transmit None = false
