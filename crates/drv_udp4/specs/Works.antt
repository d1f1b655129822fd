-- The kinds of works, and what a token waits with.
use Rattle.std.specs.Prelude.{ℕ, ◌+◌, ◌==◌, Bool, true, false, Option, Some, None, if◌then◌else◌}
use Rattle.efi_base.specs.declared.plain.Tick.{Tick}
use Rattle.drv_udp4.specs.declared.work.UdpWork.{UdpWork}
use Rattle.drv_udp4.specs.declared.work.UdpWork.TheVariants.{Transmit, Receive}
use Rattle.drv_udp4.specs.declared.work.Ask.{Ask}

-- transmits are of kind 1, receives of kind 2
abbrev pub kind_of : UdpWork → ℕ
kind_of (Transmit tx) = 1
kind_of (Receive got) = 2

abbrev pub kind_of_ask : Ask → ℕ
kind_of_ask a = kind_of a.work

-- there is an asking, and it is for a datagram to send
abbrev pub is_sending : UdpWork → Bool
is_sending (Transmit tx) = true
is_sending (Receive got) = false

abbrev pub is_transmit : Option Ask → Bool
is_transmit (Some a) = is_sending a.work
is_transmit None = false

-- so many ticks after a moment, where 0 is never
abbrev pub after : Tick → ℕ → Option Tick
after m timeout = if timeout == 0 then None else Some (record { 0 = m.0 + timeout })

-- what is asked at a moment by a child with this time for receiving
abbrev pub ask_of : Tick → ℕ → UdpWork → Ask
ask_of m timeout (Transmit tx) = record { work = Transmit tx; until = None }
ask_of m timeout (Receive got) = record { work = Receive got; until = after m timeout }
