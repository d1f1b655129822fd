-- The rows of ticks at which something goes again (RFC 6298, section 5.5: the wait is doubled, here to at most 8,000 ticks).
use Rattle.std.specs.Prelude.{ℕ, zero, suc, ◌+◌, ◌*◌, ◌^◌, min, Bool, nat_le, nat_lt, Option, Some, None, if◌then◌else◌}
use Rattle.efi_base.specs.declared.plain.Tick.{Tick}
use Rattle.tcp_send.specs.declared.backoff.Backoff.{Backoff}

-- how long is waited once so many rows have passed
abbrev pub wait_at : ℕ → ℕ
wait_at zero = 1000
wait_at (suc passed) = min 8000 (2 * wait_at passed)

-- where the row behind so many others stands: the waits up to it
unfoldable pub row_at : ℕ → ℕ
row_at zero = wait_at zero
row_at (suc passed) = row_at passed + wait_at (suc passed)

abbrev pub started : Tick → Backoff
started now = record { since = now; passed = 0 }

-- the next row is there
abbrev pub is_row : Backoff → Tick → Bool
is_row b now = nat_le (b.since.0 + row_at b.passed) now.0

-- the tick of the next row, below 2^64
abbrev pub row_tick : Backoff → Option Tick
row_tick b = if nat_lt (b.since.0 + row_at b.passed) (2 ^ 64) then Some (record { 0 = b.since.0 + row_at b.passed }) else None
