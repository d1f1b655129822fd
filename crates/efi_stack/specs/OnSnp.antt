-- Calls on the device as callers make them.
use Rattle.std.specs.Prelude.{Bool, Option}
use Rattle.efi_base.specs.declared.refuse.Refuse.{Refuse}
use Rattle.drv_snp.specs.Devices.{Device, in_state, initialized, shut, filtered, start_refusal, initialize_refusal, shutdown_refusal, stop_refusal, filters_refusal}
use Rattle.drv_snp.specs.declared.device.State.TheVariants as state
use Rattle.efi_stack.specs.declared.any.SnpCall.{SnpCall}
use Rattle.efi_stack.specs.declared.any.SnpCall.TheVariants.{Start, Initialize, Shutdown, Stop, Filters}

-- why the device refuses, where a caller's child is configured or none is
abbrev pub snp_refusal : Device → Bool → SnpCall → Option Refuse
snp_refusal d busy Start = start_refusal d.state
snp_refusal d busy Initialize = initialize_refusal d.state
snp_refusal d busy Shutdown = shutdown_refusal d.state busy
snp_refusal d busy Stop = stop_refusal d.state
snp_refusal d busy (Filters mask) = filters_refusal d.state mask

abbrev pub after_snp : Device → SnpCall → Device
after_snp d Start = in_state d state.Started
after_snp d Initialize = initialized d
after_snp d Shutdown = shut d
after_snp d Stop = in_state d state.Stopped
after_snp d (Filters mask) = filtered d mask
