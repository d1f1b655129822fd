-- The device as contracts see it, and what its calls answer and leave.
use Rattle.std.specs.Prelude.{ℕ, ◌/◌, ◌%◌, ◌^◌, Bool, true, false, ◌==◌, ◌&&◌, ◌||◌, not, nat_le, nat_lt, List, [], ◌∷◌, ◌++◌, length, take, Option, Some, None}
use Rattle.efi_base.specs.Refusals.{first_of, refuse_if}
use Rattle.efi_base.specs.declared.plain.Mac.{Mac}
use Rattle.efi_base.specs.declared.refuse.Refuse.{Refuse}
use Rattle.efi_base.specs.declared.refuse.Refuse.TheVariants.{AccessDenied, AlreadyStarted, BadConfig, NotReady, NotStarted}
use Rattle.efi_base.specs.declared.refuse.Field.TheVariants.{Filter, Length}
use Rattle.efi_link.specs.Addresses.{is_everyone, is_multicast, is_same}
use Rattle.drv_snp.specs.declared.device.Queued.{Queued}
use Rattle.drv_snp.specs.declared.device.State.{State}
use Rattle.drv_snp.specs.declared.device.State.TheVariants.{Stopped, Started, Initialized}

-- the station's address, the state, the filters as bits, and the frames that wait, the first one first
pub record Device : Type 0 where
  pub mac : Mac
  pub state : State
  pub filters : ℕ
  pub queue : List Queued

abbrev pub new_device : Mac → Device
new_device mac = record { mac = mac; state = Stopped; filters = 0; queue = [] }

abbrev pub in_state : Device → State → Device
in_state d state = record d { state = state }

-- unicasts to the station and broadcasts pass at first: 0x05
abbrev pub initialized : Device → Device
initialized d = record d { state = Initialized; filters = 5 }

-- the frames that wait are lost
abbrev pub shut : Device → Device
shut d = record d { state = Started; queue = [] }

abbrev pub filtered : Device → ℕ → Device
filtered d mask = record d { filters = mask }

abbrev pub queued : Device → List ℕ → ℕ → Device
queued d frame mark = record d { queue = d.queue ++ record { frame = frame; mark = mark } ∷ [] }

abbrev pub is_initialized : State → Bool
is_initialized Initialized = true
is_initialized other = false

abbrev pub start_refusal : State → Option Refuse
start_refusal Stopped = None
start_refusal other = Some AlreadyStarted

abbrev pub initialize_refusal : State → Option Refuse
initialize_refusal Stopped = Some NotStarted
initialize_refusal Started = None
initialize_refusal Initialized = Some AlreadyStarted

abbrev pub stop_refusal : State → Option Refuse
stop_refusal state = initialize_refusal state

abbrev pub unless_initialized : State → Option Refuse
unless_initialized state = refuse_if (not (is_initialized state)) NotStarted

abbrev pub shutdown_refusal : State → Bool → Option Refuse
shutdown_refusal state busy = first_of (unless_initialized state) (refuse_if busy AccessDenied)

-- there are five filters, so a mask is at most 0x1F
abbrev pub filters_refusal : State → ℕ → Option Refuse
filters_refusal state mask = first_of (unless_initialized state) (refuse_if (nat_lt 31 mask) (BadConfig Filter))

-- a frame has 60 to 1,514 octets, and at most 64 wait
abbrev pub transmit_refusal : State → ℕ → ℕ → Option Refuse
transmit_refusal state octets waiting =
    first_of
    (unless_initialized state)
    (first_of
    (refuse_if (nat_lt octets 60 || nat_lt 1514 octets) (BadConfig Length))
    (refuse_if (nat_le 64 waiting) NotReady))

-- this bit of the filters is set
abbrev pub has_bit : ℕ → ℕ → Bool
has_bit filters bit = filters / 2 ^ bit % 2 == 1

-- 0x01 passes unicasts to the station, 0x02 and 0x10 multicasts, 0x04 broadcasts, and 0x08 whatever is heard
abbrev pub passes : ℕ → List ℕ → List ℕ → Bool
passes filters mac dest =
    (has_bit filters 0 && is_same mac dest)
    || ((has_bit filters 1 || has_bit filters 4) && is_multicast dest)
    || (has_bit filters 2 && is_everyone dest)
    || has_bit filters 3

-- what the device hands up: frames with a header whose destination passes
abbrev pub hears : Device → List ℕ → Bool
hears d frame = is_initialized d.state && nat_le 14 (length frame) && passes d.filters d.mac.0 (take 6 frame)
