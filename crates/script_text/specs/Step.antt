-- A line of a script behind its head: a call, a moment, or a frame. `made` are the protocols of the lines `create` so
-- far, and `posts` is how many lines `post` there are.
use Rattle.std.specs.Prelude.{ℕ, Bool, true, false, ◌&&◌, nat_le, List, length, bytes_eq, codes, Option, Some, None, option_map, option_and_then, if◌then◌else◌}
use Rattle.std.specs.Option.{option_or}
use Rattle.efi_base.specs.declared.plain.Addr.{Addr}
use Rattle.efi_base.specs.declared.plain.Tick.{Tick}
use Rattle.efi_base.specs.declared.tokens.Proto.{Proto}
use Rattle.efi_base.specs.declared.tokens.Proto.TheVariants.{Arp}
use Rattle.efi_base.specs.declared.tokens.TokenId.{TokenId}
use Rattle.script_text.specs.Handles.{token_of, handle_next}
use Rattle.script_text.specs.Settings.{addr_next, proto_of, settings_of}
use Rattle.script_text.specs.Words.{with, finished, taken, behind, number_next, ip_next, mac_next, name_next}
use Rattle.script_text.specs.Works.{last_ip, last_octets, work_of}
use Rattle.script_text.specs.declared.handles.Handle.{Handle}
use Rattle.script_text.specs.declared.step.ArpCall.{ArpCall}
use Rattle.script_text.specs.declared.step.ArpCall.TheVariants as arp
use Rattle.script_text.specs.declared.step.Path.{Path}
use Rattle.script_text.specs.declared.step.SnpCall.{SnpCall}
use Rattle.script_text.specs.declared.step.SnpCall.TheVariants as snp
use Rattle.script_text.specs.declared.step.Step.{Step}
use Rattle.script_text.specs.declared.step.Step.TheVariants as step

-- `start`, `initialize`, `shutdown`, `stop`, or `filters N`
abbrev pub filters_of : Option (List ℕ) → Option SnpCall
filters_of words = with (number_next 0 255 words) (λ n. finished n.1 (snp.Filters n.0))

abbrev pub snp_word : List ℕ → Option (List ℕ) → Option SnpCall
snp_word key words =
    if bytes_eq key (codes "start") then finished words snp.Start
    else if bytes_eq key (codes "initialize") then finished words snp.Initialize
    else if bytes_eq key (codes "shutdown") then finished words snp.Shutdown
    else if bytes_eq key (codes "stop") then finished words snp.Stop
    else if bytes_eq key (codes "filters") then filters_of words
    else None

abbrev pub snp_call : Option (List ℕ) → Option SnpCall
snp_call words = with (taken words) (λ w. snp_word w.0 w.1)

-- an address and its mask, or `off`
abbrev pub address_from : Option (Option (List ℕ)) → Option (List ℕ) → Option (Option Addr)
address_from None words = with (addr_next words) (λ addr. finished addr.1 (Some addr.0))
address_from (Some left) words = finished left None

abbrev pub address_of : Option (List ℕ) → Option (Option Addr)
address_of words = address_from (behind (codes "off") words) words

-- a protocol
abbrev pub create_of : Option (List ℕ) → Option Proto
create_of words = with (taken words) (λ w. with (proto_of w.0) (λ proto. finished w.1 proto))

-- `add` or `remove`, a network, its mask, and the next hop
abbrev pub path_next : Option (List ℕ) → Option Path
path_next words =
    with (addr_next words) (λ network. option_map (λ gate. record { network = network.0; gate = gate }) (last_ip network.1))

abbrev pub route_word : List ℕ → Option (List ℕ) → Option Step
route_word key words =
    if bytes_eq key (codes "add") then option_map step.AddRoute (path_next words)
    else if bytes_eq key (codes "remove") then option_map step.RemoveRoute (path_next words)
    else None

abbrev pub route_of : Option (List ℕ) → Option Step
route_of words = with (taken words) (λ w. route_word w.0 w.1)

-- a moment
abbrev pub tick_of : Option (List ℕ) → Option Tick
tick_of words = with (number_next 0 1099511627776 words) (λ n. finished n.1 (record { 0 = n.0 }))

-- the steps that name no child, by their word and what stands behind it
abbrev pub free_step : List ℕ → Option (List ℕ) → Option Step
free_step key words =
    if bytes_eq key (codes "snp") then option_map step.Snp (snp_call words)
    else if bytes_eq key (codes "address") then option_map step.Address (address_of words)
    else if bytes_eq key (codes "create") then option_map step.Create (create_of words)
    else if bytes_eq key (codes "route") then route_of words
    else if bytes_eq key (codes "tick") then option_map step.Tick (tick_of words)
    else None

-- a token that was given, or `all`
abbrev pub cancel_word : ℕ → List ℕ → Option (List ℕ) → Option (Option TokenId)
cancel_word posts word words =
    if bytes_eq word (codes "all") then finished words None
    else with (token_of posts word) (λ token. finished words (Some token))

abbrev pub cancel_of : ℕ → Option (List ℕ) → Option (Option TokenId)
cancel_of posts words = with (taken words) (λ w. cancel_word posts w.0 w.1)

-- `A M fixed`, or `A M dynamic`
abbrev pub fixed_word : List ℕ → Option (List ℕ) → Option Bool
fixed_word word words =
    if bytes_eq word (codes "fixed") then finished words true
    else if bytes_eq word (codes "dynamic") then finished words false
    else None

abbrev pub is_fixed : Option (List ℕ) → Option Bool
is_fixed words = with (taken words) (λ w. fixed_word w.0 w.1)

abbrev pub arp_add : Option (List ℕ) → Option ArpCall
arp_add words =
    with (ip_next words) (λ ip. with (mac_next ip.1) (λ mac. option_map (λ fixed. arp.Add ip.0 mac.0 fixed) (is_fixed mac.1)))

abbrev pub arp_call : List ℕ → Option (List ℕ) → Option ArpCall
arp_call key words =
    if bytes_eq key (codes "arpadd") then arp_add words
    else if bytes_eq key (codes "arpfind") then option_map arp.Find (last_ip words)
    else if bytes_eq key (codes "arpdelete") then option_map arp.Delete (last_ip words)
    else if bytes_eq key (codes "arpflush") then finished words arp.Flush
    else None

-- a child of ARP takes them
abbrev pub arp_step : Handle → Proto → List ℕ → Option (List ℕ) → Option Step
arp_step handle Arp key words = option_map (λ call. step.Arp handle call) (arp_call key words)
arp_step handle _ key words = None

-- `NAME A N`
abbrev pub dns_row : Handle → Option (List ℕ) → Option Step
dns_row handle words =
    with (name_next words) (λ name. with (ip_next name.1) (λ ip. with (number_next 0 4294967295 ip.1) (λ secs.
    finished secs.1 (step.DnsCache handle name.0 ip.0 secs.0))))

-- the steps that name a child first
abbrev pub child_call : ℕ → Handle → Proto → List ℕ → Option (List ℕ) → Option Step
child_call posts handle proto key words =
    if bytes_eq key (codes "destroy") then finished words (step.Destroy handle)
    else if bytes_eq key (codes "reset") then finished words (step.Reset handle)
    else if bytes_eq key (codes "configure") then option_map (λ s. step.Configure handle s) (settings_of proto words)
    else if bytes_eq key (codes "cancel") then option_map (λ token. step.Cancel handle token) (cancel_of posts words)
    else if bytes_eq key (codes "dnscache") then dns_row handle words
    else arp_step handle proto key words

abbrev pub child_step : List Proto → ℕ → List ℕ → Option (List ℕ) → Option Step
child_step made posts key words = with (handle_next made posts words) (λ h. child_call posts h.0 h.1 key h.2)

-- a frame of 14 to 1514 octets
abbrev pub frame_of : Option (List ℕ) → Option Step
frame_of words =
    with (last_octets words) (λ octets.
    if nat_le 14 (length octets) && nat_le (length octets) 1514 then Some (step.Frame octets) else None)

-- a child, and a work of its protocol
abbrev pub post_of : List Proto → ℕ → Option (List ℕ) → Option Step
post_of made posts words =
    with (handle_next made posts words) (λ h. option_map (λ work. step.Post h.0 work) (work_of h.1 h.2))

abbrev pub kept_step : List Proto → ℕ → List ℕ → Option (List ℕ) → Option Step
kept_step made posts key words =
    if bytes_eq key (codes "frame") then frame_of words
    else if bytes_eq key (codes "post") then post_of made posts words
    else None

-- the kinds have different words, so that at most one of them fits
abbrev pub step_of : List Proto → ℕ → List ℕ → Option (List ℕ) → Option Step
step_of made posts key words =
    option_or (free_step key words) (option_or (child_step made posts key words) (kept_step made posts key words))
