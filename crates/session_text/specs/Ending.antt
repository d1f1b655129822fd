-- What the line `end` asks of a document.
use Rattle.std.specs.Prelude.{ℕ, zero, suc, ◌+◌, ◌-◌, ◌*◌, ◌/◌, ◌%◌, Bool, true, ◌&&◌, ◌||◌, ◌==◌, not, nat_le, nat_lt, take, slice_index, bytes_eq, Option, Some, None, if◌then◌else◌}
use Rattle.efi_base.specs.Addresses.{is_unicast, is_mask}
use Rattle.efi_base.specs.declared.plain.Mac.{Mac}
use Rattle.session_text.specs.Drafts.{station_mac, server_mac, server_ip, lease_of, buffer_of, here}
use Rattle.session_text.specs.Sites.{has_ip}
use Rattle.session_text.specs.declared.draft.Draft.{Draft}

-- the mask that a station takes: where this one isn't ones and then zeros, that of the address's class (RFC 791, section 3.2)
abbrev pub mask_of : ℕ → ℕ → ℕ
mask_of ip mask =
    if is_mask mask then mask
    else if nat_lt ip 2147483648 then 4278190080
    else if nat_lt ip 3221225472 then 4294901760
    else 4294967040

-- an address later in a network, and not the network's last, which is its broadcast
abbrev pub stays_within : ℕ → ℕ → ℕ → Bool
stays_within ip mask later =
    let size = 4294967296 - mask in
    ((ip + later) / size == ip / size) && not ((ip + later) % size == size - 1)

abbrev pub is_own_ip : ℕ → ℕ → ℕ → Bool
is_own_ip ip mask later = is_unicast (ip + later) && stays_within ip (mask_of ip mask) later

-- the server or a site stands there
abbrev pub is_taken : Draft → ℕ → ℕ → Bool
is_taken d ip later =
    ((server_ip d).0 == ip + later) || (((here d).addr.0 == ip + later) || has_ip d.sites (ip + later))

-- the Ethernet address later than the first is there, and isn't the server's
abbrev pub is_mac_of : Mac → Mac → ℕ → Bool
is_mac_of first server later =
    nat_le (slice_index first.0 5 + later) 255
    && (not (bytes_eq (take 5 first.0) (take 5 server.0)) || not (slice_index first.0 5 + later == slice_index server.0 5))

-- the station later than the first has addresses of its own
unfoldable pub is_station : Draft → ℕ → Bool
is_station d later =
    is_mac_of (station_mac d) (server_mac d) later
    && (is_own_ip (lease_of d).ip.0 (lease_of d).mask.0 later && not (is_taken d (lease_of d).ip.0 later))

abbrev pub are_stations : Draft → ℕ → Bool
are_stations d zero = true
are_stations d (suc n) = is_station d n && are_stations d n

-- where a number of stations was said, they have addresses of their own, and buffers of at most 1073741824 octets together
abbrev pub stations_fit : Draft → Option ℕ → Bool
stations_fit d None = true
stations_fit d (Some n) = nat_le (n * buffer_of d) 1073741824 && are_stations d n

-- two Ethernet addresses, and what a number of stations asks
unfoldable pub end_fits : Draft → Bool
end_fits d = not (bytes_eq (station_mac d).0 (server_mac d).0) && stations_fit d d.second.stations
