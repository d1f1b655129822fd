-- The datagrams of a list with one more event.
use Rattle.std.proofs.Common.{◌≡◌, ℕ, List, [], ◌∷◌, ◌++◌, map, Option, refl, ap, ◌∙◌}
use Rattle.std.proofs.lemmas.List.{map-append}
use Rattle.std.proofs.lemmas.List.Sums.{fold-append}
use Rattle.std.specs.Prelude.{fold}
use Rattle.efi_base.specs.declared.plain.Record.{Record}
use Rattle.wire_ip4.specs.Packet.{Packet}
use Rattle.ip_core.specs.Pools.{Pool}
use Rattle.ip_core.specs.Datagrams.{Event, fragments_kept, after_event, event_datagram, event_datagrams, datagrams_of, pools_after}
use Rattle.ip_core.specs.Frames.{event_of, frame_datagrams, frame_pools}

datagrams-append : (pools : List (Pool (List Packet))) (events : List Event) (e : Event)
    → event_datagrams fragments_kept pools (events ++ e ∷ [])
    ≡ event_datagrams fragments_kept pools events ++ event_datagram fragments_kept (fold (after_event fragments_kept) pools events) e ∷ []
datagrams-append pools [] e = refl
datagrams-append pools (x ∷ events) e = ap (λ l. event_datagram fragments_kept pools x ∷ l) (datagrams-append (after_event fragments_kept pools x) events e)

pub records-datagrams : (counts : List ℕ → Option Packet) (records : List Record) (r : Record)
    → frame_datagrams counts (records ++ r ∷ []) ≡ frame_datagrams counts records ++ event_datagram fragments_kept (frame_pools counts records) (event_of counts r) ∷ []
records-datagrams counts records r =
    ap datagrams_of (map-append (event_of counts) records (r ∷ [])) ∙ datagrams-append [] (map (event_of counts) records) (event_of counts r)

pub records-pools : (counts : List ℕ → Option Packet) (records : List Record) (r : Record)
    → frame_pools counts (records ++ r ∷ []) ≡ after_event fragments_kept (frame_pools counts records) (event_of counts r)
records-pools counts records r =
    ap pools_after (map-append (event_of counts) records (r ∷ [])) ∙ fold-append (after_event fragments_kept) [] (map (event_of counts) records) (event_of counts r ∷ [])
