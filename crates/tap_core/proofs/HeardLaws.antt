-- What is heard at records one after the other.
use Rattle.std.proofs.Common.{◌≡◌, ℕ, suc, List, [], ◌∷◌, ◌++◌, length, map, fold, Option, refl, sym, ap, ◌∙◌}
use Rattle.std.proofs.lemmas.List.{map-append}
use Rattle.std.proofs.lemmas.List.Sums.{fold-append}
use Rattle.efi_base.specs.declared.plain.Record.{Record}
use Rattle.wire_ip4.specs.Packet.{Packet}
use Rattle.ip_core.specs.Pools.{Pool}
use Rattle.ip_core.specs.Bytes.{Bytes, bytes_kept}
use Rattle.ip_core.specs.Datagrams.{event_datagrams, after_event}
use Rattle.ip_core.specs.Frames.{event_of}
use Rattle.ip_core.proofs.Standings.{datagrams-same}
use Rattle.tap_core.specs.Openings.{Opening}
use Rattle.tap_core.specs.Heard.{segment_at, segments_heard}
use Rattle.tap_core.specs.Hearing.{event_heard, heard_at, heard_from, pools_by, pools_from}

-- the pools after one record more
pub pools-next : (counts : List ℕ → Option Packet) (pools : List (Pool Bytes)) (records : List Record) (r : Record)
    → pools_by counts pools (records ++ r ∷ []) ≡ after_event bytes_kept (pools_by counts pools records) (event_of counts r)
pools-next counts pools records r =
    ap (fold (after_event bytes_kept) pools) (map-append (event_of counts) records (r ∷ []))
    ∙ fold-append (after_event bytes_kept) pools (map (event_of counts) records) (event_of counts r ∷ [])

heard-append : (o : Opening) (pools : List (Pool Bytes)) (before after : List Record)
    → heard_from o pools (before ++ after) ≡ heard_from o pools before ++ heard_from o (pools_from o pools before) after
heard-append o pools [] after = refl
heard-append o pools (r ∷ before) after =
    ap (λ l. heard_at o pools r ∷ l) (heard-append o (after_event bytes_kept pools (event_heard o r)) before after)

heard-length : (o : Opening) (pools : List (Pool Bytes)) (records : List Record) → length (heard_from o pools records) ≡ length records
heard-length o pools [] = refl
heard-length o pools (r ∷ records) = ap suc (heard-length o (after_event bytes_kept pools (event_heard o r)) records)

heard-with : (o : Opening) (pools : List (Pool Bytes)) (records : List Record)
    → map (segment_at o) (event_datagrams bytes_kept pools (map (event_heard o) records)) ≡ heard_from o pools records
heard-with o pools [] = refl
heard-with o pools (r ∷ records) = ap (λ l. heard_at o pools r ∷ l) (heard-with o (after_event bytes_kept pools (event_heard o r)) records)

-- that is what the definition says
heard-segments : (o : Opening) (records : List Record) → segments_heard o records ≡ heard_from o [] records
heard-segments o records = ap (map (segment_at o)) (sym (datagrams-same (map (event_heard o) records))) ∙ heard-with o [] records

pub segments-length : (o : Opening) (records : List Record) → length (segments_heard o records) ≡ length records
segments-length o records = ap length (heard-segments o records) ∙ heard-length o [] records

-- what is heard with one record more
pub segments-next : (o : Opening) (records : List Record) (r : Record)
    → segments_heard o (records ++ r ∷ []) ≡ segments_heard o records ++ heard_at o (pools_from o [] records) r ∷ []
segments-next o records r =
    heard-segments o (records ++ r ∷ []) ∙ heard-append o [] records (r ∷ [])
    ∙ ap (λ l. l ++ heard_at o (pools_from o [] records) r ∷ []) (sym (heard-segments o records))
