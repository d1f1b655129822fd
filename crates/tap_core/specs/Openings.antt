-- The segment with which a capture's connection begins: the first that asks for one. It shows the station that is watched.
use Rattle.std.specs.Prelude.{◌≡◌, ℕ, ◌==◌, List, [], ◌∷◌, ◌++◌, length, Option, Some, None, All, if◌then◌else◌}
use Rattle.std.specs.Option.{option_and_then}
use Rattle.efi_base.specs.declared.plain.Record.{Record}
use Rattle.wire_link.specs.Ether.{frame_of}
use Rattle.wire_l4.specs.Segment.{Segment, unverified_segment_of}
use Rattle.ip_core.specs.Pools.{Datagram}
use Rattle.ip_core.specs.Frames.{frame_datagrams}
use Rattle.tap_core.specs.Frames.{any_packet}
use Rattle.tap_core.specs.Segments.{opens}

-- the station's Ethernet address, its own address and port, the peer's, and its first number
pub record Opening : Type 0 where
  pub station : List ℕ
  pub src : ℕ
  pub sport : ℕ
  pub dest : ℕ
  pub dport : ℕ
  pub seq : ℕ

-- what a segment asks for, if it asks for a connection
abbrev pub opening_with : List ℕ → Datagram → Segment → Option Opening
opening_with station d s =
    if opens s
    then Some (record { station = station; src = d.src; sport = s.sport; dest = d.dest; dport = s.dport; seq = s.seq })
    else None

-- what a datagram of a frame asks for. No checksum of it is looked at.
unfoldable pub opening_in : List ℕ → Datagram → Option Opening
opening_in frame d =
    if d.proto == 6
    then option_and_then (λ f. option_and_then (opening_with f.src d) (unverified_segment_of d.payload)) (frame_of frame)
    else None

-- what the datagram asks for that exists at a record
abbrev pub opening_at : Record → Option Datagram → Option Opening
opening_at r datagram = option_and_then (opening_in r.frame) datagram

-- at each record what the datagram asks for that exists at it
abbrev pub openings_with : List Record → List (Option Datagram) → List (Option Opening)
openings_with [] datagrams = []
openings_with (r ∷ records) [] = []
openings_with (r ∷ records) (d ∷ datagrams) = opening_at r d ∷ openings_with records datagrams

abbrev pub openings_of : List Record → List (Option Opening)
openings_of records = openings_with records (frame_datagrams any_packet records)

-- the list has this at its place n, and nothing before
pub record IsFirstAt (list : List (Option Opening)) (n : ℕ) (x : Opening) : Type 0 where
  pub before : List (Option Opening)
  pub after : List (Option Opening)
  pub parts : list ≡ before ++ Some x ∷ after
  pub nothing : All (λ o. o ≡ None) before
  pub place : n ≡ length before
