-- The moments of a capture's records never fall.
use Rattle.std.proofs.Common.{◌≡◌, ℕ, ◌+◌, ◌-◌, ◌*◌, ◌/◌, ◌^◌, ◌<◌, ◌≤◌, max, List, [], ◌∷◌, ◌++◌, sym, arith, subst}
use Rattle.std.specs.List.{AllByRecursion}
use Rattle.efi_base.specs.declared.plain.Record.{Record}
use Rattle.wire_pcap.specs.Grammar.{Resolution, Micros, Nanos, Stored, IsStored, per_tick, time_of, records_from, records_of}
use Rattle.wire_pcap.specs.Reading.{IsWhole}
use Rattle.wire_pcap.specs.Ticks.{RiseFrom}

-- a record's moment is below 2^43 milliseconds
short : (resolution : Resolution) (start : ℕ) (r : Stored) → IsStored r → (time_of resolution r - start) / per_tick resolution < 2 ^ 43
short Micros start r s = omega (arith, s.secs, s.fraction)
short Nanos start r s = omega (arith, s.secs, s.fraction)

greater : (a b : ℕ) → a ≤ max a b
greater a b = omega arith

both : (a b most : ℕ) → a < most → b < most → max a b < most
both a b most x y = omega arith

rise : (resolution : Resolution) (start before : ℕ) (rs : List Stored) → before < 2 ^ 43 → AllByRecursion IsStored rs
    → RiseFrom before (records_from resolution start before rs)
rise resolution start before [] h each = tt
rise resolution start before (r ∷ rs) h each =
    let moment = (time_of resolution r - start) / per_tick resolution in
    let bound = both before moment (2 ^ 43) h (short resolution start r each.0) in
    (greater before moment, bound, rise resolution start (max before moment) rs bound each.1)

rise-all : (resolution : Resolution) (rs : List Stored) → AllByRecursion IsStored rs → RiseFrom 0 (records_of resolution rs)
rise-all resolution [] each = tt
rise-all resolution (r ∷ rs) each = rise resolution (time_of resolution r) 0 (r ∷ rs) (omega arith) each

pub rising : (bytes : List ℕ) (given ready : List Record) → IsWhole bytes given ready → RiseFrom 0 (given ++ ready)
rising bytes given ready whole = rw whole.records_are (rise-all whole.form.resolution whole.records whole.capture.each)
