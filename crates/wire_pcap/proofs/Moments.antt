-- The moments of records, one record at a time.
use Rattle.std.proofs.Common.{◌≡◌, ℕ, ◌-◌, ◌/◌, max, List, [], ◌∷◌, ◌++◌, Some, refl, sym, ap, ◌∙◌}
use Rattle.efi_base.specs.declared.plain.Record.{Record}
use Rattle.wire_pcap.specs.Grammar.{Resolution, Stored, time_of, per_tick, records_from, records_of}
use Rattle.wire_pcap.specs.Steps.{new_clock, clock_after, clock_after_all, made_from}
use Rattle.wire_pcap.specs.declared.clock.Clock.{Clock}

pub clock_after_all-append : (resolution : Resolution) (clock : Clock) (xs ys : List Stored)
    → clock_after_all resolution clock (xs ++ ys) ≡ clock_after_all resolution (clock_after_all resolution clock xs) ys
clock_after_all-append resolution clock [] ys = refl
clock_after_all-append resolution clock (x ∷ xs) ys = clock_after_all-append resolution (clock_after resolution clock x) xs ys

pub made_from-append : (resolution : Resolution) (clock : Clock) (xs ys : List Stored)
    → made_from resolution clock (xs ++ ys) ≡ made_from resolution clock xs ++ made_from resolution (clock_after_all resolution clock xs) ys
made_from-append resolution clock [] ys = refl
made_from-append resolution clock (x ∷ xs) ys =
    let after = clock_after resolution clock x in
    ap (λ (rs : List Record). record { tick = record { 0 = after.tick }; frame = x.frame } ∷ rs) (made_from-append resolution after xs ys)

made_from-started : (resolution : Resolution) (start tick : ℕ) (rs : List Stored)
    → made_from resolution (record { start = Some start; tick = tick }) rs ≡ records_from resolution start tick rs
made_from-started resolution start tick [] = refl
made_from-started resolution start tick (r ∷ rs) =
    let next = max tick ((time_of resolution r - start) / per_tick resolution) in
    ap (λ (xs : List Record). record { tick = record { 0 = next }; frame = r.frame } ∷ xs) (made_from-started resolution start next rs)

-- from the clock of a new reader on, the records are those of the capture
pub made_from-new : (resolution : Resolution) (rs : List Stored) → made_from resolution new_clock rs ≡ records_of resolution rs
made_from-new resolution [] = refl
made_from-new resolution (r ∷ rs) =
    let start = time_of resolution r in
    let next = max 0 ((start - start) / per_tick resolution) in
    ap (λ (xs : List Record). record { tick = record { 0 = next }; frame = r.frame } ∷ xs) (made_from-started resolution start next rs)

pub records_of-append : (resolution : Resolution) (xs ys : List Stored)
    → records_of resolution (xs ++ ys) ≡ records_of resolution xs ++ made_from resolution (clock_after_all resolution new_clock xs) ys
records_of-append resolution xs ys =
    sym (made_from-new resolution (xs ++ ys)) ∙ made_from-append resolution new_clock xs ys
    ∙ ap (λ (rs : List Record). rs ++ made_from resolution (clock_after_all resolution new_clock xs) ys) (made_from-new resolution xs)
