-- What is known of an address once a packet was heard.
use Rattle.std.proofs.Common.{◌≡◌, ◌≢◌, ℕ, ◌==◌, Bool, true, false, List, [], ◌∷◌, map, Option, Some, None, refl, ap, ◌∙◌, arith}
use Rattle.std.proofs.lemmas.Bool.Decides.{nat_tests}
use Rattle.efi_base.specs.declared.plain.Tick.{Tick}
use Rattle.efi_base.specs.declared.plain.Ip4.{Ip4}
use Rattle.efi_base.specs.declared.plain.Mac.{Mac}
use Rattle.wire_link.specs.declared.resolution.Arp.{Arp}
use Rattle.arp_cache.specs.declared.entry.Entry.{Entry}
use Rattle.arp_cache.specs.Entries.{mac_of, refreshed}
use Rattle.arp_cache.specs.Caches.{has, after_heard, after_merge, after_add}

at_sender : (ip : Ip4) (mac : Mac) (now : Tick) (e : Entry) (es : List Entry) (b : Bool) → (e.ip.0 == ip.0) ≡ b →
    (has es ip.0 ≡ true → mac_of (map (refreshed ip mac now) es) ip.0 ≡ Some mac) → has (e ∷ es) ip.0 ≡ true →
    mac_of (map (refreshed ip mac now) (e ∷ es)) ip.0 ≡ Some mac
at_sender ip mac now e es true t rest h = grind arith
at_sender ip mac now e es false t rest h = grind arith

sender : (ip : Ip4) (mac : Mac) (now : Tick) (es : List Entry) → has es ip.0 ≡ true → mac_of (map (refreshed ip mac now) es) ip.0 ≡ Some mac
sender ip mac now [] h = grind arith
sender ip mac now (e ∷ es) h = at_sender ip mac now e es (e.ip.0 == ip.0) refl (sender ip mac now es) h

at_other : (ip : Ip4) (mac : Mac) (now : Tick) (o : ℕ) (e : Entry) (es : List Entry) (b : Bool) → (e.ip.0 == ip.0) ≡ b → o ≢ ip.0 →
    mac_of (map (refreshed ip mac now) es) o ≡ mac_of es o → mac_of (map (refreshed ip mac now) (e ∷ es)) o ≡ mac_of (e ∷ es) o
at_other ip mac now o e es true t n rest = grind (arith, nat_tests)
at_other ip mac now o e es false t n rest = grind (arith, nat_tests)

others : (ip : Ip4) (mac : Mac) (now : Tick) (o : ℕ) (es : List Entry) → o ≢ ip.0 → mac_of (map (refreshed ip mac now) es) o ≡ mac_of es o
others ip mac now o [] n = refl
others ip mac now o (e ∷ es) n = at_other ip mac now o e es (e.ip.0 == ip.0) refl n (others ip mac now o es n)

pub others_stay : (es : List Entry) (m : Arp) (now : Tick) (o : ℕ) → o ≢ m.spa.0 → mac_of (after_heard es m now None) o ≡ mac_of es o
others_stay es m now o n = others m.spa m.sha now o es n

-- an address that is there isn't added
stays : (es : List Entry) (m : Arp) (now : Tick) (life : Option ℕ) (mac : Mac) → mac_of es m.spa.0 ≡ Some mac → after_add es m now life ≡ es
stays es m now None mac h = refl
stays es m now (Some life) mac h = grind arith

pub sender_known : (es : List Entry) (m : Arp) (now : Tick) (life : Option ℕ) → has es m.spa.0 ≡ true → mac_of (after_heard es m now life) m.spa.0 ≡ Some m.sha
sender_known es m now life h =
    let known = sender m.spa m.sha now es h in
    ap (λ l. mac_of l m.spa.0) (stays (after_merge es m now) m now life m.sha known) ∙ known
