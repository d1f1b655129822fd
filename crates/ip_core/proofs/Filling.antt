-- A fragment that lies within a datagram's places is put whole into the window.
use Rattle.std.proofs.Common.{◌≡◌, ℕ, ◌+◌, ◌-◌, ◌^◌, ◌≤◌, min, max, List, length, take, drop, Option, ap, ◌∙◌, arith}
use Rattle.std.proofs.lemmas.List.{take_all}
use Rattle.wire_ip4.specs.Packet.{Packet}
use Rattle.efi_window.specs.Places.{Places, put, held_after, after_put, edge_of}
use Rattle.ip_core.specs.Pools.{Key, Pool, reach_of, most_bytes}
use Rattle.ip_core.specs.Bytes.{Bytes, bytes_with, end_with}

pub put-inside : (w : Places) (place : ℕ) (bytes : List ℕ) → w.cap ≡ most_bytes → w.taken ≡ 0 → place + length bytes ≤ most_bytes
    → held_after w place bytes ≡ put place bytes w.held
unfolding held_after
put-inside w place bytes c t h =
    let a : place - w.taken ≡ place = omega (arith, t) in
    let b : w.taken - place ≡ 0 = omega (arith, t) in
    let all : length bytes ≤ min (w.taken + w.cap) (2 ^ 62) - max place w.taken = omega (arith, t, c, h) in
    ap (λ n. put n (take (edge_of w - max place w.taken) (drop (w.taken - place) bytes)) w.held) a
    ∙ ap (λ n. put place (take (edge_of w - max place w.taken) (drop n bytes)) w.held) b
    ∙ ap (λ l. put place l w.held) (take_all _ bytes all)

abbrev pub the_pool : Key → ℕ → Option ℕ → List (Option ℕ) → Pool Bytes
the_pool key opened end held = record { key = key; opened = opened; kept = record { end = end; held = held } }

-- the pool of a slot after a fragment
pub slot-added : (key : Key) (opened : ℕ) (end after : Option ℕ) (w now : Places) (f : Packet) → w.cap ≡ most_bytes → w.taken ≡ 0
    → reach_of f ≤ most_bytes → now ≡ after_put w f.place f.payload → after ≡ end_with end f
    → the_pool key opened after now.held ≡ the_pool key opened (bytes_with (record { end = end; held = w.held }) f).end (bytes_with (record { end = end; held = w.held }) f).held
slot-added key opened end after w now f c t h n e =
    ap (λ x. the_pool key opened x now.held) e ∙ ap (λ l. the_pool key opened (end_with end f) l) (ap (λ x. x.held) n ∙ put-inside w f.place f.payload c t h)
