-- Who hears the packets of a datagram in order has it at the last one.
use Rattle.std.proofs.Common.{◌≡◌, refl, sym, ◌∙◌, ap, arith, ℕ, zero, suc, ◌+◌, ◌*◌, ◌≤◌, ◌<◌, Bool, true, false, cond, not, ◌&&◌, ◌||◌, nat_le, nat_lt, is_some, option_map, List, [], ◌∷◌, ◌++◌, length, take, drop, Option, Some, None}
use Rattle.std.proofs.lemmas.Bool.Decides.{nat_tests}
use Rattle.std.proofs.lemmas.List.{length-drop, length-take, append_assoc}
use Rattle.std.specs.Option.{option_and_then}
use Rattle.wire_ip4.specs.Packet.{Packet, is_fragment}
use Rattle.ip_core.specs.Pools.{Key, Pool, key_of, is_key, reach_of, most_bytes, most_pools, lasts, open_at, is_dropped, kept_of, with_kept, without, kept_with, joined, after_fragment, datagram_with}
use Rattle.ip_core.specs.Datagrams.{heard, after_event, event_datagram, event_datagrams, datagrams_of, byte_at, bytes_below, end_of, whole_of, fragments_kept}
use Rattle.ip_cut.specs.Cutting.{Sending, cuts_of, packet_with, cut_from, packets_of, datagram_sent, all_heard, at_last}
use Rattle.ip_cut.proofs.Octets.{whole, one-more}

-- the pools while so many fragments of one key were heard at a tick, and no others
abbrev pools_with : ℕ → Key → List Packet → List (Pool (List Packet))
pools_with now key [] = []
pools_with now key (f ∷ fs) = record { key = key; opened = now; kept = f ∷ fs } ∷ []

same-key : (k : Key) → is_key k k ≡ true
same-key k = grind (arith, nat_tests)

lasts-now : (now : ℕ) (key : Key) (fs : List Packet) → lasts now (record { key = key; opened = now; kept = fs }) ≡ true
lasts-now now key fs = grind (arith, nat_tests)

open-now : (now : ℕ) (key : Key) (fs : List Packet) → open_at now (pools_with now key fs) ≡ pools_with now key fs
open-now now key [] = refl
open-now now key (f ∷ fs) =
    let pool : Pool (List Packet) = record { key = key; opened = now; kept = f ∷ fs } in
    ap (λ b. cond b (pool ∷ []) []) (lasts-now now key (f ∷ fs))

near : (f : Packet) → reach_of f ≤ 65515 → nat_lt most_bytes (reach_of f) ≡ false
near f h = grind (arith, nat_tests)

taken-in : (now : ℕ) (f : Packet) (fs : List Packet) → reach_of f ≤ 65515 → is_dropped f (pools_with now (key_of f) fs) ≡ false
taken-in now f [] h = ap (λ b. b || false) (near f h)
taken-in now f (g ∷ fs) h =
    ap (λ b. b || (not (is_key (key_of f) (key_of f) || false) && nat_le most_pools 1)) (near f h)
    ∙ ap (λ b. not (b || false) && nat_le most_pools 1) (same-key (key_of f))

kept : (now : ℕ) (f : Packet) (fs : List Packet) → kept_of fragments_kept (key_of f) (pools_with now (key_of f) fs) ≡ fs
kept now f [] = refl
kept now f (g ∷ fs) = ap (λ b. cond b (g ∷ fs) []) (same-key (key_of f))

put : (now : ℕ) (f : Packet) (fs : List Packet) → with_kept (key_of f) now (fs ++ f ∷ []) (pools_with now (key_of f) fs) ≡ pools_with now (key_of f) (fs ++ f ∷ [])
put now f [] = refl
put now f (g ∷ fs) =
    let pool : Pool (List Packet) = record { key = key_of f; opened = now; kept = g ∷ fs } in
    let more : Pool (List Packet) = record { key = key_of f; opened = now; kept = g ∷ (fs ++ f ∷ []) } in
    ap (λ b. cond b (more ∷ []) (pool ∷ with_kept (key_of f) now (g ∷ (fs ++ f ∷ [])) [])) (same-key (key_of f))

joins : (now : ℕ) (f : Packet) (fs : List Packet) (w : Option (List ℕ)) → reach_of f ≤ 65515 → whole_of (fs ++ f ∷ []) ≡ w
    → joined fragments_kept (pools_with now (key_of f) fs) f ≡ w
joins now f fs w h e =
    let pools : List (Pool (List Packet)) = pools_with now (key_of f) fs in
    ap (λ b. cond b None (whole_of (kept_with fragments_kept f pools))) (taken-in now f fs h) ∙ ap (λ l. whole_of (l ++ f ∷ [])) (kept now f fs) ∙ e

gives : (now : ℕ) (f : Packet) (fs : List Packet) (w : Option (List ℕ)) → is_fragment f ≡ true → reach_of f ≤ 65515 → whole_of (fs ++ f ∷ []) ≡ w
    → event_datagram fragments_kept (pools_with now (key_of f) fs) (heard now f) ≡ option_map (datagram_with f) w
gives now f fs w frag h e =
    let pools : List (Pool (List Packet)) = pools_with now (key_of f) fs in
    ap (λ b. cond b (option_map (datagram_with f) (joined fragments_kept (open_at now pools) f)) (Some (datagram_with f f.payload))) frag
    ∙ ap (λ l. option_map (datagram_with f) (joined fragments_kept l f)) (open-now now (key_of f) fs)
    ∙ ap (option_map (datagram_with f)) (joins now f fs w h e)

-- a fragment that doesn't make it whole is kept
leaves : (now : ℕ) (f : Packet) (fs : List Packet) → is_fragment f ≡ true → reach_of f ≤ 65515 → whole_of (fs ++ f ∷ []) ≡ None
    → after_event fragments_kept (pools_with now (key_of f) fs) (heard now f) ≡ pools_with now (key_of f) (fs ++ f ∷ [])
leaves now f fs frag h e =
    let pools : List (Pool (List Packet)) = pools_with now (key_of f) fs in
    let not-yet : whole_of (kept_with fragments_kept f pools) ≡ None = ap (λ l. whole_of (l ++ f ∷ [])) (kept now f fs) ∙ e in
    ap (λ b. cond b (after_fragment fragments_kept now (open_at now pools) f) (open_at now pools)) frag
    ∙ ap (λ l. after_fragment fragments_kept now l f) (open-now now (key_of f) fs)
    ∙ ap
    (λ b. cond b pools (cond (is_some (whole_of (kept_with fragments_kept f pools))) (without (key_of f) pools)
    (with_kept (key_of f) now (kept_with fragments_kept f pools) pools)))
    (taken-in now f fs h)
    ∙ ap (λ o. cond (is_some o) (without (key_of f) pools) (with_kept (key_of f) now (kept_with fragments_kept f pools) pools)) not-yet
    ∙ ap (λ l. with_kept (key_of f) now (l ++ f ∷ []) pools) (kept now f fs)
    ∙ put now f fs

no-end : (fs : List Packet) (f : Packet) → f.mf ≡ true → end_of fs ≡ None → end_of (fs ++ f ∷ []) ≡ None
no-end [] f more e = ap (λ b. cond b None (Some (reach_of f))) more
no-end (g ∷ fs) f more e = by g.mf refl (no-end fs f more)
  where
    by : (b : Bool) → g.mf ≡ b → (end_of fs ≡ None → end_of (fs ++ f ∷ []) ≡ None) → cond g.mf (end_of (fs ++ f ∷ [])) (Some (reach_of g)) ≡ None
    by true m rest = ap (λ b. cond b (end_of (fs ++ f ∷ [])) (Some (reach_of g))) m ∙ rest (sym (ap (λ b. cond b (end_of fs) (Some (reach_of g))) m) ∙ e)
    by false m rest = absurd (some-none (sym (ap (λ b. cond b (end_of fs) (Some (reach_of g))) m) ∙ e))
      where
        some-none : Some (reach_of g) ≡ None → ⊥
        some-none e = absurd (cc)

not-whole : (fs : List Packet) → end_of fs ≡ None → whole_of fs ≡ None
not-whole fs e = ap (option_and_then (λ n. bytes_below n (byte_at fs))) e

behind : (place cuts : ℕ) → 0 < place + cuts → cuts ≡ 0 → nat_lt 0 place ≡ true
behind place cuts h e = grind (arith, nat_tests)

abbrev key_sent : Sending → Key
key_sent d = record { src = d.src; dest = d.dest; proto = d.proto; id = d.id }

hears : (most : ℕ) (d : Sending) (now place cuts : ℕ) (bytes : List ℕ) (fs : List Packet) → 0 < most → place + length bytes ≤ 65515 → cuts * most ≤ length bytes
    → 0 < place + cuts → end_of fs ≡ None → whole_of (fs ++ cut_from most d place cuts bytes) ≡ Some d.payload
    → event_datagrams fragments_kept (pools_with now (key_sent d) fs) (all_heard now (cut_from most d place cuts bytes)) ≡ at_last cuts (datagram_sent d)
hears most d now place zero bytes fs some fits long apart none all =
    let f : Packet = packet_with d false place bytes in
    ap (λ o. o ∷ []) (gives now f fs (Some d.payload) (behind place zero apart refl) fits all)
hears most d now place (suc cuts) bytes fs some fits long apart none all =
    let f : Packet = packet_with d true place (take most bytes) in
    let rest : List Packet = cut_from most d (place + most) cuts (drop most bytes) in
    let reach : place + length (take most bytes) ≤ 65515 = omega (arith, fits, length-take most bytes) in
    let open-end = no-end fs f refl none in
    let not-yet = not-whole (fs ++ f ∷ []) open-end in
    let full : most ≤ length bytes = omega (arith, long, one-more cuts most) in
    let later : place + most + length (drop most bytes) ≤ 65515 = omega (arith, fits, full, length-drop most bytes) in
    let less : cuts * most ≤ length (drop most bytes) = omega (arith, long, length-drop most bytes, one-more cuts most) in
    let still : whole_of ((fs ++ f ∷ []) ++ rest) ≡ Some d.payload = ap whole_of (append_assoc fs (f ∷ []) rest) ∙ all in
    ap
    (λ o. o ∷ event_datagrams fragments_kept (after_event fragments_kept (pools_with now (key_sent d) fs) (heard now f)) (all_heard now rest))
    (gives now f fs None refl reach not-yet)
    ∙ ap (λ l. None ∷ event_datagrams fragments_kept l (all_heard now rest)) (leaves now f fs refl reach not-yet)
    ∙ ap
    (λ l. None ∷ l)
    (hears most d now (place + most) cuts (drop most bytes) (fs ++ f ∷ []) some later less (omega (arith, some)) open-end still)

hears-all : (d : Sending) (now cuts : ℕ) → length d.payload ≤ 65515 → cuts * 1480 ≤ length d.payload
    → datagrams_of (all_heard now (cut_from 1480 d 0 cuts d.payload)) ≡ at_last cuts (datagram_sent d)
hears-all d now zero h long = refl
hears-all d now (suc cuts) h long =
    hears 1480 d now 0 (suc cuts) d.payload [] (omega arith) (omega (arith, h)) long (omega arith) refl (whole 1480 d (suc cuts) d.payload long)

enough : (len : ℕ) → cuts_of len * 1480 ≤ len
enough len = omega arith

pub heard_whole : (d : Sending) (now : ℕ) → length d.payload ≤ 65515 → datagrams_of (all_heard now (packets_of d)) ≡ at_last (cuts_of (length d.payload)) (datagram_sent d)
heard_whole d now h = hears-all d now (cuts_of (length d.payload)) h (enough (length d.payload))
