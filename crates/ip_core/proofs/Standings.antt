-- Bytes by places stand for the fragments that brought them, and are whole at the same time.
use Rattle.std.proofs.Common.{◌≡◌, ℕ, zero, suc, ◌-◌, Bool, true, false, cond, not, ◌&&◌, ◌||◌, List, [], ◌∷◌, ◌++◌, length, take, Option, Some, None, is_some, option_map, nat_lt, nat_le, refl, sym, ap, ◌∙◌, arith}
use Rattle.std.proofs.lemmas.Bool.Decides.{nat_tests}
use Rattle.std.specs.Prelude.{slice_get}
use Rattle.std.specs.List.{list_any}
use Rattle.std.specs.Option.{option_and_then}
use Rattle.efi_window.specs.Places.{front, put}
use Rattle.wire_ip4.specs.Packet.{Packet, is_fragment}
use Rattle.ip_core.specs.Bytes.{Bytes, bytes_kept, bytes_with, end_with, joined_below}
use Rattle.ip_core.specs.Datagrams.{Event, heard, passed, after_event, event_datagram, event_datagrams, datagrams_of, first_there, byte_in, byte_at, end_of, cons_there, bytes_below, whole_of, fragments_kept}
use Rattle.ip_core.specs.Pools.{Key, Pool, key_of, is_key, is_of, reach_of, most_bytes, most_pools, lasts, open_at, is_dropped, kept_of, with_kept, without, kept_with, joined, after_fragment, after_packet, datagram_at, datagram_with}
use Rattle.ip_core.specs.Standing.{kept_at, AreBytesOf, StandFor}

-- the byte that a text has at a place, where it lies from another place on
abbrev text_at : ℕ → List ℕ → ℕ → Option ℕ
text_at place bytes i = cond (nat_le place i) (slice_get bytes (i - place)) None

first-none : (o : Option ℕ) → first_there o None ≡ o
first-none None = refl
first-none (Some b) = refl

first-assoc : (a b c : Option ℕ) → first_there (first_there a b) c ≡ first_there a (first_there b c)
first-assoc None b c = refl
first-assoc (Some a) b c = refl

text-zero : (b : ℕ) (bytes : List ℕ) (i : ℕ) → text_at 0 (b ∷ bytes) (suc i) ≡ text_at 0 bytes i
text-zero b bytes i =
    let s : nat_le 0 (suc i) ≡ true = grind (arith, nat_tests) in
    let t : nat_le 0 i ≡ true = grind (arith, nat_tests) in
    let m : suc i - 0 ≡ suc i = omega arith in
    let n : i - 0 ≡ i = omega arith in
    ap (λ c. cond c (slice_get (b ∷ bytes) (suc i - 0)) None) s ∙ ap (slice_get (b ∷ bytes)) m
    ∙ sym (ap (λ c. cond c (slice_get bytes (i - 0)) None) t ∙ ap (slice_get bytes) n)

text-first : (b : ℕ) (bytes : List ℕ) → text_at 0 (b ∷ bytes) 0 ≡ Some b
text-first b bytes =
    let s : nat_le 0 0 ≡ true = grind (arith, nat_tests) in
    let m : 0 - 0 ≡ 0 = omega arith in
    ap (λ c. cond c (slice_get (b ∷ bytes) (0 - 0)) None) s ∙ ap (slice_get (b ∷ bytes)) m

text-before : (place : ℕ) (bytes : List ℕ) → text_at (suc place) bytes 0 ≡ None
text-before place bytes =
    let s : nat_le (suc place) 0 ≡ false = grind (arith, nat_tests) in
    ap (λ c. cond c (slice_get bytes (0 - suc place)) None) s

text-next : (place : ℕ) (bytes : List ℕ) (i : ℕ) → text_at (suc place) bytes (suc i) ≡ text_at place bytes i
text-next place bytes i =
    let s : nat_le (suc place) (suc i) ≡ nat_le place i = grind (arith, nat_tests) in
    let m : suc i - suc place ≡ i - place = omega arith in
    ap (λ c. cond c (slice_get bytes (suc i - suc place)) None) s ∙ ap (λ n. cond (nat_le place i) (slice_get bytes n) None) m

text-none : (place i : ℕ) → text_at place [] i ≡ None
text-none place i = none-cases (nat_le place i)
  where
    none-cases : (c : Bool) → cond c (slice_get {X = ℕ} [] (i - place)) None ≡ None
    none-cases true = refl
    none-cases false = refl

-- a byte that stands at a place stays, and else the one that was put there stands
put-at : (place : ℕ) (bytes : List ℕ) (kept : List (Option ℕ)) (i : ℕ) → kept_at (put place bytes kept) i ≡ first_there (kept_at kept i) (text_at place bytes i)
put-at place [] kept i = sym (ap (first_there (kept_at kept i)) (text-none place i) ∙ first-none (kept_at kept i))
put-at zero (b ∷ bytes) [] zero = sym (text-first b bytes)
put-at zero (b ∷ bytes) [] (suc i) = put-at zero bytes [] i ∙ sym (text-zero b bytes i)
put-at zero (b ∷ bytes) (None ∷ kept) zero = sym (text-first b bytes)
put-at zero (b ∷ bytes) (None ∷ kept) (suc i) = put-at zero bytes kept i ∙ ap (first_there (kept_at kept i)) (sym (text-zero b bytes i))
put-at zero (b ∷ bytes) (Some old ∷ kept) zero = refl
put-at zero (b ∷ bytes) (Some old ∷ kept) (suc i) = put-at zero bytes kept i ∙ ap (first_there (kept_at kept i)) (sym (text-zero b bytes i))
put-at (suc place) (b ∷ bytes) [] zero = sym (text-before place (b ∷ bytes))
put-at (suc place) (b ∷ bytes) [] (suc i) = put-at place (b ∷ bytes) [] i ∙ sym (text-next place (b ∷ bytes) i)
put-at (suc place) (b ∷ bytes) (k ∷ kept) zero = sym (ap (first_there k) (text-before place (b ∷ bytes)) ∙ first-none k)
put-at (suc place) (b ∷ bytes) (k ∷ kept) (suc i) = put-at place (b ∷ bytes) kept i ∙ ap (first_there (kept_at kept i)) (sym (text-next place (b ∷ bytes) i))

-- the byte at a place with one more fragment
byte-more : (fs : List Packet) (f : Packet) (i : ℕ) → byte_at (fs ++ f ∷ []) i ≡ first_there (byte_at fs i) (byte_in f i)
byte-more [] f i = first-none (byte_in f i)
byte-more (x ∷ fs) f i = ap (first_there (byte_in x i)) (byte-more fs f i) ∙ sym (first-assoc (byte_in x i) (byte_at fs i) (byte_in f i))

end-cases : (mf : Bool) (rest at : Option ℕ) (f : Packet) (n : ℕ) → end_with rest f ≡ at → end_with (cond mf rest (Some n)) f ≡ cond mf at (Some n)
end-cases true rest at f n e = e
end-cases false rest at f n e = refl

end-more : (fs : List Packet) (f : Packet) → end_with (end_of fs) f ≡ end_of (fs ++ f ∷ [])
end-more [] f = refl
end-more (x ∷ fs) f = end-cases x.mf (end_of fs) (end_of (fs ++ f ∷ [])) f (reach_of x) (end-more fs f)

-- the bytes stand for the fragments with one more
more-stands : (fs : List Packet) (b : Bytes) (f : Packet) → AreBytesOf fs b → AreBytesOf (fs ++ f ∷ []) (bytes_with b f)
more-stands fs b f s = record {
  end = ap (λ e. end_with e f) s.end ∙ end-more fs f;
  bytes = λ i. put-at f.place f.payload b.held i ∙ ap (λ o. first_there o (byte_in f i)) (s.bytes i) ∙ sym (byte-more fs f i);
}

none-stands : AreBytesOf [] bytes_kept.nothing
none-stands = record { end = refl; bytes = λ i. refl }

below-same : (end : ℕ) (g h : ℕ → Option ℕ) → ((i : ℕ) → g i ≡ h i) → bytes_below end g ≡ bytes_below end h
below-same zero g h e = refl
below-same (suc end) g h e =
    ap (λ o. cons_there o (bytes_below end (λ i. g (suc i)))) (e 0)
    ∙ ap (cons_there (h 0)) (below-same end (λ i. g (suc i)) (λ i. h (suc i)) (λ i. e (suc i)))

below-none : (end : ℕ) → joined_below (Some (suc end)) [] ≡ None
below-none end =
    let t : nat_le (suc end) 0 ≡ false = grind (arith, nat_tests) in
    ap (λ c. cond c (Some (take {A = ℕ} (suc end) [])) None) t

cons-cases : (c : Bool) (b : ℕ) (bytes : List ℕ) → cons_there (Some b) (cond c (Some bytes) None) ≡ cond c (Some (b ∷ bytes)) None
cons-cases true b bytes = refl
cons-cases false b bytes = refl

below-front : (end : ℕ) (held : List (Option ℕ)) → bytes_below end (kept_at held) ≡ joined_below (Some end) (front held)
below-front zero held =
    let t : nat_le 0 (length (front held)) ≡ true = grind (arith, nat_tests) in
    sym (ap (λ c. cond c (Some (take 0 (front held))) None) t)
below-front (suc end) [] = sym (below-none end)
below-front (suc end) (None ∷ held) = sym (below-none end)
below-front (suc end) (Some b ∷ held) =
    let t : nat_le (suc end) (suc (length (front held))) ≡ nat_le end (length (front held)) = grind (arith, nat_tests) in
    ap (cons_there (Some b)) (below-front end held)
    ∙ cons-cases (nat_le end (length (front held))) b (take end (front held))
    ∙ sym (ap (λ c. cond c (Some (b ∷ take end (front held))) None) t)

whole-at : (end : Option ℕ) (fs : List Packet) (held : List (Option ℕ)) → ((i : ℕ) → kept_at held i ≡ byte_at fs i)
    → joined_below end (front held) ≡ option_and_then (λ end. bytes_below end (byte_at fs)) end
whole-at None fs held s = refl
whole-at (Some end) fs held s = sym (below-front end held) ∙ below-same end (kept_at held) (byte_at fs) s

-- both are whole at the same time, with the same bytes
whole-same : (fs : List Packet) (b : Bytes) → AreBytesOf fs b → bytes_kept.whole b ≡ whole_of fs
whole-same fs b s = whole-at b.end fs b.held s.bytes ∙ ap (option_and_then (λ end. bytes_below end (byte_at fs))) s.end

both : {A B : Type 0} (R : A → B → Type 0) (b c : Bool) (x y : A) (u v : B) → c ≡ b → R x u → R y v → R (cond b x y) (cond c u v)
both R true true x y u v e r s = r
both R false false x y u v e r s = s
both R true false x y u v e r s = absurd (cc)
both R false true x y u v e r s = absurd (cc)

-- the same pools last
stand-open : (now : ℕ) (pools : List (Pool (List Packet))) (slots : List (Pool Bytes)) → StandFor pools slots → StandFor (open_at now pools) (open_at now slots)
stand-open now [] [] s = tt
stand-open now [] (slot ∷ slots) s = absurd s
stand-open now (pool ∷ pools) [] s = absurd s
stand-open now (pool ∷ pools) (slot ∷ slots) s =
    let rest = stand-open now pools slots s.1 in
    both StandFor (lasts now pool) (lasts now slot) (pool ∷ open_at now pools) (open_at now pools) (slot ∷ open_at now slots) (open_at now slots)
    (ap (λ t. nat_lt (now - t) 30000) s.0.opened) (s.0, rest) rest

stand-any : (key : Key) (pools : List (Pool (List Packet))) (slots : List (Pool Bytes)) → StandFor pools slots → list_any (is_of key) slots ≡ list_any (is_of key) pools
stand-any key [] [] s = refl
stand-any key [] (slot ∷ slots) s = absurd s
stand-any key (pool ∷ pools) [] s = absurd s
stand-any key (pool ∷ pools) (slot ∷ slots) s =
    ap (λ k. is_key key k || list_any (is_of key) slots) s.0.key ∙ ap (λ b. is_of key pool || b) (stand-any key pools slots s.1)

stand-length : (pools : List (Pool (List Packet))) (slots : List (Pool Bytes)) → StandFor pools slots → length slots ≡ length pools
stand-length [] [] s = refl
stand-length [] (slot ∷ slots) s = absurd s
stand-length (pool ∷ pools) [] s = absurd s
stand-length (pool ∷ pools) (slot ∷ slots) s = ap suc (stand-length pools slots s.1)

stand-dropped : (f : Packet) (pools : List (Pool (List Packet))) (slots : List (Pool Bytes)) → StandFor pools slots → is_dropped f slots ≡ is_dropped f pools
stand-dropped f pools slots s =
    ap (λ b. nat_lt most_bytes (reach_of f) || (not b && nat_le most_pools (length slots))) (stand-any (key_of f) pools slots s)
    ∙ ap (λ n. nat_lt most_bytes (reach_of f) || (not (list_any (is_of (key_of f)) pools) && nat_le most_pools n)) (stand-length pools slots s)

stand-kept : (key : Key) (pools : List (Pool (List Packet))) (slots : List (Pool Bytes)) → StandFor pools slots
    → AreBytesOf (kept_of fragments_kept key pools) (kept_of bytes_kept key slots)
stand-kept key [] [] s = none-stands
stand-kept key [] (slot ∷ slots) s = absurd s
stand-kept key (pool ∷ pools) [] s = absurd s
stand-kept key (pool ∷ pools) (slot ∷ slots) s =
    both AreBytesOf (is_of key pool) (is_of key slot) pool.kept (kept_of fragments_kept key pools) slot.kept (kept_of bytes_kept key slots)
    (ap (is_key key) s.0.key) s.0.kept (stand-kept key pools slots s.1)

stand-with : (key : Key) (now : ℕ) (fs : List Packet) (b : Bytes) (pools : List (Pool (List Packet))) (slots : List (Pool Bytes)) → StandFor pools slots → AreBytesOf fs b
    → StandFor (with_kept key now fs pools) (with_kept key now b slots)
stand-with key now fs b [] [] s k = (record { key = refl; opened = refl; kept = k }, tt)
stand-with key now fs b [] (slot ∷ slots) s k = absurd s
stand-with key now fs b (pool ∷ pools) [] s k = absurd s
stand-with key now fs b (pool ∷ pools) (slot ∷ slots) s k =
    both StandFor (is_of key pool) (is_of key slot) (record { key = pool.key; opened = pool.opened; kept = fs } ∷ pools) (pool ∷ with_kept key now fs pools)
    (record { key = slot.key; opened = slot.opened; kept = b } ∷ slots) (slot ∷ with_kept key now b slots)
    (ap (is_key key) s.0.key) (record { key = s.0.key; opened = s.0.opened; kept = k }, s.1) (s.0, stand-with key now fs b pools slots s.1 k)

stand-without : (key : Key) (pools : List (Pool (List Packet))) (slots : List (Pool Bytes)) → StandFor pools slots → StandFor (without key pools) (without key slots)
stand-without key [] [] s = tt
stand-without key [] (slot ∷ slots) s = absurd s
stand-without key (pool ∷ pools) [] s = absurd s
stand-without key (pool ∷ pools) (slot ∷ slots) s =
    both StandFor (is_of key pool) (is_of key slot) pools (pool ∷ without key pools) slots (slot ∷ without key slots)
    (ap (is_key key) s.0.key) s.1 (s.0, stand-without key pools slots s.1)

stand-more : (f : Packet) (pools : List (Pool (List Packet))) (slots : List (Pool Bytes)) → StandFor pools slots
    → AreBytesOf (kept_with fragments_kept f pools) (kept_with bytes_kept f slots)
stand-more f pools slots s = more-stands _ _ f (stand-kept (key_of f) pools slots s)

stand-whole : (f : Packet) (pools : List (Pool (List Packet))) (slots : List (Pool Bytes)) → StandFor pools slots
    → bytes_kept.whole (kept_with bytes_kept f slots) ≡ whole_of (kept_with fragments_kept f pools)
stand-whole f pools slots s = whole-same _ _ (stand-more f pools slots s)

stand-joined : (f : Packet) (pools : List (Pool (List Packet))) (slots : List (Pool Bytes)) → StandFor pools slots → joined bytes_kept slots f ≡ joined fragments_kept pools f
stand-joined f pools slots s =
    ap (λ t. cond t None (bytes_kept.whole (kept_with bytes_kept f slots))) (stand-dropped f pools slots s)
    ∙ ap (λ o. cond (is_dropped f pools) None o) (stand-whole f pools slots s)

stand-after : (now : ℕ) (f : Packet) (pools : List (Pool (List Packet))) (slots : List (Pool Bytes)) → StandFor pools slots
    → StandFor (after_fragment fragments_kept now pools f) (after_fragment bytes_kept now slots f)
stand-after now f pools slots s =
    both StandFor (is_dropped f pools) (is_dropped f slots) pools _ slots _ (stand-dropped f pools slots s) s
    (both StandFor (is_some (whole_of (kept_with fragments_kept f pools))) (is_some (bytes_kept.whole (kept_with bytes_kept f slots)))
    (without (key_of f) pools) (with_kept (key_of f) now (kept_with fragments_kept f pools) pools)
    (without (key_of f) slots) (with_kept (key_of f) now (kept_with bytes_kept f slots) slots)
    (ap is_some (stand-whole f pools slots s)) (stand-without (key_of f) pools slots s)
    (stand-with (key_of f) now _ _ pools slots s (stand-more f pools slots s)))

-- the same datagram exists at a packet
pub stand-datagram : (now : ℕ) (p : Packet) (pools : List (Pool (List Packet))) (slots : List (Pool Bytes)) → StandFor pools slots
    → datagram_at bytes_kept slots now p ≡ datagram_at fragments_kept pools now p
stand-datagram now p pools slots s =
    ap (λ o. cond (is_fragment p) (option_map (datagram_with p) o) (Some (datagram_with p p.payload))) (stand-joined p _ _ (stand-open now pools slots s))

-- the pools stand for each other behind it
pub stand-packet : (now : ℕ) (p : Packet) (pools : List (Pool (List Packet))) (slots : List (Pool Bytes)) → StandFor pools slots
    → StandFor (after_packet fragments_kept pools now p) (after_packet bytes_kept slots now p)
stand-packet now p pools slots s =
    let opened = stand-open now pools slots s in
    both StandFor (is_fragment p) (is_fragment p) (after_fragment fragments_kept now (open_at now pools) p) (open_at now pools)
    (after_fragment bytes_kept now (open_at now slots) p) (open_at now slots) refl (stand-after now p _ _ opened) opened

pub stand-event : (e : Event) (pools : List (Pool (List Packet))) (slots : List (Pool Bytes)) → StandFor pools slots
    → (event_datagram bytes_kept slots e ≡ event_datagram fragments_kept pools e) × StandFor (after_event fragments_kept pools e) (after_event bytes_kept slots e)
stand-event (heard now p) pools slots s = (stand-datagram now p pools slots s, stand-packet now p pools slots s)
stand-event (passed now) pools slots s = (refl, stand-open now pools slots s)

stand-events : (events : List Event) (pools : List (Pool (List Packet))) (slots : List (Pool Bytes)) → StandFor pools slots
    → event_datagrams bytes_kept slots events ≡ event_datagrams fragments_kept pools events
stand-events [] pools slots s = refl
stand-events (e ∷ events) pools slots s =
    let one = stand-event e pools slots s in
    ap (λ o. o ∷ event_datagrams bytes_kept (after_event bytes_kept slots e) events) one.0
    ∙ ap (λ l. event_datagram fragments_kept pools e ∷ l) (stand-events events _ _ one.1)

-- at each of the events the bytes give the datagram that exists
pub datagrams-same : (events : List Event) → event_datagrams bytes_kept [] events ≡ datagrams_of events
datagrams-same events = stand-events events [] [] tt
