-- What kept fragments leave open to a station is what all records leave open to it.
use Rattle.std.proofs.Common.{◌≡◌, ℕ, ◌+◌, ◌-◌, ◌<◌, ◌≤◌, max, Bool, true, false, ◌&&◌, List, [], ◌∷◌, ◌++◌, filter, fold, take, get_or, length, All, Option, Some, None, is_some, refl, sym, ap, subst, ◌∙◌, inl, inr, arith, rules, if◌then◌else◌}
use Rattle.std.specs.Option.{option_map_or}
use Rattle.std.proofs.Math.Nat.{max-eq_left, max-eq_right, le-max_left, le-max_right}
use Rattle.std.proofs.lemmas.Bool.{cases_lt, lt-ltb, le-ltb, ltb-true}
use Rattle.std.proofs.lemmas.List.{take_more}
use Rattle.std.proofs.lemmas.List.Elements.{All-head, All-tail, All-cons, All-append, All-filter}
use Rattle.std.proofs.lemmas.List.Sums.{fold-append}
use Rattle.efi_base.specs.declared.plain.Record.{Record}
use Rattle.wire_ip4.specs.Packet.{Packet, packet_of, is_fragment}
use Rattle.ip_core.specs.Pools.{Key, Pool, key_of, is_of, is_dropped, lasts, lifetime, open_at, kept_with, with_kept, without, after_fragment}
use Rattle.ip_core.specs.Bytes.{Bytes, bytes_kept}
use Rattle.ip_core.specs.Datagrams.{after_event}
use Rattle.ip_core.specs.Frames.{event_at, packet_in_frame}
use Rattle.tap_core.specs.declared.early.Fragment.{Fragment}
use Rattle.tap_core.specs.declared.early.Fragments.{Fragments}
use Rattle.tap_core.specs.Early.{after_kept, latest_of, pools_left, HasFragments}
use Rattle.tap_core.specs.Frames.{is_sent, heard_packet, holds_fragment}
use Rattle.tap_core.specs.Hearing.{event_heard}
use Rattle.tap_core.specs.Openings.{Opening}

all-nil : {A : Type 0} (P : A → Type 0) → All P []
all-nil P = search rules

and-right : (x y : Bool) → (y ≡ true → x ≡ true) → y ≡ (x && y)
and-right true y h = refl
and-right false true h = sym (h refl)
and-right false false h = refl

and-left : (x y : Bool) → (x ≡ true → y ≡ true) → x ≡ (x && y)
and-left true true h = refl
and-left true false h = sym (h refl)
and-left false y h = refl

-- a pool that lasts at a tick lasts at those before
lasts-before : (a b : ℕ) (p : Pool Bytes) → a ≤ b → lasts b p ≡ true → lasts a p ≡ true
lasts-before a b p h l = lt-ltb (a - p.opened) lifetime (omega (arith, h, ltb-true (b - p.opened) lifetime l))

lasts-both : (a b : ℕ) (p : Pool Bytes) → lasts (max a b) p ≡ (lasts a p && lasts b p)
lasts-both a b p = elim (cases_lt a b) [
  | inl l ↦ ap (λ m. lasts m p) (max-eq_right (omega (arith, l))) ∙ and-right (lasts a p) (lasts b p) (lasts-before a b p (omega (arith, l)))
  | inr h ↦ ap (λ m. lasts m p) (max-eq_left h) ∙ and-left (lasts a p) (lasts b p) (lasts-before b a p h)
]

twice-step : (p : Pool Bytes → Bool) (x : Pool Bytes) (ys zs : List (Pool Bytes)) (bp bq br : Bool) → p x ≡ bp → br ≡ (bp && bq) → filter p ys ≡ zs
    → filter p (if bq then x ∷ ys else ys) ≡ (if br then x ∷ zs else zs)
twice-step p x ys zs true true br hp e h = rw (e, hp) (ap (λ l. x ∷ l) h)
twice-step p x ys zs false true br hp e h = rw (e, hp) h
twice-step p x ys zs true false br hp e h = rw e h
twice-step p x ys zs false false br hp e h = rw e h

filter-twice : (p q r : Pool Bytes → Bool) → ((x : Pool Bytes) → r x ≡ (p x && q x)) → (xs : List (Pool Bytes)) → filter p (filter q xs) ≡ filter r xs
filter-twice p q r e [] = refl
filter-twice p q r e (x ∷ xs) = twice-step p x (filter q xs) (filter r xs) (p x) (q x) (r x) refl (e x) (filter-twice p q r e xs)

-- two ticks close what the later of them closes
pub open-open : (a b : ℕ) (pools : List (Pool Bytes)) → open_at a (open_at b pools) ≡ open_at (max a b) pools
open-open a b pools = filter-twice (lasts a) (lasts b) (lasts (max a b)) (lasts-both a b) pools

-- tick 0 closes none
open-zero : (pools : List (Pool Bytes)) → open_at 0 pools ≡ pools
open-zero [] = refl
open-zero (p ∷ pools) =
    let there : lasts 0 p ≡ true = lt-ltb (0 - p.opened) lifetime (omega arith) in
    rw there (ap (λ l. p ∷ l) (open-zero pools))

-- a pool that opened no later than a tick
abbrev opened-by : ℕ → Pool Bytes → Type 0
opened-by m p = p.opened ≤ m

-- once such pools' time is over, none is open
fades : (m t : ℕ) (pools : List (Pool Bytes)) → lifetime ≤ t - m → All (opened-by m) pools → open_at t pools ≡ []
fades m t [] h o = refl
fades m t (p ∷ pools) h o =
    let old : lasts t p ≡ false = le-ltb (t - p.opened) lifetime (omega (arith, h, All-head (opened-by m) p pools o)) in
    rw old (fades m t pools h (All-tail (opened-by m) p pools o))

if-both : {A : Type 0} (P : A → Type 0) (b : Bool) (x y : A) → P x → P y → P (if b then x else y)
if-both P true x y px py = px
if-both P false x y px py = py

without-by : (m : ℕ) (key : Key) (pools : List (Pool Bytes)) → All (opened-by m) pools → All (opened-by m) (without key pools)
without-by m key [] o = o
without-by m key (p ∷ pools) o =
    let rest = All-tail (opened-by m) p pools o in
    if-both (All (opened-by m)) (is_of key p) pools (p ∷ without key pools) rest
    (All-cons (opened-by m) p (without key pools) (All-head (opened-by m) p pools o) (without-by m key pools rest))

abbrev pool-with : Key → ℕ → Bytes → Pool Bytes
pool-with key opened kept = record { key = key; opened = opened; kept = kept }

with-by : (m now : ℕ) (key : Key) (kept : Bytes) (pools : List (Pool Bytes)) → now ≤ m → All (opened-by m) pools → All (opened-by m) (with_kept key now kept pools)
with-by m now key kept [] h o = All-cons (opened-by m) (pool-with key now kept) [] h o
with-by m now key kept (p ∷ pools) h o =
    let rest = All-tail (opened-by m) p pools o in
    let here = All-head (opened-by m) p pools o in
    if-both (All (opened-by m)) (is_of key p) (pool-with p.key p.opened kept ∷ pools) (p ∷ with_kept key now kept pools)
    (All-cons (opened-by m) (pool-with p.key p.opened kept) pools here rest)
    (All-cons (opened-by m) p (with_kept key now kept pools) here (with-by m now key kept pools h rest))

fragment-by : (m now : ℕ) (pools : List (Pool Bytes)) (f : Packet) → now ≤ m → All (opened-by m) pools → All (opened-by m) (after_fragment bytes_kept now pools f)
fragment-by m now pools f h o =
    let kept = kept_with bytes_kept f pools in
    if-both (All (opened-by m)) (is_dropped f pools) pools _ o
    (if-both (All (opened-by m)) (is_some (bytes_kept.whole kept)) (without (key_of f) pools) (with_kept (key_of f) now kept pools)
    (without-by m (key_of f) pools o) (with-by m now (key_of f) kept pools h o))

-- no pool opens later than its event
event-by : (m now : ℕ) (pools : List (Pool Bytes)) (p : Option Packet) → now ≤ m → All (opened-by m) pools → All (opened-by m) (after_event bytes_kept pools (event_at now p))
event-by m now pools None h o = All-filter (lasts now) (opened-by m) pools o
event-by m now pools (Some p) h o =
    let lasting = All-filter (lasts now) (opened-by m) pools o in
    if-both (All (opened-by m)) (is_fragment p) (after_fragment bytes_kept now (open_at now pools) p) (open_at now pools)
    (fragment-by m now (open_at now pools) p h lasting) lasting

abbrev kept-by : ℕ → Fragment → Type 0
kept-by m k = k.record.tick.0 ≤ m

folded-by : (o : Opening) (m : ℕ) (pools : List (Pool Bytes)) (kept : List Fragment) → All (opened-by m) pools → All (kept-by m) kept
    → All (opened-by m) (fold (after_kept o) pools kept)
folded-by o m pools [] opened by = opened
folded-by o m pools (k ∷ kept) opened by =
    folded-by o m (after_kept o pools k) kept
    (event-by m k.record.tick.0 (open_at k.passed.0 pools) (heard_packet o.station k.record.frame) (All-head (kept-by m) k kept by)
    (All-filter (lasts k.passed.0) (opened-by m) pools opened))
    (All-tail (kept-by m) k kept by)

abbrev later-of : ℕ → Fragment → ℕ
later-of m k = max m k.record.tick.0

latest-grows : (m : ℕ) (kept : List Fragment) → m ≤ fold later-of m kept
latest-grows m [] = omega arith
latest-grows m (k ∷ kept) = omega (arith, le-max_left m k.record.tick.0, latest-grows (later-of m k) kept)

latest-from : (m : ℕ) (kept : List Fragment) → All (kept-by (fold later-of m kept)) kept
latest-from m [] = all-nil (kept-by m)
latest-from m (k ∷ kept) =
    All-cons (kept-by (fold later-of (later-of m k) kept)) k kept
    (omega (arith, le-max_right m k.record.tick.0, latest-grows (later-of m k) kept))
    (latest-from (later-of m k) kept)

-- no kept fragment is later than the latest one
latest-all : (f : Fragments) → HasFragments f → All (kept-by f.latest.0) f.kept.items
latest-all f h = subst (λ m. All (kept-by m) f.kept.items) (sym h.latest_is) (latest-from 0 f.kept.items)

-- once the time of the latest fragment's pool is over, none is open
pub left-fades : (o : Opening) (f : Fragments) (now : ℕ) → lifetime ≤ now - f.latest.0 → HasFragments f → open_at now (pools_left o f) ≡ []
left-fades o f now h fragments =
    fades f.latest.0 now (pools_left o f) h
    (All-filter (lasts f.passed.0) (opened-by f.latest.0) (fold (after_kept o) [] f.kept.items)
    (folded-by o f.latest.0 [] f.kept.items (all-nil (opened-by f.latest.0)) (latest-all f fragments)))

abbrev is-holding : Fragment → Type 0
is-holding k = holds_fragment k.record.frame ≡ true

-- with one fragment more
pub fragments-next : (f g : Fragments) (k : Fragment) → HasFragments f → holds_fragment k.record.frame ≡ true → g.kept.items ≡ f.kept.items ++ k ∷ []
    → g.latest.0 ≡ max f.latest.0 k.record.tick.0 → HasFragments g
fragments-next f g k h here items latest = record {
  holding = subst (All is-holding) (sym items) (All-append is-holding f.kept.items (k ∷ []) h.holding (All-cons is-holding k [] here (all-nil is-holding)));
  latest_is = latest ∙ ap (λ m. max m k.record.tick.0) h.latest_is ∙ sym (fold-append later-of 0 f.kept.items (k ∷ [])) ∙ ap latest_of (sym items);
}

-- no fragment
pub fragments-none : (f : Fragments) → f.kept.items ≡ [] → f.latest.0 ≡ 0 → HasFragments f
fragments-none f items latest = record {
  holding = subst (All is-holding) (sym items) (all-nil is-holding);
  latest_is = latest ∙ ap latest_of (sym items);
}

-- an event sees the pools that are open at its tick
pub event-same : (now : ℕ) (a b : List (Pool Bytes)) (p : Option Packet) → open_at now a ≡ open_at now b
    → after_event bytes_kept a (event_at now p) ≡ after_event bytes_kept b (event_at now p)
event-same now a b None h = h
event-same now a b (Some p) h = ap (λ ps. if is_fragment p then after_fragment bytes_kept now ps p else ps) h

event-passes : (now : ℕ) (pools : List (Pool Bytes)) (sent : Bool) (p : Option Packet) → option_map_or is_fragment p false ≡ false
    → after_event bytes_kept pools (event_at now (if sent then None else p)) ≡ open_at now pools
event-passes now pools true p e = refl
event-passes now pools false None e = refl
event-passes now pools false (Some p) e = rw e refl

-- a record that holds no fragment is to each station a tick alone
pub record-passes : (o : Opening) (pools : List (Pool Bytes)) (r : Record) → holds_fragment r.frame ≡ false
    → after_event bytes_kept pools (event_heard o r) ≡ open_at r.tick.0 pools
unfolding heard_packet
record-passes o pools r e = event-passes r.tick.0 pools (is_sent o.station r.frame) (packet_in_frame packet_of r.frame) e

-- the pools that are left with one fragment more
pub left-next : (o : Opening) (kept : List Fragment) (f : Fragment)
    → open_at 0 (fold (after_kept o) [] (kept ++ f ∷ [])) ≡ after_kept o (fold (after_kept o) [] kept) f
left-next o kept f = open-zero (fold (after_kept o) [] (kept ++ f ∷ [])) ∙ fold-append (after_kept o) [] kept (f ∷ [])

pub kept-more : (o : Opening) (kept : List Fragment) (i : ℕ) (f : Fragment) → i < length kept → f ≡ get_or kept i f
    → fold (after_kept o) [] (take (i + 1) kept) ≡ after_kept o (fold (after_kept o) [] (take i kept)) f
kept-more o kept i f h e =
    ap (fold (after_kept o) []) (take_more kept i f h ∙ ap (λ x. take i kept ++ x ∷ []) (sym e))
    ∙ fold-append (after_kept o) [] (take i kept) (f ∷ [])
