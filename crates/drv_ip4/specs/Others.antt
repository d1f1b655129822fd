-- What a packet leaves as it was: every token but receives of the children that hear its datagram.
use Rattle.std.specs.Prelude.{◌≡◌, refl, ℕ, ◌+◌, ◌≤◌, zero, suc, Bool, true, false, not, ◌||◌, List, [], ◌∷◌, filter, Option, Some, None, slice_get, if◌then◌else◌}
use Rattle.std.specs.List.{list_any, position, remove}
use Rattle.std.specs.Option.{option_and_then, option_map}
use Rattle.std.proofs.Common.{sym, ◌∙◌, ap, arith}
use Rattle.std.proofs.lemmas.List.Quantifiers.{position-Some}
use Rattle.std.proofs.lemmas.Option.{get_or_from_slice_get}
use Rattle.std.proofs.lemmas.Bool.Decides.{nat_tests}
use Rattle.efi_base.specs.declared.tokens.Ticket.{Ticket}
use Rattle.efi_base.specs.declared.tokens.End.{End}
use Rattle.efi_base.specs.declared.tokens.End.TheVariants.{Success}
use Rattle.efi_book.specs.declared.children.Child.{Child}
use Rattle.efi_book.specs.declared.ends.Pending.{Pending}
use Rattle.efi_book.specs.Pendings.{is_at, is_kind}
use Rattle.efi_book.specs.Books.{Tokens, left_at, ended_at, ticket_of, oldest_kind_of}
use Rattle.efi_book.specs.Cores.{id_of}
use Rattle.efi_book.specs.Acts.{Ended}
use Rattle.efi_book.specs.Aborts.{Rises, IsRising, runs_rise}
use Rattle.drv_ip4.specs.declared.work.IpCfg.{IpCfg}
use Rattle.drv_ip4.specs.declared.work.IpWork.{IpWork}
use Rattle.drv_ip4.specs.declared.work.IpWork.TheVariants.{Receive}
use Rattle.drv_ip4.specs.Works.{kind_of}
use Rattle.drv_ip4.specs.Hearing.{hearers, filled, given, all_given}
use Rattle.efi_base.specs.declared.units.IpPacket.{IpPacket}
use Rattle.efi_book.specs.Cores.{Drive}
use Rattle.ip_core.specs.Bytes.{bytes_kept}
use Rattle.ip_core.specs.Pools.{Datagram, after_packet, datagram_at}
use Rattle.wire_ip4.specs.Packet.{Packet}
use Rattle.drv_ip4.specs.declared.sending.Letter.{Letter}
use Rattle.drv_ip4.specs.declared.work.Hop.{Hop}
use Rattle.drv_ip4.specs.declared.work.Sending.{Sending}
use Rattle.drv_ip4.specs.Icmps.{answer_to, heard_of}
use Rattle.drv_ip4.specs.Nets.{Place}
use Rattle.drv_ip4.specs.Sendings.{answer_hop, answered_down, down}
use Rattle.drv_ip4.specs.Ips.{IpState, given_down, heard_by, in_pools, packet_heard}

-- a receive token of one of these children
abbrev pub is_receive_of : List (Child (Option IpCfg)) → Pending IpWork → Bool
is_receive_of cs p = list_any (λ (c : Child (Option IpCfg)). is_kind kind_of (id_of c.serial) 2 p) cs

abbrev pub is_other : List (Child (Option IpCfg)) → Pending IpWork → Bool
is_other cs p = not (is_receive_of cs p)

above : (low next : ℕ) (ps : List (Pending IpWork)) (k : ℕ) (p : Pending IpWork) → Rises low next ps → slice_get ps k ≡ Some p → low ≤ p.ticket.0
above low next [] k p r e = absurd (cc)
above low next (q ∷ qs) zero p r e =
    let same : q ≡ p = cc in
    let at : q.ticket.0 ≡ p.ticket.0 = ap (λ (x : Pending IpWork). x.ticket.0) same in
    omega (arith, r.0, at)
above low next (q ∷ qs) (suc k) p r e = omega (arith, r.0, above (q.ticket.0 + 1) next qs k p r.1 e)

-- of rising tickets each is there once
one-token : (low next : ℕ) (ps : List (Pending IpWork)) (j k : ℕ) (q p : Pending IpWork) → Rises low next ps → slice_get ps j ≡ Some q → slice_get ps k ≡ Some p
    → q.ticket.0 ≡ p.ticket.0 → q ≡ p
one-token low next [] j k q p r e f t = absurd (cc)
one-token low next (x ∷ xs) zero zero q p r e f t = cc
one-token low next (x ∷ xs) zero (suc k) q p r e f t =
    let same : x ≡ q = cc in
    let at : x.ticket.0 ≡ q.ticket.0 = ap (λ (y : Pending IpWork). y.ticket.0) same in
    absurd (omega (arith, at, t, above (x.ticket.0 + 1) next xs k p r.1 f))
one-token low next (x ∷ xs) (suc j) zero q p r e f t =
    let same : x ≡ p = cc in
    let at : x.ticket.0 ≡ p.ticket.0 = ap (λ (y : Pending IpWork). y.ticket.0) same in
    absurd (omega (arith, at, t, above (x.ticket.0 + 1) next xs j q r.1 e))
one-token low next (x ∷ xs) (suc j) (suc k) q p r e f t = one-token (x.ticket.0 + 1) next xs j k q p r.1 e f t

at-place : (test : Pending IpWork → Bool) (ps : List (Pending IpWork)) (k : ℕ) (p : Pending IpWork) → position test ps ≡ Some k → slice_get ps k ≡ Some p → test p ≡ true
at-place test ps k p e h = ap test (sym (get_or_from_slice_get ps k p p h)) ∙ (position-Some test ps k p e).1

same-number : (q p : Pending IpWork) → is_at p.ticket q ≡ true → q.ticket.0 ≡ p.ticket.0
same-number q p h = grind (arith, nat_tests)

given-rises : (d : IpPacket) (t : Option Ticket) (ts : Tokens IpWork) → IsRising ts → IsRising (filled d t ts)
given-rises d None ts r = r
given-rises d (Some t) ts r = runs_rise ts (Ended t Success (Receive (Some d)) ∷ []) r

module _ (keep : Pending IpWork → Bool) where
  gone : (ps : List (Pending IpWork)) (k : ℕ) (p : Pending IpWork) → slice_get ps k ≡ Some p → keep p ≡ false → filter keep (remove ps k) ≡ filter keep ps
  gone [] k p e h = absurd (cc)
  gone (q ∷ qs) zero p e h =
      let same : q ≡ p = cc in
      sym (ap (λ b. if b then q ∷ filter keep qs else filter keep qs) (ap keep same ∙ h))
  gone (q ∷ qs) (suc k) p e h = ap (λ l. if keep q then q ∷ l else l) (gone qs k p e h)

  left-others : (ts : Tokens IpWork) (k : ℕ) (found : Option (Pending IpWork)) (end : End) (change : IpWork → IpWork) → slice_get ts.pending k ≡ found
      → ((q : Pending IpWork) → found ≡ Some q → keep q ≡ false) → filter keep (left_at ts k found end change).pending ≡ filter keep ts.pending
  left-others ts k None end change e h = refl
  left-others ts k (Some q) end change e h = gone ts.pending k q e (h q refl)

  ended-others : (ts : Tokens IpWork) (k : Option ℕ) (end : End) (change : IpWork → IpWork)
      → ((j : ℕ) (q : Pending IpWork) → k ≡ Some j → slice_get ts.pending j ≡ Some q → keep q ≡ false)
      → filter keep (ended_at ts k end change).pending ≡ filter keep ts.pending
  ended-others ts None end change h = refl
  ended-others ts (Some j) end change h = left-others ts j (slice_get ts.pending j) end change refl (λ q e. h j q refl e)

  found-others : (d : IpPacket) (test : Pending IpWork → Bool) (ts : Tokens IpWork) (k : ℕ) (found : Option (Pending IpWork)) → IsRising ts
      → position test ts.pending ≡ Some k → slice_get ts.pending k ≡ found → ((p : Pending IpWork) → test p ≡ true → keep p ≡ false)
      → filter keep (filled d (ticket_of found) ts).pending ≡ filter keep ts.pending
  found-others d test ts k None r e f h = refl
  found-others d test ts k (Some p) r e f h =
      ended-others ts (position (is_at p.ticket) ts.pending) Success (λ _. Receive (Some d)) (λ j q a b.
      let same : q ≡ p = one-token 1 ts.next ts.pending j k q p r b f (same-number q p (at-place (is_at p.ticket) ts.pending j q a b)) in
      ap keep same ∙ h p (at-place test ts.pending k p e f))

  placed-others : (d : IpPacket) (test : Pending IpWork → Bool) (ts : Tokens IpWork) (k : Option ℕ) → IsRising ts
      → position test ts.pending ≡ k → ((p : Pending IpWork) → test p ≡ true → keep p ≡ false)
      → filter keep (filled d (ticket_of (option_and_then (λ (n : ℕ). slice_get ts.pending n) k)) ts).pending ≡ filter keep ts.pending
  placed-others d test ts None r e h = refl
  placed-others d test ts (Some k) r e h = found-others d test ts k (slice_get ts.pending k) r e refl h

  all-others : (d : IpPacket) (cs : List (Child (Option IpCfg))) (ts : Tokens IpWork) → IsRising ts
      → ((p : Pending IpWork) → is_receive_of cs p ≡ true → keep p ≡ false) → filter keep (all_given d cs ts).pending ≡ filter keep ts.pending
  all-others d [] ts r h = refl
  all-others d (c ∷ cs) ts r h =
      let test = is_kind kind_of (id_of c.serial) 2 in
      all-others d cs (given d c ts) (given-rises d (oldest_kind_of kind_of ts (id_of c.serial) 2) ts r) (λ p t. h p (or-behind (test p) (is_receive_of cs p) t))
      ∙ placed-others d test ts (position test ts.pending) r refl (λ p t. h p (ap (λ b. b || is_receive_of cs p) t))
    where
      or-behind : (a b : Bool) → b ≡ true → (a || b) ≡ true
      or-behind true b h = refl
      or-behind false b h = h

-- what goes down ends no token
down-keeps : (s : Drive IpCfg IpWork Sending) (hop : Option Hop) (l : Letter) (id : ℕ) → (down s hop l id).tokens ≡ s.tokens
down-keeps s None l id = refl
down-keeps s (Some hop) l id = refl

answer-keeps : (s : Drive IpCfg IpWork Sending) (n : Place) (l : Option Letter) → (answered_down s n l).tokens ≡ s.tokens
answer-keeps s n None = refl
answer-keeps s n (Some l) = down-keeps s (answer_hop n l) l n.next

-- a packet ends only receive tokens of children that hear its datagram; the others stay, in their order
pub others_stay : (s : IpState) (now : ℕ) (p : Packet) (d : Datagram) → IsRising s.drive.tokens → datagram_at bytes_kept s.pools now p ≡ Some d
    → filter (is_other (hearers s.net.home (heard_of d).packet s.drive.family)) (packet_heard s now p).drive.tokens.pending
    ≡ filter (is_other (hearers s.net.home (heard_of d).packet s.drive.family)) s.drive.tokens.pending
others_stay s now p d r e =
    let packet : IpPacket = (heard_of d).packet in
    let cs = hearers s.net.home packet s.drive.family in
    let pooled : IpState = in_pools s (after_packet bytes_kept s.pools now p) in
    ap (λ (o : Option Datagram). filter (is_other cs) (heard_by pooled (option_map heard_of o)).drive.tokens.pending) e
    ∙ ap (λ (ts : Tokens IpWork). filter (is_other cs) ts.pending) (answer-keeps (given_down s.drive s.net packet) s.net (answer_to s.net packet))
    ∙ all-others (is_other cs) packet cs s.drive.tokens r (λ q t. ap not t)
