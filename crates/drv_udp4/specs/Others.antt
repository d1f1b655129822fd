-- What a datagram leaves as it was: every token but receives of the children that hear it.
use Rattle.std.specs.Prelude.{◌≡◌, refl, ℕ, ◌+◌, ◌≤◌, zero, suc, Bool, true, false, not, ◌||◌, List, [], ◌∷◌, filter, Option, Some, None, slice_get, if◌then◌else◌}
use Rattle.std.specs.List.{list_any, position, remove}
use Rattle.std.specs.Option.{option_and_then}
use Rattle.std.proofs.Common.{sym, ◌∙◌, ap, arith}
use Rattle.std.proofs.lemmas.List.Quantifiers.{position-Some}
use Rattle.std.proofs.lemmas.Option.{get_or_from_slice_get}
use Rattle.std.proofs.lemmas.Bool.Decides.{nat_tests}
use Rattle.efi_base.specs.declared.tokens.Ticket.{Ticket}
use Rattle.efi_base.specs.declared.tokens.End.{End}
use Rattle.efi_base.specs.declared.tokens.End.TheVariants.{Success}
use Rattle.efi_base.specs.declared.units.IpPacket.{IpPacket}
use Rattle.wire_l4.specs.Datagram.{Datagram as Text}
use Rattle.efi_book.specs.declared.children.Child.{Child}
use Rattle.efi_book.specs.declared.ends.Pending.{Pending}
use Rattle.efi_book.specs.Pendings.{is_at, is_kind}
use Rattle.efi_book.specs.Books.{Tokens, left_at, ended_at, ticket_of, oldest_kind_of}
use Rattle.efi_book.specs.Cores.{id_of}
use Rattle.efi_book.specs.Acts.{Ended}
use Rattle.efi_book.specs.Aborts.{Rises, IsRising, runs_rise}
use Rattle.drv_udp4.specs.declared.work.UdpCfg.{UdpCfg}
use Rattle.drv_udp4.specs.declared.work.Ask.{Ask}
use Rattle.drv_udp4.specs.Works.{kind_of_ask}
use Rattle.drv_udp4.specs.Hearing.{Heard, got, hearers, filled, given, all_given}
use Rattle.drv_udp4.specs.Udps.{UdpState, heard_as, heard, heard_text, text_of}

-- a receive token of one of these children
abbrev pub is_receive_of : List (Child (Option UdpCfg)) → Pending Ask → Bool
is_receive_of cs p = list_any (λ (c : Child (Option UdpCfg)). is_kind kind_of_ask (id_of c.serial) 2 p) cs

abbrev pub is_other : List (Child (Option UdpCfg)) → Pending Ask → Bool
is_other cs p = not (is_receive_of cs p)

above : (low next : ℕ) (ps : List (Pending Ask)) (k : ℕ) (p : Pending Ask) → Rises low next ps → slice_get ps k ≡ Some p → low ≤ p.ticket.0
above low next [] k p r e = absurd (cc)
above low next (q ∷ qs) zero p r e =
    let same : q ≡ p = cc in
    let at : q.ticket.0 ≡ p.ticket.0 = ap (λ (x : Pending Ask). x.ticket.0) same in
    omega (arith, r.0, at)
above low next (q ∷ qs) (suc k) p r e = omega (arith, r.0, above (q.ticket.0 + 1) next qs k p r.1 e)

-- of rising tickets each is there once
one-token : (low next : ℕ) (ps : List (Pending Ask)) (j k : ℕ) (q p : Pending Ask) → Rises low next ps → slice_get ps j ≡ Some q → slice_get ps k ≡ Some p
    → q.ticket.0 ≡ p.ticket.0 → q ≡ p
one-token low next [] j k q p r e f t = absurd (cc)
one-token low next (x ∷ xs) zero zero q p r e f t = cc
one-token low next (x ∷ xs) zero (suc k) q p r e f t =
    let same : x ≡ q = cc in
    let at : x.ticket.0 ≡ q.ticket.0 = ap (λ (y : Pending Ask). y.ticket.0) same in
    absurd (omega (arith, at, t, above (x.ticket.0 + 1) next xs k p r.1 f))
one-token low next (x ∷ xs) (suc j) zero q p r e f t =
    let same : x ≡ p = cc in
    let at : x.ticket.0 ≡ p.ticket.0 = ap (λ (y : Pending Ask). y.ticket.0) same in
    absurd (omega (arith, at, t, above (x.ticket.0 + 1) next xs j q r.1 e))
one-token low next (x ∷ xs) (suc j) (suc k) q p r e f t = one-token (x.ticket.0 + 1) next xs j k q p r.1 e f t

at-place : (test : Pending Ask → Bool) (ps : List (Pending Ask)) (k : ℕ) (p : Pending Ask) → position test ps ≡ Some k → slice_get ps k ≡ Some p → test p ≡ true
at-place test ps k p e h = ap test (sym (get_or_from_slice_get ps k p p h)) ∙ (position-Some test ps k p e).1

same-number : (q p : Pending Ask) → is_at p.ticket q ≡ true → q.ticket.0 ≡ p.ticket.0
same-number q p h = grind (arith, nat_tests)

given-rises : (d : Heard) (t : Option Ticket) (ts : Tokens Ask) → IsRising ts → IsRising (filled d t ts)
given-rises d None ts r = r
given-rises d (Some t) ts r = runs_rise ts (Ended t Success (got d) ∷ []) r

module _ (keep : Pending Ask → Bool) where
  gone : (ps : List (Pending Ask)) (k : ℕ) (p : Pending Ask) → slice_get ps k ≡ Some p → keep p ≡ false → filter keep (remove ps k) ≡ filter keep ps
  gone [] k p e h = absurd (cc)
  gone (q ∷ qs) zero p e h =
      let same : q ≡ p = cc in
      sym (ap (λ b. if b then q ∷ filter keep qs else filter keep qs) (ap keep same ∙ h))
  gone (q ∷ qs) (suc k) p e h = ap (λ l. if keep q then q ∷ l else l) (gone qs k p e h)

  left-others : (ts : Tokens Ask) (k : ℕ) (found : Option (Pending Ask)) (end : End) (change : Ask → Ask) → slice_get ts.pending k ≡ found
      → ((q : Pending Ask) → found ≡ Some q → keep q ≡ false) → filter keep (left_at ts k found end change).pending ≡ filter keep ts.pending
  left-others ts k None end change e h = refl
  left-others ts k (Some q) end change e h = gone ts.pending k q e (h q refl)

  ended-others : (ts : Tokens Ask) (k : Option ℕ) (end : End) (change : Ask → Ask)
      → ((j : ℕ) (q : Pending Ask) → k ≡ Some j → slice_get ts.pending j ≡ Some q → keep q ≡ false)
      → filter keep (ended_at ts k end change).pending ≡ filter keep ts.pending
  ended-others ts None end change h = refl
  ended-others ts (Some j) end change h = left-others ts j (slice_get ts.pending j) end change refl (λ q e. h j q refl e)

  found-others : (d : Heard) (test : Pending Ask → Bool) (ts : Tokens Ask) (k : ℕ) (found : Option (Pending Ask)) → IsRising ts
      → position test ts.pending ≡ Some k → slice_get ts.pending k ≡ found → ((p : Pending Ask) → test p ≡ true → keep p ≡ false)
      → filter keep (filled d (ticket_of found) ts).pending ≡ filter keep ts.pending
  found-others d test ts k None r e f h = refl
  found-others d test ts k (Some p) r e f h =
      ended-others ts (position (is_at p.ticket) ts.pending) Success (λ _. got d) (λ j q a b.
      let same : q ≡ p = one-token 1 ts.next ts.pending j k q p r b f (same-number q p (at-place (is_at p.ticket) ts.pending j q a b)) in
      ap keep same ∙ h p (at-place test ts.pending k p e f))

  placed-others : (d : Heard) (test : Pending Ask → Bool) (ts : Tokens Ask) (k : Option ℕ) → IsRising ts
      → position test ts.pending ≡ k → ((p : Pending Ask) → test p ≡ true → keep p ≡ false)
      → filter keep (filled d (ticket_of (option_and_then (λ (n : ℕ). slice_get ts.pending n) k)) ts).pending ≡ filter keep ts.pending
  placed-others d test ts None r e h = refl
  placed-others d test ts (Some k) r e h = found-others d test ts k (slice_get ts.pending k) r e refl h

  all-others : (d : Heard) (cs : List (Child (Option UdpCfg))) (ts : Tokens Ask) → IsRising ts
      → ((p : Pending Ask) → is_receive_of cs p ≡ true → keep p ≡ false) → filter keep (all_given d cs ts).pending ≡ filter keep ts.pending
  all-others d [] ts r h = refl
  all-others d (c ∷ cs) ts r h =
      let test = is_kind kind_of_ask (id_of c.serial) 2 in
      all-others d cs (given d c ts) (given-rises d (oldest_kind_of kind_of_ask ts (id_of c.serial) 2) ts r) (λ p t. h p (or-behind (test p) (is_receive_of cs p) t))
      ∙ placed-others d test ts (position test ts.pending) r refl (λ p t. h p (ap (λ b. b || is_receive_of cs p) t))
    where
      or-behind : (a b : Bool) → b ≡ true → (a || b) ≡ true
      or-behind true b h = refl
      or-behind false b h = h

-- a datagram ends only receive tokens of children that hear it; the others stay, in their order
pub others_stay : (s : UdpState) (p : IpPacket) (d : Text) → IsRising s.drive.tokens → text_of p ≡ Some d
    → filter (is_other (hearers (heard_text s p d) s.drive.family)) (heard s p).drive.tokens.pending
    ≡ filter (is_other (hearers (heard_text s p d) s.drive.family)) s.drive.tokens.pending
others_stay s p d r e =
    let h = heard_text s p d in
    let cs = hearers h s.drive.family in
    ap (λ (o : Option Text). filter (is_other cs) (heard_as s p o).drive.tokens.pending) e
    ∙ all-others (is_other cs) h cs s.drive.tokens r (λ q t. ap not t)
