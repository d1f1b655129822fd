-- What a frame leaves as it was: every token but receives of the children that hear it.
use Rattle.std.specs.Prelude.{◌≡◌, refl, ℕ, ◌+◌, ◌≤◌, zero, suc, Bool, true, false, not, ◌||◌, List, [], ◌∷◌, filter, Option, Some, None, slice_get, if◌then◌else◌}
use Rattle.std.specs.List.{list_any, position, remove}
use Rattle.std.specs.Option.{option_and_then}
use Rattle.std.proofs.Common.{sym, ◌∙◌, ap, arith}
use Rattle.std.proofs.lemmas.List.Quantifiers.{position-Some}
use Rattle.std.proofs.lemmas.Option.{get_or_from_slice_get}
use Rattle.std.proofs.lemmas.Bool.Decides.{nat_tests}
use Rattle.efi_base.specs.declared.tokens.Ticket.{Ticket}
use Rattle.efi_base.specs.declared.tokens.End.{End}
use Rattle.efi_base.specs.declared.tokens.End.TheVariants.{Success}
use Rattle.wire_link.specs.Ether.{Frame, frame_of}
use Rattle.efi_book.specs.declared.children.Child.{Child}
use Rattle.efi_book.specs.declared.ends.Pending.{Pending}
use Rattle.efi_book.specs.Pendings.{is_at, is_kind}
use Rattle.efi_book.specs.Books.{Tokens, left_at, ended_at, ticket_of, oldest_kind_of}
use Rattle.efi_book.specs.Cores.{id_of}
use Rattle.efi_book.specs.Acts.{Ended}
use Rattle.efi_book.specs.Aborts.{Rises, IsRising, runs_rise}
use Rattle.drv_mnp.specs.declared.work.MnpCfg.{MnpCfg}
use Rattle.drv_mnp.specs.declared.work.MnpWork.{MnpWork}
use Rattle.drv_mnp.specs.declared.work.MnpWork.TheVariants.{Receive}
use Rattle.drv_mnp.specs.Works.{kind_of}
use Rattle.drv_mnp.specs.Hearing.{hearers, filled, given, all_given}
use Rattle.drv_mnp.specs.Mnps.{MnpState, heard_as, heard}

-- a receive token of one of these children
abbrev pub is_receive_of : List (Child (Option MnpCfg)) → Pending MnpWork → Bool
is_receive_of cs p = list_any (λ (c : Child (Option MnpCfg)). is_kind kind_of (id_of c.serial) 2 p) cs

abbrev pub is_other : List (Child (Option MnpCfg)) → Pending MnpWork → Bool
is_other cs p = not (is_receive_of cs p)

above : (low next : ℕ) (ps : List (Pending MnpWork)) (k : ℕ) (p : Pending MnpWork) → Rises low next ps → slice_get ps k ≡ Some p → low ≤ p.ticket.0
above low next [] k p r e = absurd (cc)
above low next (q ∷ qs) zero p r e =
    let same : q ≡ p = cc in
    let at : q.ticket.0 ≡ p.ticket.0 = ap (λ (x : Pending MnpWork). x.ticket.0) same in
    omega (arith, r.0, at)
above low next (q ∷ qs) (suc k) p r e = omega (arith, r.0, above (q.ticket.0 + 1) next qs k p r.1 e)

-- of rising tickets each is there once
one-token : (low next : ℕ) (ps : List (Pending MnpWork)) (j k : ℕ) (q p : Pending MnpWork) → Rises low next ps → slice_get ps j ≡ Some q → slice_get ps k ≡ Some p
    → q.ticket.0 ≡ p.ticket.0 → q ≡ p
one-token low next [] j k q p r e f t = absurd (cc)
one-token low next (x ∷ xs) zero zero q p r e f t = cc
one-token low next (x ∷ xs) zero (suc k) q p r e f t =
    let same : x ≡ q = cc in
    let at : x.ticket.0 ≡ q.ticket.0 = ap (λ (y : Pending MnpWork). y.ticket.0) same in
    absurd (omega (arith, at, t, above (x.ticket.0 + 1) next xs k p r.1 f))
one-token low next (x ∷ xs) (suc j) zero q p r e f t =
    let same : x ≡ p = cc in
    let at : x.ticket.0 ≡ p.ticket.0 = ap (λ (y : Pending MnpWork). y.ticket.0) same in
    absurd (omega (arith, at, t, above (x.ticket.0 + 1) next xs j q r.1 e))
one-token low next (x ∷ xs) (suc j) (suc k) q p r e f t = one-token (x.ticket.0 + 1) next xs j k q p r.1 e f t

at-place : (test : Pending MnpWork → Bool) (ps : List (Pending MnpWork)) (k : ℕ) (p : Pending MnpWork) → position test ps ≡ Some k → slice_get ps k ≡ Some p → test p ≡ true
at-place test ps k p e h = ap test (sym (get_or_from_slice_get ps k p p h)) ∙ (position-Some test ps k p e).1

same-number : (q p : Pending MnpWork) → is_at p.ticket q ≡ true → q.ticket.0 ≡ p.ticket.0
same-number q p h = grind (arith, nat_tests)

given-rises : (octets : List ℕ) (t : Option Ticket) (ts : Tokens MnpWork) → IsRising ts → IsRising (filled octets t ts)
given-rises octets None ts r = r
given-rises octets (Some t) ts r = runs_rise ts (Ended t Success (Receive (Some octets)) ∷ []) r

module _ (keep : Pending MnpWork → Bool) where
  gone : (ps : List (Pending MnpWork)) (k : ℕ) (p : Pending MnpWork) → slice_get ps k ≡ Some p → keep p ≡ false → filter keep (remove ps k) ≡ filter keep ps
  gone [] k p e h = absurd (cc)
  gone (q ∷ qs) zero p e h =
      let same : q ≡ p = cc in
      sym (ap (λ b. if b then q ∷ filter keep qs else filter keep qs) (ap keep same ∙ h))
  gone (q ∷ qs) (suc k) p e h = ap (λ l. if keep q then q ∷ l else l) (gone qs k p e h)

  left-others : (ts : Tokens MnpWork) (k : ℕ) (found : Option (Pending MnpWork)) (end : End) (change : MnpWork → MnpWork) → slice_get ts.pending k ≡ found
      → ((q : Pending MnpWork) → found ≡ Some q → keep q ≡ false) → filter keep (left_at ts k found end change).pending ≡ filter keep ts.pending
  left-others ts k None end change e h = refl
  left-others ts k (Some q) end change e h = gone ts.pending k q e (h q refl)

  ended-others : (ts : Tokens MnpWork) (k : Option ℕ) (end : End) (change : MnpWork → MnpWork)
      → ((j : ℕ) (q : Pending MnpWork) → k ≡ Some j → slice_get ts.pending j ≡ Some q → keep q ≡ false)
      → filter keep (ended_at ts k end change).pending ≡ filter keep ts.pending
  ended-others ts None end change h = refl
  ended-others ts (Some j) end change h = left-others ts j (slice_get ts.pending j) end change refl (λ q e. h j q refl e)

  found-others : (octets : List ℕ) (test : Pending MnpWork → Bool) (ts : Tokens MnpWork) (k : ℕ) (found : Option (Pending MnpWork)) → IsRising ts
      → position test ts.pending ≡ Some k → slice_get ts.pending k ≡ found → ((p : Pending MnpWork) → test p ≡ true → keep p ≡ false)
      → filter keep (filled octets (ticket_of found) ts).pending ≡ filter keep ts.pending
  found-others octets test ts k None r e f h = refl
  found-others octets test ts k (Some p) r e f h =
      ended-others ts (position (is_at p.ticket) ts.pending) Success (λ _. Receive (Some octets)) (λ j q a b.
      let same : q ≡ p = one-token 1 ts.next ts.pending j k q p r b f (same-number q p (at-place (is_at p.ticket) ts.pending j q a b)) in
      ap keep same ∙ h p (at-place test ts.pending k p e f))

  placed-others : (octets : List ℕ) (test : Pending MnpWork → Bool) (ts : Tokens MnpWork) (k : Option ℕ) → IsRising ts
      → position test ts.pending ≡ k → ((p : Pending MnpWork) → test p ≡ true → keep p ≡ false)
      → filter keep (filled octets (ticket_of (option_and_then (λ (n : ℕ). slice_get ts.pending n) k)) ts).pending ≡ filter keep ts.pending
  placed-others octets test ts None r e h = refl
  placed-others octets test ts (Some k) r e h = found-others octets test ts k (slice_get ts.pending k) r e refl h

  all-others : (octets : List ℕ) (cs : List (Child (Option MnpCfg))) (ts : Tokens MnpWork) → IsRising ts
      → ((p : Pending MnpWork) → is_receive_of cs p ≡ true → keep p ≡ false) → filter keep (all_given octets cs ts).pending ≡ filter keep ts.pending
  all-others octets [] ts r h = refl
  all-others octets (c ∷ cs) ts r h =
      let test = is_kind kind_of (id_of c.serial) 2 in
      all-others octets cs (given octets c ts) (given-rises octets (oldest_kind_of kind_of ts (id_of c.serial) 2) ts r) (λ p t. h p (or-behind (test p) (is_receive_of cs p) t))
      ∙ placed-others octets test ts (position test ts.pending) r refl (λ p t. h p (ap (λ b. b || is_receive_of cs p) t))
    where
      or-behind : (a b : Bool) → b ≡ true → (a || b) ≡ true
      or-behind true b h = refl
      or-behind false b h = h

-- a frame ends only receive tokens of children that hear it; the others stay, in their order
pub others_stay : (s : MnpState) (octets : List ℕ) (f : Frame) → IsRising s.drive.tokens → frame_of octets ≡ Some f
    → filter (is_other (hearers s.mac.0 f s.drive.family)) (heard s octets).drive.tokens.pending
    ≡ filter (is_other (hearers s.mac.0 f s.drive.family)) s.drive.tokens.pending
others_stay s octets f r e =
    let cs = hearers s.mac.0 f s.drive.family in
    ap (λ (o : Option Frame). filter (is_other cs) (heard_as s octets o).drive.tokens.pending) e
    ∙ all-others (is_other cs) octets cs s.drive.tokens r (λ p t. ap not t)
