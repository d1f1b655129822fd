-- Lists that are taken from their fronts.
use Rattle.std.proofs.Common.{◌≡◌, ℕ, ◌+◌, ◌≤◌, min, length, Bool, true, false, List, [], ◌∷◌, drop, Option, Some, None, Result, Ok, Err, OnOk, slice_get, refl, ap, cond, arith}
use Rattle.efi_link.specs.Wires.{Wire}
use Rattle.drv_snp.specs.Devices.{Device}
use Rattle.drv_snp.specs.Flushes.{Flushes, FlushesFrom}
use Rattle.drv_snp.specs.declared.device.Queued.{Queued}
use Rattle.drv_snp.specs.declared.device.Sent.{Sent}
use Rattle.efi_book.specs.Books.{completed, work_of}
use Rattle.efi_book.specs.Cores.{in_outbox, in_tokens}
use Rattle.drv_mnp.specs.Mnps.{MnpState, end_of, frame_sent, in_drive, ticket_at}
use Rattle.drv_mnp.specs.Works.{is_transmit}
use Rattle.drv_mnp.specs.declared.work.Framed.{Framed}
use Rattle.wire_link.specs.declared.resolution.Arp.{Arp}
use Rattle.drv_arp.specs.Arps.{ArpState}
use Rattle.drv_arp.specs.Arps as arps
use Rattle.efi_stack.specs.Carries.{emptied}
use Rattle.efi_stack.specs.Sends.{nothing_to_send}

pub front-some : {X : Type 0} (xs : List X) (x : X) → slice_get xs 0 ≡ Some x → xs ≡ x ∷ drop 1 xs
front-some [] x h = absurd (cc)
front-some (y ∷ ys) x h = let same : y ≡ x = cc in ap (λ z. z ∷ ys) same

pub front-none : {X : Type 0} (xs : List X) → slice_get xs 0 ≡ None → xs ≡ []
front-none [] h = refl
front-none (y ∷ ys) h = absurd (cc)

-- counted up to a most
pub up-to : (most tried rest all : ℕ) → tried ≤ most → rest ≡ 0 → min most (tried + rest) ≡ min most all → tried ≡ min most all
up-to most tried rest all small none same = omega (arith, small, none, same)

-- nothing was sent, so nothing waited
none-waits-in : (qs : List Queued) (old new : Device) (w later : Wire) (o : Option Sent) → o ≡ None → FlushesFrom qs old new w later (Ok o) → length qs ≡ 0
none-waits-in [] old new w later o e f = refl
none-waits-in (q ∷ qs) old new w later None e f = absurd f
none-waits-in (q ∷ qs) old new w later (Some s) e f = absurd (cc)

pub none-waits : (old new : Device) (w later : Wire) (o : Option Sent) → o ≡ None → Flushes old new w later (Ok o) → length old.queue ≡ 0
none-waits old new w later o e f = none-waits-in old.queue old new w later o e f

-- the frame in front has left, and the others wait as before
sent-outbox-by : (b : Bool) (m : MnpState) (mark : ℕ) (ok : Bool)
    → (cond b (in_drive m (in_tokens m.drive (completed m.drive.tokens (ticket_at mark) (end_of ok)))) m).drive.outbox ≡ m.drive.outbox
sent-outbox-by true m mark ok = refl
sent-outbox-by false m mark ok = refl

pub sent-outbox : (m : MnpState) (mark : ℕ) (ok : Bool) → (frame_sent m mark ok).drive.outbox ≡ m.drive.outbox
sent-outbox m mark ok = sent-outbox-by (is_transmit (work_of m.drive.tokens (ticket_at mark))) m mark ok

-- where nothing is to be sent nothing is left
pub emptied-none : (d : ArpState) → d.drive.outbox.messages ≡ [] → d ≡ emptied d
emptied-none d none = ap (λ (ms : List Arp). arps.in_drive d (in_outbox d.drive (record { messages = ms; spare = d.drive.outbox.spare }))) none

pub nothing-none : (m : MnpState) → m.drive.outbox.messages ≡ [] → m ≡ nothing_to_send m
nothing-none m none = ap (λ (ms : List Framed). in_drive m (in_outbox m.drive (record { messages = ms; spare = m.drive.outbox.spare }))) none

pub on-ok : {T E : Type 0} (r : Result T E) (P Q : Type 0) → (P → Q) → OnOk r P → OnOk r Q
on-ok (Ok value) P Q f h = f h
on-ok (Err e) P Q f h = tt
