-- What goes to the link: which frames were tried, in which order, and what MNP was told of each.
use Rattle.std.specs.Prelude.{◌≡◌, ℕ, ◌+◌, ◌-◌, ◌^◌, Bool, true, false, ◌&&◌, nat_le, min, List, [], ◌∷◌, length, count_by}
use Rattle.efi_link.specs.Wires.{Wire, Sends}
use Rattle.efi_book.specs.Cores.{in_outbox}
use Rattle.efi_book.specs.Outboxes.{without_first}
use Rattle.drv_snp.specs.Flushes.{answer_of, with_queue}
use Rattle.drv_snp.specs.declared.device.Queued.{Queued}
use Rattle.drv_mnp.specs.declared.work.Framed.{Framed}
use Rattle.drv_mnp.specs.Mnps.{MnpState, in_drive, frame_sent}
use Rattle.efi_stack.specs.Carries.{all_carried, emptied, no_messages}
use Rattle.efi_stack.specs.Stacks.{is_on}
use Rattle.efi_stack.specs.declared.stack.Stack.{Stack}

-- the device sends frames of 60 to 1,514 octets
abbrev pub fits : Framed → Bool
fits f = nat_le 60 (length f.frame) && nat_le (length f.frame) 1514

-- the link took a frame or lost it, and MNP was told
abbrev pub Tries : List ℕ → ℕ → MnpState → Wire → (MnpState → Wire → Type 0) → Type 0
Tries frame mark m w Then = (ok : Bool) × (mid : Wire) × Sends w mid frame (answer_of ok) × Then (frame_sent m mark ok) mid

-- the frames that wait at the device were tried, one after another
abbrev pub AreFlushed : List Queued → MnpState → MnpState → Wire → Wire → Type 0
AreFlushed [] m after w later = (after ≡ m) × (later ≡ w)
AreFlushed (q ∷ qs) m after w later = Tries q.frame q.mark m w (λ n mid. AreFlushed qs n after mid later)

-- the first frame isn't MNP's any more
abbrev pub taken : MnpState → MnpState
taken m = in_drive m (in_outbox m.drive (without_first m.drive.outbox))

abbrev pub IsSent : Bool → Framed → MnpState → Wire → (MnpState → Wire → Type 0) → Type 0
IsSent false f m w Then = Then m w
IsSent true f m w Then = Tries f.frame f.mark m w Then

-- MNP's frames were tried, one after another
abbrev pub AreSent : List Framed → MnpState → MnpState → Wire → Wire → Type 0
AreSent [] m after w later = (after ≡ m) × (later ≡ w)
AreSent (f ∷ fs) m after w later = IsSent (fits f) f (taken m) w (λ n mid. AreSent fs n after mid later)

abbrev pub nothing_to_send : MnpState → MnpState
nothing_to_send m = in_drive m (in_outbox m.drive (no_messages m.drive.outbox))

-- MNP with what ARP has to send
abbrev pub in_front : Stack → MnpState
in_front s = all_carried s.mnp s.arp.drive.outbox.messages

-- the number of frames that were tried, in 64 bits
abbrev pub tries_of : Stack → ℕ
tries_of s = min (2 ^ 64 - 1) (length s.snp.queue + count_by fits (in_front s).drive.outbox.messages)

abbrev pub IsPolledBy : Bool → Stack → Stack → Wire → Wire → ℕ → Type 0
IsPolledBy false old new w later tried =
    (new ≡ record { snp = old.snp; mnp = nothing_to_send (in_front old); arp = emptied old.arp; next = old.next })
    × (later ≡ w) × (tried ≡ 0)
IsPolledBy true old new w later tried =
    (new.snp ≡ with_queue old.snp []) × (new.arp ≡ emptied old.arp) × (new.next ≡ old.next)
    × (tried ≡ tries_of old)
    × ((m : MnpState) × (mid : Wire) × AreFlushed old.snp.queue (in_front old) m w mid
    × AreSent (in_front old).drive.outbox.messages m new.mnp mid later)

-- what the events left was sent, each frame once: those that wait at the device, and then MNP's with ARP's behind them. Where
-- the device isn't initialized it is dropped
abbrev pub IsPolled : Stack → Stack → Wire → Wire → ℕ → Type 0
IsPolled old new w later tried = IsPolledBy (is_on old) old new w later tried
