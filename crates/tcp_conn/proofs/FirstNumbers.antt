-- The number of a sender's SYN stays.
use Rattle.std.proofs.Common.{◌≡◌, ℕ, ◌+◌, Bool, true, false, not, nat_lt, ◌&&◌, ◌||◌, ◌==◌, length, is_none, if◌then◌else◌, refl}
use Rattle.efi_base.specs.declared.plain.Tick.{Tick}
use Rattle.tcp_send.specs.declared.peer_window.SendWindow.{SendWindow}
use Rattle.tcp_send.specs.PeerWindow.{updated}
use Rattle.tcp_send.specs.Sender.{Sender, after_ack, after_bare_ack, acknowledged, is_idle, after_heard, counts, ahead_of, is_open, is_due, may_send, after_row, after_new, settled, restarted, after_now, passed_of, row_passed, with_sent, first_cut}

either : (b : Bool) (x y : Sender) (n : ℕ) → x.iss ≡ n → y.iss ≡ n → (if b then x else y).iss ≡ n
either true x y n p q = p
either false x y n p q = q

heard-iss : (s : Sender) (now : Tick) (ahead : ℕ) (window : SendWindow) → (after_heard s now ahead window).iss ≡ s.iss
heard-iss s now ahead window =
    let a : Sender = acknowledged s (s.una + ahead) in
    let t : Sender = record a { window = window; probing = s.probing && (window.size == 0 && nat_lt 0 (length a.flight)) } in
    either (nat_lt 0 ahead || is_idle s) (restarted now t) t s.iss refl refl

pub ack-iss : (s : Sender) (now : Tick) (seq ack size : ℕ) → (after_ack s now seq ack size).iss ≡ s.iss
ack-iss s now seq ack size =
    either (counts s ack) (after_heard s now (ahead_of s ack) (updated s.window seq ack size)) s s.iss (heard-iss s now (ahead_of s ack) (updated s.window seq ack size)) refl

pub bare_ack-iss : (s : Sender) (now : Tick) (ack : ℕ) → (after_bare_ack s now ack).iss ≡ s.iss
bare_ack-iss s now ack =
    either (counts s ack) (after_heard s now (ahead_of s ack) s.window) s s.iss (heard-iss s now (ahead_of s ack) s.window) refl

row-iss : (s : Sender) → (after_row s).iss ≡ s.iss
row-iss s =
    let t : Sender = record s { backoff = row_passed s.backoff } in
    either (not (passed_of s.backoff == 8) && length s.flight == 0) (record (with_sent t (first_cut s 1)) { probing = true }) t s.iss refl refl

settled-iss : (s : Sender) (now : Tick) → (settled s now).iss ≡ s.iss
settled-iss s now = either (is_none s.backoff) (restarted now s) s s.iss refl refl

pub now-iss : (s : Sender) (now : Tick) → (after_now s now).iss ≡ s.iss
now-iss s now =
    let new : Sender = if may_send s then after_new s now else settled s now in
    let open_now : Sender = if is_due s now then after_row s else new in
    either (not (is_open s)) s open_now s.iss refl
    (either (is_due s now) (after_row s) new s.iss (row-iss s) (either (may_send s) (after_new s now) (settled s now) s.iss refl (settled-iss s now)))
