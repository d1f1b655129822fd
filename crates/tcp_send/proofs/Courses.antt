-- What is true after any calls, one call after the other.
use Rattle.std.proofs.Common.{◌≡◌, ◌≤◌, ℕ, ◌+◌, ◌-◌, ◌^◌, Bool, true, false, IsTrue, List, [], ◌∷◌, ◌++◌, length, take, drop, fold, Option, Some, None, refl, sym, ap, subst, ◌∙◌, arith, length-drop, length-append}
use Rattle.std.specs.Prelude.{if◌then◌else◌, IfSome}
use Rattle.std.specs.List.{AllByRecursion}
use Rattle.std.proofs.lemmas.List.{append-nil, drop-append-le, take-append-le, drop-drop, length-take}
use Rattle.efi_base.specs.declared.plain.Tick.{Tick}
use Rattle.tcp_send.specs.declared.text.Cut.{Cut}
use Rattle.tcp_send.specs.declared.peer_window.SendWindow.{SendWindow}
use Rattle.tcp_send.specs.Flight.{left_of}
use Rattle.tcp_send.specs.Numbers.{number_of}
use Rattle.tcp_send.specs.PeerWindow.{updated}
use Rattle.tcp_send.specs.Sender.{Sender, IsSender, pushed_of, push_count, after_push, acknowledged, after_heard, ahead_of, counts, cut_now, after_now}
use Rattle.tcp_send.specs.Stream.{Keeps, IsTrueCut}
use Rattle.tcp_send.specs.Calls.{Call, Course, IsCall, IsCourse, after_call, course_of, start, with_cut, with_acked}
use Rattle.tcp_send.specs.Calls.Call.{pushes, finishes, begins, hears, hears_bare, takes}
use Rattle.tcp_send.proofs.Cuts.{left-base, left-sum}
use Rattle.tcp_send.proofs.Senders.{good-finished, good-pushed}
use Rattle.tcp_send.proofs.Steps.{good-begun, good-restarted, now-goes, heard-goes, counts-within}
use Rattle.tcp_send.proofs.TrueCuts.{now-is-true}

keeps-same : (text : List ℕ) (s t : Sender) → t.base ≡ s.base → t.kept ≡ s.kept → Keeps text s → Keeps text t
keeps-same text s t b k keeps = record { within = omega (arith, keeps.within); rest = k ∙ keeps.rest ∙ ap (λ n. drop n text) (sym b) }

cut-longer : (text more : List ℕ) (finished : Bool) (cut : Cut) → (IsTrue finished → more ≡ []) → IsTrueCut text finished cut → IsTrueCut (text ++ more) finished cut
cut-longer text more finished cut none is =
    let n = length cut.payload.items in
    let at : cut.place ≤ length text = omega (arith, is.within) in
    let long : n ≤ length (drop cut.place text) = omega (arith, is.within, length-drop cut.place text) in
    record {
      within = omega (arith, is.within, length-append text more);
      octets = is.octets ∙ sym (ap (take n) (drop-append-le cut.place text more at) ∙ take-append-le n (drop cut.place text) more long);
      whole = is.whole;
      end = λ fin. omega (arith, is.end fin, length-append text more, ap length (none (is.whole fin)));
    }

cuts-longer : (text more : List ℕ) (finished : Bool) (sent : List Cut) → (IsTrue finished → more ≡ []) → AllByRecursion (IsTrueCut text finished) sent
    → AllByRecursion (IsTrueCut (text ++ more) finished) sent
cuts-longer text more finished [] none all = tt
cuts-longer text more finished (cut ∷ sent) none all = (cut-longer text more finished cut none all.0, cuts-longer text more finished sent none all.1)

cuts-whole : (text : List ℕ) (finished : Bool) (sent : List Cut) → AllByRecursion (IsTrueCut text finished) sent → AllByRecursion (IsTrueCut text true) sent
cuts-whole text finished [] all = tt
cuts-whole text finished (cut ∷ sent) all =
    (record { within = all.0.within; octets = all.0.octets; whole = λ _. refl; end = all.0.end }, cuts-whole text finished sent all.1)

cuts-more : (text : List ℕ) (finished : Bool) (cut : Option Cut) (sent : List Cut) → IfSome cut (IsTrueCut text finished) → AllByRecursion (IsTrueCut text finished) sent
    → AllByRecursion (IsTrueCut text finished) (with_cut cut sent)
cuts-more text finished None sent is all = all
cuts-more text finished (Some cut) sent is all = (is, all)

pushed-none : (s : Sender) (bytes : List ℕ) → IsTrue s.finished → take (push_count s bytes) bytes ≡ []
pushed-none s bytes is = rw is refl

pushed-room : (s : Sender) (bytes : List ℕ) → s.finished ≡ false → push_count s bytes ≤ 2 ^ 62 - pushed_of s
pushed-room s bytes is = rw is (omega arith)

pushed-sound : (s : Sender) (bytes : List ℕ) → IsSender s → IsSender (after_push s bytes)
pushed-sound s bytes good =
    let more = take (push_count s bytes) bytes in
    let count = length-append s.kept more in
    let most : length more ≤ push_count s bytes = omega (arith, length-take (push_count s bytes) bytes) in
    elim s.finished as (λ b. s.finished ≡ b → IsSender (after_push s bytes)) [
      | true ↦ λ e.
          let none : s.kept ++ more ≡ s.kept = ap (λ xs. s.kept ++ xs) (pushed-none s bytes e) ∙ append-nil s.kept in
          let Is : List ℕ → Type 0 = λ kept. IsSender (record s { kept = kept }) in
          subst Is (sym none) good
      | false ↦ λ e. good-pushed s (s.kept ++ more) good e (omega (arith, count)) (omega (arith, count, most, pushed-room s bytes e, good.pushed))
    ] refl

push-step : (c : Course) (bytes : List ℕ) → IsCourse c → IsCourse (after_call c (pushes bytes))
push-step c bytes is =
    let s = c.sender in
    let more = take (push_count s bytes) bytes in
    record {
      sound = pushed-sound s bytes is.sound;
      keeps = record {
        within = omega (arith, is.keeps.within, length-append c.text more);
        rest = ap (λ xs. xs ++ more) is.keeps.rest ∙ sym (drop-append-le s.base c.text more is.keeps.within);
      };
      cuts = cuts-longer c.text more s.finished c.sent (pushed-none s bytes) is.cuts;
      few = is.few;
      una = is.una;
    }

heard-keeps : (text : List ℕ) (s : Sender) (una : ℕ) → IsSender s → Keeps text s → Keeps text (acknowledged s una)
heard-keeps text s una good keeps =
    let base = (left_of una s.base s.flight).base in
    let from = left-base una s.base s.flight in
    let sum = left-sum una s.base s.flight in
    let at : s.base + (base - s.base) ≡ base = omega arith in
    let all : length s.kept ≡ length text - s.base = ap length keeps.rest ∙ length-drop s.base text in
    record {
      within = omega (arith, good.sent, keeps.within);
      rest = ap (drop (base - s.base)) keeps.rest ∙ drop-drop (base - s.base) s.base text ∙ ap (λ n. drop n text) at;
    }

-- an acknowledgment that counts, with any window
heard-step : (c : Course) (now : Tick) (ack : ℕ) (window : SendWindow) → IsCourse c
    → IsCourse (record c {
      sender = if counts c.sender ack then after_heard c.sender now (ahead_of c.sender ack) window else c.sender;
      acked = with_acked c.sender ack c.acked;
    })
heard-step c now ack window is =
    let s = c.sender in
    let ahead = ahead_of s ack in
    let place = s.una + ahead in
    elim (counts s ack) as (λ b. counts s ack ≡ b → IsCourse (record c {
      sender = if b then after_heard s now ahead window else s;
      acked = if b then place ∷ c.acked else c.acked;
    })) [
      | false ↦ λ _. is
      | true ↦ λ e.
          let goes = heard-goes s now ahead window is.sound is.few (counts-within s ack e) in
          let AreTrue : Bool → Type 0 = λ b. AllByRecursion (IsTrueCut c.text b) c.sent in
          record {
            sound = goes.sound;
            keeps = keeps-same c.text (acknowledged s place) (after_heard s now ahead window) goes.base goes.kept (heard-keeps c.text s place is.sound is.keeps);
            cuts = subst AreTrue (sym goes.finished) is.cuts;
            few = goes.few;
            una = goes.una ∙ omega (arith, is.una);
          }
    ] refl

pub step : (c : Course) (call : Call) → IsCall call → IsCourse c → IsCourse (after_call c call)
step c (pushes bytes) h is = push-step c bytes is
step c finishes h is = record {
  sound = good-finished c.sender is.sound;
  keeps = record { within = is.keeps.within; rest = is.keeps.rest };
  cuts = cuts-whole c.text c.sender.finished c.sent is.cuts;
  few = is.few;
  una = is.una;
}
step c (begins now seq size m) h is =
    let window : SendWindow = record { size = size; seq = seq; ack = number_of c.sender.iss 0 } in
    record {
      sound = good-restarted (record c.sender { m = m; window = window }) now (good-begun c.sender window m is.sound h);
      keeps = record { within = is.keeps.within; rest = is.keeps.rest };
      cuts = is.cuts;
      few = is.few;
      una = is.una;
    }
step c (hears now seq ack size) h is = heard-step c now ack (updated c.sender.window seq ack size) is
step c (hears_bare now ack) h is = heard-step c now ack c.sender.window is
step c (takes now) h is =
    let s = c.sender in
    let goes = now-goes s now is.sound is.few in
    let AreTrue : Bool → Type 0 = λ b. AllByRecursion (IsTrueCut c.text b) (with_cut (cut_now s now) c.sent) in
    record {
      sound = goes.sound;
      keeps = keeps-same c.text s (after_now s now) goes.base goes.kept is.keeps;
      cuts = subst AreTrue (sym goes.finished) (cuts-more c.text s.finished (cut_now s now) c.sent (now-is-true c.text s now is.sound is.keeps) is.cuts);
      few = goes.few;
      una = goes.una ∙ is.una;
    }

steps : (c : Course) (calls : List Call) → AllByRecursion IsCall calls → IsCourse c → IsCourse (fold after_call c calls)
steps c [] all is = is
steps c (call ∷ calls) all is = steps (after_call c call) calls all.1 (step c call all.0 is)

starts : (iss : ℕ) → IsCourse (start iss)
starts iss = record {
  sound = record {
    most = omega arith;
    passed = omega arith;
    pushed = omega arith;
    base = omega arith;
    una = omega arith;
    sent = omega arith;
    cuts = tt;
    finished = λ h. h;
    ended = λ _. refl;
  };
  keeps = record { within = omega arith; rest = refl };
  cuts = tt;
  few = omega arith;
  una = refl;
}

pub courses : (iss : ℕ) (calls : List Call) → AllByRecursion IsCall calls → IsCourse (course_of iss calls)
courses iss calls all = steps (start iss) calls all (starts iss)
