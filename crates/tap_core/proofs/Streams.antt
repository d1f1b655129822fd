-- The stream that a receiver and a load hold together.
use Rattle.std.proofs.Common.{◌≡◌, ℕ, zero, suc, ◌+◌, ◌%◌, ◌^◌, ◌≤◌, ◌==◌, ◌&&◌, true, false, List, [], ◌∷◌, ◌++◌, length, take, drop, fold, Option, Some, None, refl, sym, ap, subst, ◌∙◌, arith, append-nil}
use Rattle.std.proofs.lemmas.List.Sums.{fold-append}
use Rattle.tcp_recv.specs.Stream.{Board, front, empty, after_cut, is_over}
use Rattle.tcp_recv.specs.Receiver.{Receiver, accepted_of, is_ended}
use Rattle.tcp_recv.proofs.Standing.{stands-front, accepted-stands}
use Rattle.wire_l4.specs.Segment.{Segment}
use Rattle.load_core.specs.Taken.{HasTaken}
use Rattle.tap_core.specs.declared.download.Download.{Download}
use Rattle.tap_core.specs.Connections.{tap_window, after_segment, after_heard, board_after, is_reset}
use Rattle.tap_core.specs.Ends.{IsFirstEndAt, MeetNothing}
use Rattle.tap_core.specs.Following.{Follows}
use Rattle.tap_core.specs.Segments.{is_cut, cut_of, resets}

-- what is left of the front where some of it is left out
pub front-drop : (n : ℕ) (held : List (Option ℕ)) → n ≤ length (front held) → front (drop n held) ≡ drop n (front held)
front-drop zero held h = refl
front-drop (suc n) [] h = absurd (omega arith)
front-drop (suc n) (None ∷ held) h = absurd (omega arith)
front-drop (suc n) (Some b ∷ held) h = front-drop n held (omega arith)

drop-nil : (n : ℕ) → drop {A = ℕ} n [] ≡ []
drop-nil zero = refl
drop-nil (suc n) = refl

-- the octets that were moved into a room stand at its front
pub take-room : (n : ℕ) (bytes room : List ℕ) → n ≤ length bytes → take n (take n bytes ++ drop n room) ≡ take n bytes
take-room zero bytes room h = refl
take-room (suc n) [] room h = absurd (omega arith)
take-room (suc n) (b ∷ bytes) [] h = ap (λ l. b ∷ l) (ap (λ l. take n (take n bytes ++ l)) (sym (drop-nil n)) ∙ take-room n bytes [] (omega arith))
take-room (suc n) (b ∷ bytes) (x ∷ room) h = ap (λ l. b ∷ l) (take-room n bytes room (omega arith))

-- the load has taken in all that was accepted
pub taken-Follows : (most irs : ℕ) (board : Board) (d : Download) → Follows most irs board d → HasTaken d.load most (front board.kept)
taken-Follows most irs board d f =
    let e : front board.kept ≡ f.carries.given =
    stands-front board f.carries.given d.recv f.carries.stands ∙ ap (λ l. f.carries.given ++ l) f.all_taken ∙ append-nil f.carries.given in
    subst (HasTaken d.load most) (sym e) f.carries.taken

-- the accepted length of both
pub accepted-Follows : (most irs : ℕ) (board : Board) (d : Download) → Follows most irs board d → accepted_of d.recv ≡ length (front board.kept)
accepted-Follows most irs board d f = sym (accepted-stands board f.carries.given d.recv f.carries.stands)

ends-same : (end : Option ℕ) (kept : List (Option ℕ)) (r : Receiver) → end ≡ r.end → length (front kept) ≡ accepted_of r
    → is_ended r ≡ is_over record { kept = kept; end = end }
ends-same None kept r e a = rw (sym e) refl
ends-same (Some n) kept r e a = rw (sym e, sym a) refl

-- and their end
pub over-Follows : (most irs : ℕ) (board : Board) (d : Download) → Follows most irs board d → is_ended d.recv ≡ is_over board
over-Follows most irs board d f = ends-same board.end board.kept d.recv f.carries.stands.end (accepted-stands board f.carries.given d.recv f.carries.stands)

-- what a segment that is a cut makes of what is kept
pub after_segment-cut : (irs : ℕ) (board : Board) (s : Segment) → is_cut s ≡ true → after_segment irs board s ≡ after_cut irs tap_window (length (front board.kept)) board (cut_of s)
unfolding after_segment
after_segment-cut irs board s h = rw h refl

pub after_segment-other : (irs : ℕ) (board : Board) (s : Segment) → is_cut s ≡ false → after_segment irs board s ≡ board
unfolding after_segment
after_segment-other irs board s h = rw h refl

-- a segment that is no cut leaves it
pub follows-other : (most irs : ℕ) (board : Board) (d : Download) (s : Segment) → is_cut s ≡ false → Follows most irs board d → Follows most irs (after_segment irs board s) d
follows-other most irs board d s h f = subst (λ b. Follows most irs b d) (sym (after_segment-other irs board s h)) f

-- a cut is given to the receiver with what was taken
pub after-Follows : (most irs : ℕ) (board : Board) (d : Download) (s : Segment) → is_cut s ≡ true → Follows most irs board d
    → after_cut d.recv.irs d.recv.cap d.recv.taken board (cut_of s) ≡ after_segment irs board s
after-Follows most irs board d s h f =
    let count : d.recv.taken ≡ length (front board.kept) =
    omega (arith, accepted-Follows most irs board d f, ap length f.all_taken) in
    ap (λ n. after_cut n d.recv.cap d.recv.taken board (cut_of s)) f.irs_is ∙ ap (λ n. after_cut irs n d.recv.taken board (cut_of s)) f.cap_is
    ∙ ap (λ n. after_cut irs tap_window n board (cut_of s)) count ∙ sym (after_segment-cut irs board s h)

-- whether a segment resets the connection, by the accepted length that the receiver tells
pub reset-Follows : (most irs : ℕ) (board : Board) (d : Download) (s : Segment) (accepted : ℕ) → Follows most irs board d → accepted ≡ accepted_of d.recv
    → (resets s && s.seq == (d.irs + 1 + accepted) % 2 ^ 32) ≡ is_reset irs board s
reset-Follows most irs board d s accepted f e =
    ap (λ i. resets s && s.seq == (i + 1 + accepted) % 2 ^ 32) f.own_irs
    ∙ ap (λ n. resets s && s.seq == (irs + 1 + n) % 2 ^ 32) (e ∙ accepted-Follows most irs board d f)

-- one record more at which nothing ends
pub nothing-more : (most irs : ℕ) (board : Board) (heard : List (Option Segment)) (h : Option Segment) → MeetNothing most irs board heard
    → IsFirstEndAt most irs (fold (after_heard irs) board heard) h None → MeetNothing most irs board (heard ++ h ∷ [])
nothing-more most irs board [] h before here = (here, tt)
nothing-more most irs board (x ∷ heard) h before here = (before.0, nothing-more most irs (after_heard irs board x) heard h before.1 here)

-- what is kept after one record more
pub board-more : (irs : ℕ) (heard : List (Option Segment)) (h : Option Segment) → board_after irs (heard ++ h ∷ []) ≡ after_heard irs (board_after irs heard) h
board-more irs heard h = fold-append (after_heard irs) empty heard (h ∷ [])
