-- A receiver that holds what is kept of a stream holds it after each cut and each take.
use Rattle.std.proofs.Common.{◌≡◌, ℕ, zero, suc, ◌+◌, ◌-◌, ◌%◌, ◌^◌, ◌<◌, ◌≤◌, max, Bool, true, false, ◌&&◌, ◌==◌, is_none, nat_le, if◌then◌else◌, List, [], ◌∷◌, ◌++◌, length, take, drop, Option, Some, None, refl, sym, ap, subst, ◌∙◌, arith}
use Rattle.std.proofs.lemmas.List.{length-append, length-map, length-take, append-nil, append_assoc, drop_all, map-append, take_all}
use Rattle.efi_window.specs.Places.{Places, edge_of, front, held_after, after_pass, after_put, after_take, put}
use Rattle.tcp_recv.specs.Ends.{up_to_end, end_heard}
use Rattle.tcp_recv.specs.Receiver.{Receiver, Stands, untaken, accepted_of, ends_at, is_next, next_number}
use Rattle.std.proofs.lemmas.Bool.{and_parts, eqb-true, leb-true, false≢true}
use Rattle.tcp_recv.specs.Stream.{ahead, Board, Cut, Place, place_of, after_placed, after_cut}
use Rattle.tcp_recv.proofs.Boards.{given_slots, front-given, after_placed-kept, after_placed-end, after_placed-behind}

-- the window of a receiver, with this held
abbrev pub window_of : Receiver → List (Option ℕ) → Places
window_of r held = record { room = r.room; cap = r.cap; taken = r.taken; held = held }

-- what was given, with what is ready, is what was accepted
pub stands-front : (board : Board) (given : List ℕ) (r : Receiver) → Stands board given r → front board.kept ≡ given ++ untaken r
stands-front board given r s = ap front s.kept ∙ front-given given r.held

-- the accepted length of both
pub accepted-stands : (board : Board) (given : List ℕ) (r : Receiver) → Stands board given r → length (front board.kept) ≡ accepted_of r
accepted-stands board given r s =
    let f : front board.kept ≡ given ++ untaken r = stands-front board given r s in
    omega (arith, ap length f, length-append given (untaken r), s.count)

after_cut-at : (board : Board) (given : List ℕ) (r : Receiver) (cut : Cut) (accepted : ℕ) → Stands board given r → accepted ≡ accepted_of r
    → after_cut r.irs r.cap r.taken board cut ≡ after_placed r.cap r.taken board cut (place_of r.irs accepted cut.seq)
unfolding after_cut
after_cut-at board given r cut accepted s e =
    let same : length (front board.kept) ≡ accepted = accepted-stands board given r s ∙ sym e in
    ap (λ a. after_placed r.cap r.taken board cut (place_of r.irs a cut.seq)) same

stands-placed : (board : Board) (given : List ℕ) (r now : Receiver) (cut : Cut) (p : Place) → Stands board given r
    → p.skipped ≤ length cut.bytes → now.taken ≡ r.taken
    → now.held ≡ held_after (window_of r r.held) p.place (up_to_end r.end p.place (drop p.skipped cut.bytes))
    → now.end ≡ end_heard (window_of r now.held) r.end cut.fin (p.place + length (drop p.skipped cut.bytes))
    → Stands (after_placed r.cap r.taken board cut p) given now
unfolding held_after
stands-placed board given r now cut p s h t k e =
    let kept = after_placed-kept r.cap r.taken board cut p given r.held s.count s.kept in
    let held : (after_placed r.cap r.taken board cut p).kept ≡ given_slots given ++ now.held = rw k (rw (← s.end) kept) in
    let end = after_placed-end r.room r.cap r.taken board cut p given now.held s.count held h in
    record { count = t ∙ s.count; kept = held; end = end ∙ rw s.end (sym e) }

-- a cut
pub stands-cut : (board : Board) (given : List ℕ) (r now : Receiver) (cut : Cut) (accepted place skipped : ℕ) → Stands board given r
    → accepted ≡ accepted_of r → place ≡ (place_of r.irs accepted cut.seq).place → skipped ≡ (place_of r.irs accepted cut.seq).skipped
    → skipped ≤ length cut.bytes → now.taken ≡ r.taken
    → now.held ≡ held_after (window_of r r.held) place (up_to_end r.end place (drop skipped cut.bytes))
    → now.end ≡ end_heard (window_of r now.held) r.end cut.fin (place + length (drop skipped cut.bytes))
    → Stands (after_cut r.irs r.cap r.taken board cut) given now
stands-cut board given r now cut accepted place skipped s a pl sk h t k e =
    let p = place_of r.irs accepted cut.seq in
    let at : after_cut r.irs r.cap r.taken board cut ≡ after_placed r.cap r.taken board cut p = after_cut-at board given r cut accepted s a in
    let held : now.held ≡ held_after (window_of r r.held) p.place (up_to_end r.end p.place (drop p.skipped cut.bytes)) =
    k ∙ ap (λ x. held_after (window_of r r.held) x (up_to_end r.end x (drop skipped cut.bytes))) pl
    ∙ ap (λ n. held_after (window_of r r.held) p.place (up_to_end r.end p.place (drop n cut.bytes))) sk in
    let end : now.end ≡ end_heard (window_of r now.held) r.end cut.fin (p.place + length (drop p.skipped cut.bytes)) =
    e ∙ ap (λ x. end_heard (window_of r now.held) r.end cut.fin (x + length (drop skipped cut.bytes))) pl
    ∙ ap (λ n. end_heard (window_of r now.held) r.end cut.fin (p.place + length (drop n cut.bytes))) sk in
    let stands = stands-placed board given r now cut p s (omega (arith, sk, h)) t held end in
    let P : Board → Type 0 = λ b. Stands b given now in
    subst P (sym at) stands

-- a cut that was put into the receiver's window
pub stands-put : (board : Board) (given : List ℕ) (r : Receiver) (cut : Cut) (accepted place skipped : ℕ) (rest part : List ℕ) (w : Places) (end : Option ℕ)
    → Stands board given r → accepted ≡ accepted_of r → place ≡ (place_of r.irs accepted cut.seq).place → skipped ≡ (place_of r.irs accepted cut.seq).skipped
    → skipped ≤ length cut.bytes → rest ≡ drop skipped cut.bytes → part ≡ up_to_end r.end place rest → w ≡ after_put (window_of r r.held) place part
    → end ≡ end_heard w r.end cut.fin (place + length rest)
    → Stands (after_cut r.irs r.cap r.taken board cut) given record { irs = r.irs; room = w.room; cap = w.cap; taken = w.taken; held = w.held; end = end }
stands-put board given r cut accepted place skipped rest part w end s a pl sk h d q x e =
    let held : w.held ≡ held_after (window_of r r.held) place (up_to_end r.end place (drop skipped cut.bytes)) =
    ap (λ v. v.held) x ∙ ap (held_after (window_of r r.held) place) (q ∙ ap (up_to_end r.end place) d) in
    let same : w ≡ window_of r w.held = x ∙ ap (window_of r) (sym (ap (λ v. v.held) x)) in
    let ends : end ≡ end_heard (window_of r w.held) r.end cut.fin (place + length (drop skipped cut.bytes)) =
    e ∙ ap (λ v. end_heard v r.end cut.fin (place + length rest)) same
    ∙ ap (λ l. end_heard (window_of r w.held) r.end cut.fin (place + length l)) d in
    stands-cut board given r _ cut accepted place skipped s a pl sk h (ap (λ v. v.taken) x) held ends

-- a cut of which nothing has a place
pub stands-behind : (board : Board) (given : List ℕ) (r : Receiver) (cut : Cut) (accepted skipped : ℕ) → Stands board given r
    → accepted ≡ accepted_of r → skipped ≡ (place_of r.irs accepted cut.seq).skipped → length cut.bytes < skipped
    → Stands (after_cut r.irs r.cap r.taken board cut) given r
stands-behind board given r cut accepted skipped s a sk h =
    let p = place_of r.irs accepted cut.seq in
    let at : after_cut r.irs r.cap r.taken board cut ≡ after_placed r.cap r.taken board cut p = after_cut-at board given r cut accepted s a in
    let behind = after_placed-behind r.cap r.taken board cut p (omega (arith, sk, h)) in
    let stands : Stands (after_placed r.cap r.taken board cut p) given r = record { count = s.count; kept = behind.0 ∙ s.kept; end = behind.1 ∙ s.end } in
    let P : Board → Type 0 = λ b. Stands b given r in
    subst P (sym at) stands

take-held : (n : ℕ) (held : List (Option ℕ)) → n ≤ length (front held) → given_slots (take n (front held)) ++ drop n held ≡ held
take-held zero held h = refl
take-held (suc n) [] h = absurd (omega arith)
take-held (suc n) (None ∷ held) h = absurd (omega arith)
take-held (suc n) (Some b ∷ held) h = ap (λ l. Some b ∷ l) (take-held n held (omega arith))

-- a take
stands-take_of : (board : Board) (given : List ℕ) (r : Receiver) (count : ℕ) → Stands board given r → count ≤ length (untaken r)
    → Stands board (given ++ take count (untaken r)) record { irs = r.irs; room = r.room; cap = r.cap; taken = r.taken + count; held = drop count r.held; end = r.end }
stands-take_of board given r count s h =
    let len : length (take count (untaken r)) ≡ count = omega (arith, length-take count (untaken r)) in
    record {
      count = omega (arith, length-append given (take count (untaken r)), s.count, len);
      kept =
          s.kept ∙ ap (λ l. given_slots given ++ l) (sym (take-held count r.held h))
          ∙ sym (append_assoc (given_slots given) (given_slots (take count (untaken r))) (drop count r.held))
          ∙ ap (λ l. l ++ drop count r.held) (sym (map-append {B = Option ℕ} (λ b. Some b) given (take count (untaken r))));
      end = s.end;
    }

-- a take out of the receiver's window
pub stands-take : (board : Board) (given : List ℕ) (r : Receiver) (count : ℕ) (w : Places) → Stands board given r → count ≤ length (untaken r)
    → w ≡ after_take (window_of r r.held) count
    → Stands board (given ++ take count (untaken r)) record { irs = r.irs; room = w.room; cap = w.cap; taken = w.taken; held = w.held; end = r.end }
stands-take board given r count w s h e =
    let P : Places → Type 0 = λ v. Stands board (given ++ take count (untaken r)) record { irs = r.irs; room = v.room; cap = v.cap; taken = v.taken; held = v.held; end = r.end } in
    subst P (sym e) (stands-take_of board given r count s h)

-- ---- bytes that stand next are passed on

place-next : (irs accepted seq : ℕ) → seq ≡ (irs + 1 + accepted) % 2 ^ 32 → place_of irs accepted seq ≡ record { place = accepted; skipped = 0 }
place-next irs accepted seq e =
    let none : ahead irs accepted seq ≡ 0 = omega (arith, e) in
    let same : accepted + 0 ≡ accepted = omega arith in
    rw (none, same) refl

put-none : (bytes : List ℕ) → put zero bytes [] ≡ given_slots bytes
put-none [] = refl
put-none (b ∷ bytes) = ap (λ l. Some b ∷ l) (put-none bytes)

held-next : (w : Places) (bytes : List ℕ) → w.held ≡ [] → length bytes ≤ w.cap → w.taken + length bytes ≤ 2 ^ 62 → held_after w w.taken bytes ≡ given_slots bytes
unfolding held_after
held-next w bytes none fits bound =
    let here : w.taken - w.taken ≡ 0 = omega arith in
    let all : length bytes ≤ edge_of w - max w.taken w.taken = omega (arith, fits, bound) in
    ap (λ n. put n (take (edge_of w - max w.taken w.taken) (drop n bytes)) w.held) here
    ∙ ap (λ l. put zero l w.held) (take_all (edge_of w - max w.taken w.taken) bytes all)
    ∙ ap (put zero bytes) none ∙ put-none bytes

length-given : (bytes : List ℕ) → length (given_slots bytes) ≡ length bytes
length-given bytes = length-map bytes (λ b. Some b)

front-slots : (bytes : List ℕ) → front (given_slots bytes) ≡ bytes
front-slots bytes = ap front (sym (append-nil (given_slots bytes))) ∙ front-given bytes [] ∙ append-nil bytes

abbrev passed-on : Receiver → ℕ → List (Option ℕ) → Receiver
passed-on r count held = record { irs = r.irs; room = r.room; cap = r.cap; taken = r.taken + count; held = held; end = r.end }

-- as if they had been put into the window and taken out of it
pub stands-pass : (board : Board) (given : List ℕ) (r : Receiver) (seq : ℕ) (bytes : List ℕ) → Stands board given r → r.held ≡ [] → r.end ≡ None
    → seq ≡ (r.irs + 1 + r.taken) % 2 ^ 32 → length bytes ≤ r.cap → r.taken + length bytes ≤ 2 ^ 62
    → Stands (after_cut r.irs r.cap r.taken board (record { seq = seq; bytes = bytes; fin = false })) (given ++ bytes) (passed-on r (length bytes) [])
stands-pass board given r seq bytes s none endless next fits bound =
    let cut : Cut = record { seq = seq; bytes = bytes; fin = false } in
    let w = after_put (window_of r r.held) r.taken bytes in
    let place = place-next r.irs r.taken seq next in
    let put-in = stands-put board given r cut r.taken r.taken 0 bytes bytes w r.end s
    (omega (arith, ap (λ h. length (front h)) none)) (sym (ap (λ (p : Place). p.place) place)) (sym (ap (λ (p : Place). p.skipped) place)) (omega arith)
    refl (sym (ap (λ e. up_to_end e r.taken bytes) endless)) refl refl in
    let held : w.held ≡ given_slots bytes = held-next (window_of r r.held) bytes none fits bound in
    let ready : front w.held ≡ bytes = ap front held ∙ front-slots bytes in
    let full : Receiver = record { irs = r.irs; room = r.room; cap = r.cap; taken = r.taken; held = w.held; end = r.end } in
    let taken = stands-take (after_cut r.irs r.cap r.taken board cut) given full (length bytes) (after_take w (length bytes)) put-in (omega (arith, ap length ready)) refl in
    let moved : take (length bytes) (front w.held) ≡ bytes = ap (take (length bytes)) ready ∙ take_all (length bytes) bytes (omega arith) in
    let left : drop (length bytes) w.held ≡ [] = ap (drop (length bytes)) held ∙ drop_all (length bytes) (given_slots bytes) (omega (arith, length-given bytes)) in
    subst (λ l. Stands (after_cut r.irs r.cap r.taken board cut) (given ++ l) (passed-on r (length bytes) [])) moved
    (subst (λ h. Stands (after_cut r.irs r.cap r.taken board cut) (given ++ take (length bytes) (front w.held)) (passed-on r (length bytes) h)) left taken)

none-held : (held : List (Option ℕ)) → (length held == 0) ≡ true → held ≡ []
none-held [] h = refl
none-held (x ∷ held) h = absurd (omega (arith, eqb-true (length (x ∷ held)) 0 h))

none-ended : (end : Option ℕ) → is_none end ≡ true → end ≡ None
none-ended None h = refl
none-ended (Some e) h = absurd (false≢true h)

abbrev as-window : Receiver → Places → Receiver
as-window r w = record { irs = r.irs; room = w.room; cap = w.cap; taken = w.taken; held = w.held; end = r.end }

-- bytes that stand next
pub stands-next : (board : Board) (given : List ℕ) (r : Receiver) (seq : ℕ) (bytes : List ℕ) (w : Places) → Stands board given r
    → is_next r seq (length bytes) ≡ true → w ≡ after_pass (window_of r r.held) (length bytes)
    → Stands (after_cut r.irs r.cap r.taken board (record { seq = seq; bytes = bytes; fin = false })) (given ++ bytes)
    (as-window r w)
stands-next board given r seq bytes w s h e =
    let held = and_parts (length r.held == 0) _ h in
    let end = and_parts (is_none r.end) _ held.1 in
    let number = and_parts (seq == next_number r) _ end.1 in
    let room = and_parts (nat_le (length bytes) r.cap) (nat_le (accepted_of r + length bytes) (2 ^ 62)) number.1 in
    let none : r.held ≡ [] = none-held r.held held.0 in
    let endless : r.end ≡ None = none-ended r.end end.0 in
    let accepted : accepted_of r ≡ r.taken = omega (arith, ap (λ h. length (front h)) none) in
    let next : next_number r ≡ (r.irs + 1 + r.taken) % 2 ^ 32 =
    ap (λ e. (r.irs + 1 + accepted_of r + (if ends_at (accepted_of r) e then 1 else 0)) % 2 ^ 32) endless ∙ ap (λ n. (r.irs + 1 + n + 0) % 2 ^ 32) accepted
    ∙ omega arith in
    let bound : r.taken + length bytes ≤ 2 ^ 62 = omega (arith, leb-true (accepted_of r + length bytes) (2 ^ 62) room.1, accepted) in
    let P : Places → Type 0 = λ v. Stands (after_cut r.irs r.cap r.taken board (record { seq = seq; bytes = bytes; fin = false })) (given ++ bytes) (as-window r v) in
    subst P (sym e) (stands-pass board given r seq bytes s none endless (eqb-true seq (next_number r) number.0 ∙ next) (leb-true (length bytes) r.cap room.0) bound)
