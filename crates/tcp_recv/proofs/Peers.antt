-- What is kept of an honest peer's cuts is of its stream.
use Rattle.std.proofs.Common.{◌≡◌, ℕ, zero, suc, ◌+◌, ◌-◌, ◌^◌, ◌<◌, ◌≤◌, Bool, true, false, cond, ◌&&◌, IsTrue, List, [], ◌∷◌, ◌++◌, length, take, drop, fold, Option, Some, None, nat_le, nat_lt, refl, sym, ap, subst, ◌∙◌, arith}
use Rattle.std.proofs.lemmas.List.{length-append, nil_from_length, append-nil}
use Rattle.std.proofs.lemmas.Bool.Decides.{nat_tests}
use Rattle.std.specs.List.{AllByRecursion}
use Rattle.efi_window.specs.Places.{front, put}
use Rattle.tcp_recv.specs.Peer.{true_place, IsPart, Heard, board_after, IsFrontOf}
use Rattle.tcp_recv.specs.Receiver.{ends_at}
use Rattle.tcp_recv.specs.Stream.{Board, Cut, Place, empty, ahead, place_of, limit_of, end_after, after_placed, after_cut}

-- the distance from the next number, where the place stands at or past it, and where it stands before it
ahead-at : (irs seq accepted t : ℕ) → t ≡ true_place irs seq → seq < 2 ^ 32 → t < 2 ^ 31 → accepted ≤ t → ahead irs accepted seq ≡ t - accepted
ahead-at irs seq accepted t e h k m = omega arith

ahead-before : (irs seq accepted t : ℕ) → t ≡ true_place irs seq → seq < 2 ^ 32 → accepted < 2 ^ 31 → t < accepted → ahead irs accepted seq ≡ 2 ^ 32 - (accepted - t)
ahead-before irs seq accepted t e h k m = omega arith

place-cases : (irs seq accepted t : ℕ) (past : Bool) → past ≡ nat_le accepted t → t ≡ true_place irs seq → seq < 2 ^ 32 → t < 2 ^ 31 → accepted < 2 ^ 31
    → place_of irs accepted seq ≡ record { place = t; skipped = 0 }
place-cases irs seq accepted t true p e h k m =
    let d = ahead-at irs seq accepted t e h k (grind (arith, nat_tests)) in
    let n : nat_lt (ahead irs accepted seq) (2 ^ 31) ≡ true = rw d (grind (arith, nat_tests)) in
    let place : accepted + ahead irs accepted seq ≡ t = rw d (omega arith) in
    let first : Place = record { place = accepted + ahead irs accepted seq; skipped = 0 } in
    let other : Place = record { place = accepted - (2 ^ 32 - ahead irs accepted seq); skipped = 2 ^ 32 - ahead irs accepted seq - accepted } in
    ap (λ b. cond b first other) n ∙ ap (λ x. record { place = x; skipped = 0 }) place
place-cases irs seq accepted t false p e h k m =
    let lt : t < accepted = grind (arith, nat_tests) in
    let d = ahead-before irs seq accepted t e h m lt in
    let n : nat_lt (ahead irs accepted seq) (2 ^ 31) ≡ false = rw d (grind (arith, nat_tests)) in
    let back : 2 ^ 32 - ahead irs accepted seq ≡ accepted - t = rw d (omega arith) in
    let place : accepted - (2 ^ 32 - ahead irs accepted seq) ≡ t = rw back (omega arith) in
    let skipped : 2 ^ 32 - ahead irs accepted seq - accepted ≡ 0 = rw back (omega arith) in
    let first : Place = record { place = accepted + ahead irs accepted seq; skipped = 0 } in
    let other : Place = record { place = accepted - (2 ^ 32 - ahead irs accepted seq); skipped = 2 ^ 32 - ahead irs accepted seq - accepted } in
    ap (λ b. cond b first other) n
    ∙ ap (λ x. record { place = x; skipped = 2 ^ 32 - ahead irs accepted seq - accepted }) place ∙ ap (λ y. record { place = t; skipped = y }) skipped

-- a place below 2^31 is the true one, where less than 2^31 bytes were accepted
pub place-true : (irs seq accepted : ℕ) (stream : List ℕ) → length stream < 2 ^ 31 → seq < 2 ^ 32 → true_place irs seq ≤ length stream
    → accepted ≤ length stream → place_of irs accepted seq ≡ record { place = true_place irs seq; skipped = 0 }
place-true irs seq accepted stream s h t a =
    place-cases irs seq accepted (true_place irs seq) (nat_le accepted (true_place irs seq)) refl refl h (omega arith) (omega arith)

-- bytes that another list begins with
abbrev pub Begins : List ℕ → List ℕ → Type 0
Begins [] ys = Unit {0}
Begins (x ∷ xs) [] = ⊥
Begins (x ∷ xs) (y ∷ ys) = (x ≡ y) × Begins xs ys

begins-take : (n : ℕ) (ys : List ℕ) → Begins (take n ys) ys
begins-take zero ys = tt
begins-take (suc n) [] = tt
begins-take (suc n) (y ∷ ys) = (refl, begins-take n ys)

begins-fewer : (n : ℕ) (xs ys : List ℕ) → Begins xs ys → Begins (take n xs) ys
begins-fewer zero xs ys b = tt
begins-fewer (suc n) [] ys b = tt
begins-fewer (suc n) (x ∷ xs) [] b = absurd b
begins-fewer (suc n) (x ∷ xs) (y ∷ ys) b = (b.0, begins-fewer n xs ys b.1)

-- each byte that is kept is the stream's at its place
abbrev pub Agrees : List (Option ℕ) → List ℕ → Type 0
Agrees [] stream = Unit {0}
Agrees (None ∷ kept) [] = Agrees kept []
Agrees (None ∷ kept) (s ∷ stream) = Agrees kept stream
Agrees (Some b ∷ kept) [] = ⊥
Agrees (Some b ∷ kept) (s ∷ stream) = (b ≡ s) × Agrees kept stream

agrees-put : (place : ℕ) (bytes : List ℕ) (kept : List (Option ℕ)) (stream : List ℕ) → Agrees kept stream → Begins bytes (drop place stream)
    → Agrees (put place bytes kept) stream
agrees-put place [] kept stream a b = a
agrees-put zero (x ∷ bytes) kept [] a b = absurd b
agrees-put zero (x ∷ bytes) [] (s ∷ stream) a b = (b.0, agrees-put zero bytes [] stream tt b.1)
agrees-put zero (x ∷ bytes) (None ∷ kept) (s ∷ stream) a b = (b.0, agrees-put zero bytes kept stream a b.1)
agrees-put zero (x ∷ bytes) (Some o ∷ kept) (s ∷ stream) a b = (a.0, agrees-put zero bytes kept stream a.1 b.1)
agrees-put (suc place) (x ∷ bytes) kept [] a b = absurd b
agrees-put (suc place) (x ∷ bytes) [] (s ∷ stream) a b = agrees-put place (x ∷ bytes) [] stream tt b
agrees-put (suc place) (x ∷ bytes) (None ∷ kept) (s ∷ stream) a b = agrees-put place (x ∷ bytes) kept stream a b
agrees-put (suc place) (x ∷ bytes) (Some o ∷ kept) (s ∷ stream) a b = (a.0, agrees-put place (x ∷ bytes) kept stream a.1 b)

agrees-front : (kept : List (Option ℕ)) (stream : List ℕ) → Agrees kept stream → (rest : List ℕ) × (stream ≡ front kept ++ rest)
agrees-front [] stream a = (stream, refl)
agrees-front (None ∷ kept) stream a = (stream, refl)
agrees-front (Some b ∷ kept) [] a = absurd a
agrees-front (Some b ∷ kept) (s ∷ stream) a =
    let r = agrees-front kept stream a.1 in
    (r.0, ap (λ l. s ∷ l) r.1 ∙ ap (λ x. x ∷ (front kept ++ r.0)) (sym a.0))

agrees-length : (kept : List (Option ℕ)) (stream : List ℕ) → Agrees kept stream → length (front kept) ≤ length stream
agrees-length [] stream a = omega arith
agrees-length (None ∷ kept) stream a = omega arith
agrees-length (Some b ∷ kept) [] a = absurd a
agrees-length (Some b ∷ kept) (s ∷ stream) a = omega (arith, agrees-length kept stream a.1)

-- an end is the stream's
abbrev pub IsEndOf : List ℕ → Option ℕ → Type 0
IsEndOf stream None = Unit {0}
IsEndOf stream (Some end) = end ≡ length stream

chosen-end : (counts : Bool) (f : ℕ) (stream : List ℕ) → f ≡ length stream → IsEndOf stream (cond counts (Some f) None)
chosen-end true f stream h = h
chosen-end false f stream h = tt

counted-end : (cap taken : ℕ) (kept : List (Option ℕ)) (end : Option ℕ) (f : ℕ) (stream : List ℕ) → IsEndOf stream end → f ≡ length stream
    → IsEndOf stream (end_after cap taken kept end f)
counted-end cap taken kept (Some end) f stream e h = e
counted-end cap taken kept None f stream e h = chosen-end _ f stream h

end-with : (fin within : Bool) (counted end : Option ℕ) (stream : List ℕ) → IsEndOf stream end → (IsTrue fin → IsEndOf stream counted)
    → IsEndOf stream (cond (fin && within) counted end)
end-with false within counted end stream e f = e
end-with true false counted end stream e f = e
end-with true true counted end stream e f = f refl

abbrev pub IsOf : List ℕ → Board → Type 0
IsOf stream board = Agrees board.kept stream × IsEndOf stream board.end

after-placed : (irs cap taken : ℕ) (stream : List ℕ) (board : Board) (cut : Cut) → IsOf stream board → IsPart irs stream cut
    → IsOf stream (after_placed cap taken board cut record { place = true_place irs cut.seq; skipped = 0 })
after-placed irs cap taken stream board cut b p =
    let t = true_place irs cut.seq in
    let n = limit_of cap taken board.end - t in
    let P : List ℕ → Type 0 = λ l. Begins l (drop t stream) in
    let bytes : Begins cut.bytes (drop t stream) = subst P (sym p.bytes) (begins-take (length cut.bytes) (drop t stream)) in
    let kept : Agrees (put t (take n cut.bytes) board.kept) stream =
    agrees-put t (take n cut.bytes) board.kept stream b.0 (begins-fewer n cut.bytes (drop t stream) bytes) in
    let end = end-with cut.fin _ _ board.end stream b.1
    (λ f. counted-end cap taken (put t (take n cut.bytes) board.kept) board.end (t + length cut.bytes) stream b.1 (p.fin f)) in
    (kept, end)

pub after-one : (irs cap taken : ℕ) (stream : List ℕ) (board : Board) (cut : Cut) → length stream < 2 ^ 31 → IsOf stream board → IsPart irs stream cut
    → IsOf stream (after_cut irs cap taken board cut)
unfolding after_cut
after-one irs cap taken stream board cut h b p =
    let at = place-true irs cut.seq (length (front board.kept)) stream h p.number p.within (agrees-length board.kept stream b.0) in
    let P : Place → Type 0 = λ q. IsOf stream (after_placed cap taken board cut q) in
    subst P (sym at) (after-placed irs cap taken stream board cut b p)

after-all : (irs cap : ℕ) (stream : List ℕ) (heard : List Heard) (board : Board) → length stream < 2 ^ 31 → IsOf stream board
    → AllByRecursion (λ h. IsPart irs stream h.cut) heard → IsOf stream (fold (λ board h. after_cut irs cap h.taken board h.cut) board heard)
after-all irs cap stream [] board h b p = b
after-all irs cap stream (x ∷ heard) board h b p =
    after-all irs cap stream heard (after_cut irs cap x.taken board x.cut) h (after-one irs cap x.taken stream board x.cut h b p.0) p.1

whole-at : (kept : List (Option ℕ)) (end : Option ℕ) (stream rest : List ℕ) → IsEndOf stream end → stream ≡ front kept ++ rest
    → IsTrue (ends_at (length (front kept)) end) → front kept ≡ stream
whole-at kept None stream rest e f w = absurd (cc)
whole-at kept (Some end) stream rest e f w =
    let n : end ≡ length (front kept) = grind (arith, nat_tests) in
    let none : rest ≡ [] = nil_from_length rest (omega (arith, length-append (front kept) rest, ap length f, e)) in
    sym (f ∙ ap (λ l. front kept ++ l) none ∙ append-nil (front kept))

pub of-front : (stream : List ℕ) (board : Board) → IsOf stream board → IsFrontOf stream board
of-front stream board b =
    let r = agrees-front board.kept stream b.0 in
    record { rest = r.0; front_is = r.1; whole = whole-at board.kept board.end stream r.0 b.1 r.1 }

pub heard-front : (irs window : ℕ) (stream : List ℕ) (heard : List Heard) → length stream < 2 ^ 31
    → AllByRecursion (λ h. IsPart irs stream h.cut) heard → IsFrontOf stream (board_after irs window heard)
heard-front irs window stream heard h p = of-front stream _ (after-all irs window stream heard empty h (tt, tt) p)
