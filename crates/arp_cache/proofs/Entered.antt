-- An entry that isn't refused is there once it was entered.
use Rattle.std.proofs.Common.{◌≡◌, ℕ, ◌<◌, ◌≤◌, ◌==◌, Bool, true, false, nat_lt, List, [], ◌∷◌, ◌++◌, length, Option, Some, None, refl, arith}
use Rattle.std.proofs.lemmas.Bool.Decides.{nat_tests}
use Rattle.arp_cache.specs.declared.entry.Entry.{Entry}
use Rattle.arp_cache.specs.Entries.{mac_of, stalest, staler, candidate, has_unfixed}
use Rattle.arp_cache.specs.Caches.{has, without, without_first, with_room, join, entered, add_refusal}

-- what was taken out isn't there
gone_at : (x : Entry) (es : List Entry) (ip : ℕ) (b : Bool) → (x.ip.0 == ip) ≡ b → mac_of (without ip es) ip ≡ None → mac_of (without ip (x ∷ es)) ip ≡ None
gone_at x es ip true t rest = grind arith
gone_at x es ip false t rest = grind arith

gone : (es : List Entry) (ip : ℕ) → mac_of (without ip es) ip ≡ None
gone [] ip = refl
gone (x ∷ es) ip = gone_at x es ip (x.ip.0 == ip) refl (gone es ip)

-- taking out another brings nothing back
absent_at : (x : Entry) (es : List Entry) (ip other : ℕ) (b d : Bool) → (x.ip.0 == ip) ≡ b → (x.ip.0 == other) ≡ d →
    (mac_of es ip ≡ None → mac_of (without other es) ip ≡ None) → mac_of (x ∷ es) ip ≡ None → mac_of (without other (x ∷ es)) ip ≡ None
absent_at x es ip other true d t u rest h = grind arith
absent_at x es ip other false true t u rest h = grind arith
absent_at x es ip other false false t u rest h = grind arith

absent : (es : List Entry) (ip other : ℕ) → mac_of es ip ≡ None → mac_of (without other es) ip ≡ None
absent [] ip other h = refl
absent (x ∷ es) ip other h = absent_at x es ip other (x.ip.0 == ip) (x.ip.0 == other) refl refl (absent es ip other) h

-- behind others that don't have its address an entry is found
found_at : (x e : Entry) (es : List Entry) (b : Bool) → (x.ip.0 == e.ip.0) ≡ b →
    (mac_of es e.ip.0 ≡ None → mac_of (es ++ e ∷ []) e.ip.0 ≡ Some e.mac) → mac_of (x ∷ es) e.ip.0 ≡ None → mac_of ((x ∷ es) ++ e ∷ []) e.ip.0 ≡ Some e.mac
found_at x e es true t rest h = grind arith
found_at x e es false t rest h = grind arith

found : (e : Entry) (es : List Entry) → mac_of es e.ip.0 ≡ None → mac_of (es ++ e ∷ []) e.ip.0 ≡ Some e.mac
found e [] h = grind (arith, nat_tests)
found e (x ∷ es) h = found_at x e es (x.ip.0 == e.ip.0) refl (found e es) h

-- a cache is no longer for what was taken out, and shorter where something was
no_longer_at : (x : Entry) (es : List Entry) (ip : ℕ) (b : Bool) → (x.ip.0 == ip) ≡ b → length (without ip es) ≤ length es →
    length (without ip (x ∷ es)) ≤ length (x ∷ es)
no_longer_at x es ip true t rest = grind arith
no_longer_at x es ip false t rest = grind arith

no_longer : (es : List Entry) (ip : ℕ) → length (without ip es) ≤ length es
no_longer [] ip = grind arith
no_longer (x ∷ es) ip = no_longer_at x es ip (x.ip.0 == ip) refl (no_longer es ip)

shorter_at : (x : Entry) (es : List Entry) (ip : ℕ) (b : Bool) → (x.ip.0 == ip) ≡ b → (has es ip ≡ true → length (without ip es) < length es) →
    has (x ∷ es) ip ≡ true → length (without ip (x ∷ es)) < length (x ∷ es)
shorter_at x es ip true t rest h = grind (arith, no_longer es ip)
shorter_at x es ip false t rest h = grind arith

shorter : (es : List Entry) (ip : ℕ) → has es ip ≡ true → length (without ip es) < length es
shorter [] ip h = grind arith
shorter (x ∷ es) ip h = shorter_at x es ip (x.ip.0 == ip) refl (shorter es ip) h

-- the one that goes first is there
there_at : (x v : Entry) (es : List Entry) (o : Option Entry) (b d : Bool) → x.fixed ≡ b → (x.ip.0 == v.ip.0) ≡ d → (o ≡ Some v → has es v.ip.0 ≡ true) →
    staler (candidate x) o ≡ Some v → has (x ∷ es) v.ip.0 ≡ true
there_at x v es o true true f t rest h = grind arith
there_at x v es o true false f t rest h = grind arith
there_at x v es None false true f t rest h = grind (arith, nat_tests)
there_at x v es None false false f t rest h = grind (arith, nat_tests)
there_at x v es (Some y) false true f t rest h = grind (arith, nat_tests)
there_at x v es (Some y) false false f t rest h = grind (arith, nat_tests)

there : (es : List Entry) (v : Entry) → stalest es ≡ Some v → has es v.ip.0 ≡ true
there [] v h = grind arith
there (x ∷ es) v h = there_at x v es (stalest es) x.fixed (x.ip.0 == v.ip.0) refl refl (there es v) h

-- where one isn't fixed, one goes first
none_fixed_at : (x : Entry) (es : List Entry) (o : Option Entry) (b : Bool) → x.fixed ≡ b → (o ≡ None → has_unfixed es ≡ false) →
    staler (candidate x) o ≡ None → has_unfixed (x ∷ es) ≡ false
none_fixed_at x es o true f rest h = grind arith
none_fixed_at x es None false f rest h = grind arith
none_fixed_at x es (Some y) false f rest h = grind arith

none_fixed : (es : List Entry) → stalest es ≡ None → has_unfixed es ≡ false
none_fixed [] h = refl
none_fixed (x ∷ es) h = none_fixed_at x es (stalest es) x.fixed refl (none_fixed es) h

-- a full cache gives up one, where one isn't fixed
room_by : (es : List Entry) (o : Option Entry) → stalest es ≡ o → length es ≤ 256 → has_unfixed es ≡ true → length (without_first o es) < 256
room_by es None s l u = grind (arith, none_fixed es s)
room_by es (Some v) s l u = grind (arith, shorter es v.ip.0 (there es v s))

room_at : (es : List Entry) (b : Bool) → nat_lt (length es) 256 ≡ b → length es ≤ 256 → (b ≡ false → has_unfixed es ≡ true) → length (with_room es) < 256
room_at es true t l u = grind (arith, nat_tests)
room_at es false t l u = rw t (room_by es (stalest es) refl l (u refl))

absent_room : (es : List Entry) (o : Option Entry) (ip : ℕ) (b : Bool) → nat_lt (length es) 256 ≡ b → stalest es ≡ o → mac_of es ip ≡ None → mac_of (with_room es) ip ≡ None
absent_room es o ip true t s h = rw t h
absent_room es None ip false t s h = rw (t, s) h
absent_room es (Some v) ip false t s h = rw (t, s) (absent es ip v.ip.0 h)

-- what isn't there isn't taken out
same_at : (x : Entry) (es : List Entry) (ip : ℕ) (b : Bool) → (x.ip.0 == ip) ≡ b → (has es ip ≡ false → without ip es ≡ es) → has (x ∷ es) ip ≡ false →
    without ip (x ∷ es) ≡ x ∷ es
same_at x es ip true t rest h = grind arith
same_at x es ip false t rest h = grind arith

same : (es : List Entry) (ip : ℕ) → has es ip ≡ false → without ip es ≡ es
same [] ip h = refl
same (x ∷ es) ip h = same_at x es ip (x.ip.0 == ip) refl (same es ip) h

-- what a call that isn't refused finds in a full cache
gives_up : (es : List Entry) (ip : ℕ) (h n u : Bool) → has es ip ≡ h → nat_lt (length es) 256 ≡ n → has_unfixed es ≡ u → length es ≤ 256 →
    add_refusal es ip true ≡ None → nat_lt (length (without ip es)) 256 ≡ false → has_unfixed (without ip es) ≡ true
gives_up es ip true n u s t f l a z = grind (arith, nat_tests, shorter es ip s)
gives_up es ip false true u s t f l a z = grind (arith, same es ip s)
gives_up es ip false false true s t f l a z = grind (arith, same es ip s)
gives_up es ip false false false s t f l a z = grind arith

joined : (l : List Entry) (e : Entry) (b : Bool) → nat_lt (length l) 256 ≡ b → length l < 256 → mac_of l e.ip.0 ≡ None → mac_of (join l e) e.ip.0 ≡ Some e.mac
joined l e true t s n = rw t (found e l n)
joined l e false t s n = grind (arith, nat_tests)

pub entered_found : (es : List Entry) (e : Entry) → length es ≤ 256 → add_refusal es e.ip.0 true ≡ None → mac_of (entered es e) e.ip.0 ≡ Some e.mac
entered_found es e l a =
    let kept : List Entry = without e.ip.0 es in
    let short : length kept ≤ 256 = omega (arith, no_longer es e.ip.0, l) in
    let room : length (with_room kept) < 256 =
    room_at kept (nat_lt (length kept) 256) refl short (gives_up es e.ip.0 (has es e.ip.0) (nat_lt (length es) 256) (has_unfixed es) refl refl refl l a) in
    joined (with_room kept) e (nat_lt (length (with_room kept)) 256) refl room
    (absent_room kept (stalest kept) e.ip.0 (nat_lt (length kept) 256) refl refl (gone es e.ip.0))
